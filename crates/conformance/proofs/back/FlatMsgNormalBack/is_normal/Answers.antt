use Rattle.std.proofs.Common.{[], arith}
use Rattle.std.specs.Int.{cast_unsigned, w64}
use Rattle.buffa_fields.specs.facts.BlankFacts.{is_zero}
use Rattle.buffa_fields.specs.MemberRecords.{implicit_records}
use Rattle.conformance.proofs.NumberLemmas.{unless_fits}
use Rattle.conformance.proofs.back.FlatMsgNormalBack.is_normal.Goals as goal

pub returns : goal.returns
unfolding implicit_records
returns c = λ _.
    let v = c.args.self.now.value in
    let fits = c.encoded_len-value.ensures.fits in
    ((c.members_read_back.ensures, ((fits, tt), tt, tt)), omega arith, unless_fits (is_zero v) 1 (cast_unsigned w64 v) [] tt)
