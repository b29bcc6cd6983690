use Rattle.std.proofs.Common.{[], ◌∷◌, ◌++◌, arith}
use Rattle.std.specs.Int.{cast_unsigned, w64}
use Rattle.buffa_fields.specs.facts.BlankFacts.{is_zero}
use Rattle.buffa_fields.specs.MemberRecords.{implicit_records}
use Rattle.buffa_fields.specs.Values.{records_unless}
use Rattle.buffa_wire.specs.Records.{varint}
use Rattle.conformance.proofs.NumberLemmas.{unless_fits}
use Rattle.conformance.proofs.back.TestMsgNormalBack.is_normal.Goals as goal

pub returns : goal.returns
unfolding implicit_records
returns c = λ _.
    let a = c.args.self.now.a in
    let b = c.args.self.now.b in
    let first = c.encoded_len-a.ensures.fits in
    let second = c.encoded_len-b.ensures.fits in
    let more = records_unless (is_zero b) ((2, varint (cast_unsigned w64 b)) ∷ []) ++ [] in (
      (c.members_read_back.ensures, ((first, tt), ((second, tt), tt, tt), tt)),
      omega arith,
      unless_fits (is_zero a) 1 (cast_unsigned w64 a) more (unless_fits (is_zero b) 2 (cast_unsigned w64 b) [] tt),
    )
