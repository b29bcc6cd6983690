use Rattle.std.proofs.Common.{IsOk, refl, subst, sym}
use Rattle.buffa_wire.specs.Encoding.{records_encoding}
use Rattle.buffa_fields.specs.facts.SchemaFacts.{came, follow_on}
use Rattle.buffa_fields.specs.OneOfParts.{case_records, case_slots}
use Rattle.buffa_recursive.proofs.one_of.case_put.Goals as goal

pub write_case-requires : goal.write_case-requires
write_case-requires g c =
    let ok : IsOk c.args.written = subst (λ r. IsOk r) (sym c.in_ok-written.was) refl in
    came (λ k. c.args.written) (λ k. k) (case_slots g.E.OneOf.cases c.args.part.now) c.args.cache.now ok c.requires

pub returns-clause-waits : goal.returns-clause-waits
returns-clause-waits g c = λ rest h.
    let e = g.E.OneOf.cases in
    let o = c.args.part.now in
    let ok : IsOk c.args.written = subst (λ r. IsOk r) (sym c.in_ok-written.was) refl in
    follow_on (records_encoding (case_records e o)) (case_slots e o) rest (g.S.EncodeSink.written c.args.sink.now) (g.S.EncodeSink.written c.write_case.new.sink) c.args.cache.now c.write_case.new.cache c.args.written c.write_case.result ok c.write_case.ensures h
