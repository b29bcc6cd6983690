use Rattle.std.proofs.Common.{IsOk, refl, subst, sym}
use Rattle.buffa_wire.specs.Encoding.{records_encoding}
use Rattle.buffa_fields.specs.facts.SchemaFacts.{came, follow_on}
use Rattle.buffa_fields.proofs.passes.writer.member_put.Goals as goal

pub write_to-requires-clause-next : goal.write_to-requires-clause-next
write_to-requires-clause-next g c =
    let ok : IsOk c.args.written = subst (λ r. IsOk r) (sym c.in_ok-written.was) refl in
    came (λ k. c.args.written) (λ k. k) (g.M.Member.shape.slots (g.M.Member.shape.meaning c.args.part.now)) c.args.cache.now ok c.requires.comes

pub returns-clause-waits : goal.returns-clause-waits
returns-clause-waits g c = λ rest h.
    let s = g.M.Member.shape in
    let v = s.meaning c.args.part.now in
    let ok : IsOk c.args.written = subst (λ r. IsOk r) (sym c.in_ok-written.was) refl in
    follow_on (records_encoding (s.records c.args.number v)) (s.slots v) rest (g.S.EncodeSink.written c.args.sink.now) (g.S.EncodeSink.written c.write_to.new.sink) c.args.cache.now c.write_to.new.cache c.args.written c.write_to.result ok c.write_to.ensures h
