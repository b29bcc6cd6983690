use Rattle.std.proofs.Common.{◌∙◌, map, sym}
use Rattle.std.proofs.lemmas.Result.{err_from_is_err_and}
use Rattle.buffa_fields.specs.facts.ListFacts.{payload_value_there, element_pushed}
use Rattle.buffa_fields.proofs.ListLemmas.{element_from_err}
use Rattle.buffa_fields.proofs.ValueLemmas.{refused_plain}
use Rattle.buffa_fields.proofs.members.list.take_element.Goals as goal

pub returns-in_err-merge-clause-reads : goal.returns-in_err-merge-clause-reads
returns-in_err-merge-clause-reads g c =
    let codec = g.C.MapValueDecode.reading in
    let p = err_from_is_err_and c.from_residual.result c.from_residual.ensures.1 in
    rw (p.1, p.2) (λ ne. element_from_err codec c.args.depth (map g.C.Value.Blank.meaning c.args.values.now.items) c.args.buf.now.now (g.C.Value.Blank.meaning c.blank-value.result)
    (g.met.C.MapValueDecode.blank ∙ sym c.blank-value.ensures) c.in_err-merge.field-0.0
    (refused_plain codec.nested codec c.args.depth (g.C.Value.Blank.meaning c.blank-value.result) c.args.buf.now.now _ c.in_err-merge.field-0.0 g.met.C.MapCodec.plain (c.in_err-merge.ensures.fault ne)))

pub returns-in_err-merge-clause-full : goal.returns-in_err-merge-clause-full
returns-in_err-merge-clause-full g c =
    let p = err_from_is_err_and c.from_residual.result c.from_residual.ensures.1 in
    rw (p.1, p.2) (λ full. (c.in_err-merge.ensures.full full).2)

pub returns-in_err-push-clause-full : goal.returns-in_err-push-clause-full
returns-in_err-push-clause-full g c =
    let p = err_from_is_err_and c.from_residual-in_err-push.result c.from_residual-in_err-push.ensures.1 in
    rw (p.1, p.2) (λ full. payload_value_there g.C.MapValueDecode.reading c.args.depth (g.C.Value.Blank.meaning c.blank-value.result) c.args.buf.now.now _ c.in_ok-merge.ensures.ok)

pub returns-clause-reads : goal.returns-clause-reads
returns-clause-reads g c =
    element_pushed g.C.Value.Blank.meaning g.C.MapValueDecode.reading c.args.depth c.args.values.now.items c.push.new.self.items c.merge.new.value c.args.buf.now.now (g.C.Value.Blank.meaning c.blank-value.result)
    (g.met.C.MapValueDecode.blank ∙ sym c.blank-value.ensures) _ c.merge.new.buf.now c.in_ok-merge.ensures.ok c.in_ok-push.ensures.items
