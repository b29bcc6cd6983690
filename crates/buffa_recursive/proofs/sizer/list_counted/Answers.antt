use Rattle.std.proofs.Common.{ap, subst, ◌∙◌}
use Rattle.std.proofs.lemmas.Result.{err_from_is_err_and}
use Rattle.buffa_wire.specs.Encoding.{records_encoding}
use Rattle.buffa_wire.specs.Passes.{IsSized}
use Rattle.buffa_fields.specs.facts.SchemaFacts.{failed, sum}
use Rattle.buffa_recursive.specs.Fixpoint.{semantics}
use Rattle.buffa_recursive.specs.facts.MemberPassFacts.{other_counted, other_failed}
use Rattle.buffa_recursive.specs.InnerMessages.{list_shape}
use Rattle.buffa_recursive.proofs.sizer.list_counted.Goals as goal

pub returns : goal.returns
returns g c = λ name z h.
    let o = g.M.RecursiveType.schema in
    let s = list_shape (semantics g.M.RecursiveType.COST o g.M.RecursiveType.sound) in
    other_counted o.of_list o.children_list o.list_again s c.args.number c.args.list.now.items z name c.args.cache.now c.list_len.new.cache c.args.total _ _ h
    (subst (λ xs. IsSized (records_encoding (s.records c.args.number xs)) (s.slots xs) c.args.cache.now (sum c.in_ok-len.len) c.list_len.new.cache) c.as_slice.ensures.value c.in_ok-len.ensures.sized) c.saturating_add.ensures

pub returns-in_err-len : goal.returns-in_err-len
returns-in_err-len g c =
    let o = g.M.RecursiveType.schema in
    let s = list_shape (semantics g.M.RecursiveType.COST o g.M.RecursiveType.sound) in
    let e = c.in_err-len.field-0.0 in
    let p = err_from_is_err_and c.from_residual.result c.from_residual.ensures.1 in
    rw (p.1, p.2) (λ name z h.
    other_failed o.of_list o.children_list o.list_again s c.args.number c.args.list.now.items z name c.args.cache.now c.list_len.new.cache c.args.total e h
    (subst (λ xs. IsSized (records_encoding (s.records c.args.number xs)) (s.slots xs) c.args.cache.now (failed e) c.list_len.new.cache) c.as_slice.ensures.value c.in_err-len.ensures.sized)
    (λ none. c.in_err-len.ensures.always (ap s.slots c.as_slice.ensures.value ∙ none)))
