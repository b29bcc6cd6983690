use Rattle.std.proofs.Common.{IsOk, refl, subst, sym}
use Rattle.buffa_fields.specs.Schema.{Follow, IsPut, visited}
use Rattle.buffa_fields.specs.facts.SchemaFacts.{came, follow_none}
use Rattle.buffa_recursive.specs.RecursiveSchema.{children_shape}
use Rattle.buffa_recursive.specs.Fixpoint.{semantics}
use Rattle.buffa_recursive.specs.facts.MemberPassFacts.{other_unput}
use Rattle.buffa_recursive.specs.InnerMessages.{list_shape}
use Rattle.buffa_recursive.proofs.writer.WriterByRecursiveVisitor.visit_list.Goals as goal

pub list_put-self-requires-clause-next : goal.list_put-self-requires-clause-next
list_put-self-requires-clause-next g c =
    let o = g.M.RecursiveType.schema in
    let ok : IsOk c.args.self.now.result = subst (λ r. IsOk r) (sym c.in-Ok.is) refl in
    came (λ w. w.result) (λ w. w.cache.now) ((children_shape o (semantics g.M.RecursiveType.COST o g.M.RecursiveType.sound)).slots (o.of_list c.args.part.now.items)) c.args.self.now ok c.requires.comes

pub returns-in_default-clause-seen : goal.returns-in_default-clause-seen
returns-in_default-clause-seen g c = λ z h.
    let o = g.M.RecursiveType.schema in
    let t = semantics g.M.RecursiveType.COST o g.M.RecursiveType.sound in
    let w = c.args.self.now in
    let put = g.S.EncodeSink.written w.sink.now in
    subst (λ r. IsPut w.sink.ghost_name w.cache.ghost_name put w.cache.now r (visited (children_shape o t) c.args.number (o.of_list c.args.part.now.items) z)) (sym c.in_default.is)
    (other_unput o.of_list o.children_list o.list_again (list_shape t) c.args.number c.args.part.now.items z w.sink.ghost_name w.cache.ghost_name put w.cache.now _ (subst (λ r. IsPut w.sink.ghost_name w.cache.ghost_name put w.cache.now r z) c.in_default.is h))

pub returns-in_default-clause-waits : goal.returns-in_default-clause-waits
returns-in_default-clause-waits g c = λ rest h.
    let w = c.args.self.now in
    subst (λ r. Follow rest r w.cache.now) (sym c.in_default.is) (follow_none rest rest w.cache.now _)
