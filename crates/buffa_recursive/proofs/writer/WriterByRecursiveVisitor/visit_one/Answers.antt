use Rattle.std.proofs.Common.{IsOk, refl, subst, sym}
use Rattle.std.specs.Option.{option_map}
use Rattle.buffa_fields.specs.Schema.{Follow, IsPut, visited}
use Rattle.buffa_fields.specs.facts.SchemaFacts.{came, follow_none}
use Rattle.buffa_recursive.specs.RecursiveSchema.{maybe_shape}
use Rattle.buffa_recursive.specs.Fixpoint.{semantics}
use Rattle.buffa_recursive.specs.facts.MemberPassFacts.{other_unput}
use Rattle.buffa_recursive.specs.InnerMessages.{child_shape}
use Rattle.buffa_recursive.proofs.writer.WriterByRecursiveVisitor.visit_one.Goals as goal

pub one_put-self-requires-clause-next : goal.one_put-self-requires-clause-next
one_put-self-requires-clause-next g c =
    let o = g.M.RecursiveType.schema in
    let v = option_map (λ b. b.value) c.args.part.now in
    let ok : IsOk c.args.self.now.result = subst (λ r. IsOk r) (sym c.in-Ok.is) refl in
    came (λ w. w.result) (λ w. w.cache.now) ((maybe_shape o (semantics g.M.RecursiveType.COST o g.M.RecursiveType.sound)).slots (o.of_option v)) c.args.self.now ok c.requires.comes

pub returns-in_default-clause-seen : goal.returns-in_default-clause-seen
returns-in_default-clause-seen g c = λ z h.
    let o = g.M.RecursiveType.schema in
    let t = semantics g.M.RecursiveType.COST o g.M.RecursiveType.sound in
    let w = c.args.self.now in
    let put = g.S.EncodeSink.written w.sink.now in
    let v = option_map (λ b. b.value) c.args.part.now in
    subst (λ r. IsPut w.sink.ghost_name w.cache.ghost_name put w.cache.now r (visited (maybe_shape o t) c.args.number (o.of_option v) z)) (sym c.in_default.is)
    (other_unput o.of_option o.option_of o.option_again (child_shape t) c.args.number v z w.sink.ghost_name w.cache.ghost_name put w.cache.now _ (subst (λ r. IsPut w.sink.ghost_name w.cache.ghost_name put w.cache.now r z) c.in_default.is h))

pub returns-in_default-clause-waits : goal.returns-in_default-clause-waits
returns-in_default-clause-waits g c = λ rest h.
    let w = c.args.self.now in
    subst (λ r. Follow rest r w.cache.now) (sym c.in_default.is) (follow_none rest rest w.cache.now _)
