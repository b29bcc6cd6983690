use Rattle.std.proofs.Common.{subst, sym}
use Rattle.buffa_fields.specs.Schema.{IsCounted, visited}
use Rattle.buffa_recursive.specs.RecursiveSchema.{children_shape}
use Rattle.buffa_recursive.specs.Fixpoint.{semantics}
use Rattle.buffa_recursive.specs.facts.MemberPassFacts.{other_uncounted}
use Rattle.buffa_recursive.specs.InnerMessages.{list_shape}
use Rattle.buffa_recursive.proofs.sizer.SizerByRecursiveVisitor.visit_list.Goals as goal

pub returns-in_default-clause-seen : goal.returns-in_default-clause-seen
returns-in_default-clause-seen g c = λ z h.
    let o = g.M.RecursiveType.schema in
    let w = semantics g.M.RecursiveType.COST o g.M.RecursiveType.sound in
    let s = c.args.self.now in
    subst (λ r. IsCounted s.cache.ghost_name r s.cache.now (visited (children_shape o w) c.args.number (o.of_list c.args.part.now.items) z)) (sym c.in_default.is)
    (other_uncounted o.of_list o.children_list o.list_again (list_shape w) c.args.number c.args.part.now.items z s.cache.ghost_name s.cache.now _ (subst (λ r. IsCounted s.cache.ghost_name r s.cache.now z) c.in_default.is h))
