use Rattle.std.proofs.Common.{sym}
use Rattle.sample_node.proofs.node.NodeRecursiveFields.visit.Goals as goal

pub visit_map-requires-clause-comes : goal.visit_map-requires-clause-comes
visit_map-requires-clause-comes g c =
    let all = rw (sym c.self.view_is) at c.requires.waits in
    g.V.RecursiveVisitor.begins _ _ c.visit.new.self (c.visit.ensures.waits _ all)

pub returns-clause-seen : goal.returns-clause-seen
returns-clause-seen g c =
    rw (sym c.self.view_is) (λ z h. c.visit_unknown_fields.ensures.seen _ (c.visit_with_unknowns.ensures.seen _ (c.visit_map.ensures.seen _ (c.visit.ensures.seen z h))))
