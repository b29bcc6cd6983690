use Rattle.std.proofs.Common.{sym}
use Rattle.sample_outline.proofs.outline.OutlineRecursiveFields.visit.Goals as goal

pub visit_list-requires-clause-comes : goal.visit_list-requires-clause-comes
visit_list-requires-clause-comes g c =
    let all = rw (sym c.self.view_is) at c.requires.waits in
    g.V.RecursiveVisitor.begins _ _ _ (c.visit.ensures.waits _ all)

pub visit_one-requires-clause-comes : goal.visit_one-requires-clause-comes
visit_one-requires-clause-comes g c =
    let all = rw (sym c.self.view_is) at c.requires.waits in
    g.V.RecursiveVisitor.begins _ _ _ (c.visit-2.ensures.waits _ (c.visit_list.ensures.waits _ (c.visit.ensures.waits _ all)))

pub visit_map-requires-clause-comes : goal.visit_map-requires-clause-comes
visit_map-requires-clause-comes g c =
    let all = rw (sym c.self.view_is) at c.requires.waits in
    g.V.RecursiveVisitor.begins _ _ _ (c.visit_one.ensures.waits _ (c.visit-2.ensures.waits _ (c.visit_list.ensures.waits _ (c.visit.ensures.waits _ all))))

pub visit_one_of-requires : goal.visit_one_of-requires
visit_one_of-requires g c =
    let all = rw (sym c.self.view_is) at c.requires.waits in
    g.V.RecursiveVisitor.begins _ _ _ (c.visit_with_unknowns.ensures.waits _ (c.visit_map.ensures.waits _ (c.visit_one.ensures.waits _ (c.visit-2.ensures.waits _ (c.visit_list.ensures.waits _ (c.visit.ensures.waits _ all))))))

pub returns-clause-seen : goal.returns-clause-seen
returns-clause-seen g c = rw (sym c.self.view_is) (λ z h. c.visit_unknown_fields.ensures.seen _ (c.visit_one_of.ensures.seen _ (c.visit_with_unknowns.ensures.seen _ (c.visit_map.ensures.seen _ (c.visit_one.ensures.seen _ (c.visit-2.ensures.seen _ (c.visit_list.ensures.seen _ (c.visit.ensures.seen z h))))))))
