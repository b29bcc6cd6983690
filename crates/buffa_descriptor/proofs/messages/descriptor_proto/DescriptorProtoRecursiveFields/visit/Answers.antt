use Rattle.std.proofs.Common.{sym}
use Rattle.buffa_descriptor.proofs.messages.descriptor_proto.DescriptorProtoRecursiveFields.visit.Goals as goal

pub visit-requires-2-clause-comes : goal.visit-requires-2-clause-comes
visit-requires-2-clause-comes g c =
    let all = rw (sym c.self.view_is) at c.requires.waits in
    g.V.RecursiveVisitor.begins _ _ _ (c.visit.ensures.waits _ all)

pub visit_list-requires-clause-comes : goal.visit_list-requires-clause-comes
visit_list-requires-clause-comes g c =
    let all = rw (sym c.self.view_is) at c.requires.waits in
    g.V.RecursiveVisitor.begins _ _ _ (c.visit-2.ensures.waits _ (c.visit.ensures.waits _ all))

pub visit-requires-3-clause-comes : goal.visit-requires-3-clause-comes
visit-requires-3-clause-comes g c =
    let all = rw (sym c.self.view_is) at c.requires.waits in
    g.V.RecursiveVisitor.begins _ _ _ (c.visit_list.ensures.waits _ (c.visit-2.ensures.waits _ (c.visit.ensures.waits _ all)))

pub visit-requires-4-clause-comes : goal.visit-requires-4-clause-comes
visit-requires-4-clause-comes g c =
    let all = rw (sym c.self.view_is) at c.requires.waits in
    g.V.RecursiveVisitor.begins _ _ _ (c.visit-3.ensures.waits _ (c.visit_list.ensures.waits _ (c.visit-2.ensures.waits _ (c.visit.ensures.waits _ all))))

pub visit-requires-5-clause-comes : goal.visit-requires-5-clause-comes
visit-requires-5-clause-comes g c =
    let all = rw (sym c.self.view_is) at c.requires.waits in
    g.V.RecursiveVisitor.begins _ _ _ (c.visit-4.ensures.waits _ (c.visit-3.ensures.waits _ (c.visit_list.ensures.waits _ (c.visit-2.ensures.waits _ (c.visit.ensures.waits _ all)))))

pub visit-requires-6-clause-comes : goal.visit-requires-6-clause-comes
visit-requires-6-clause-comes g c =
    let all = rw (sym c.self.view_is) at c.requires.waits in
    g.V.RecursiveVisitor.begins _ _ _ (c.visit-5.ensures.waits _ (c.visit-4.ensures.waits _ (c.visit-3.ensures.waits _ (c.visit_list.ensures.waits _ (c.visit-2.ensures.waits _ (c.visit.ensures.waits _ all))))))

pub visit-requires-7-clause-comes : goal.visit-requires-7-clause-comes
visit-requires-7-clause-comes g c =
    let all = rw (sym c.self.view_is) at c.requires.waits in
    g.V.RecursiveVisitor.begins _ _ _ (c.visit-6.ensures.waits _ (c.visit-5.ensures.waits _ (c.visit-4.ensures.waits _ (c.visit-3.ensures.waits _ (c.visit_list.ensures.waits _ (c.visit-2.ensures.waits _ (c.visit.ensures.waits _ all)))))))

pub visit-requires-8-clause-comes : goal.visit-requires-8-clause-comes
visit-requires-8-clause-comes g c =
    let all = rw (sym c.self.view_is) at c.requires.waits in
    g.V.RecursiveVisitor.begins _ _ _ (c.visit-7.ensures.waits _ (c.visit-6.ensures.waits _ (c.visit-5.ensures.waits _ (c.visit-4.ensures.waits _ (c.visit-3.ensures.waits _ (c.visit_list.ensures.waits _ (c.visit-2.ensures.waits _ (c.visit.ensures.waits _ all))))))))

pub returns-clause-seen : goal.returns-clause-seen
returns-clause-seen g c = rw (sym c.self.view_is) (λ z h. c.visit_unknown_fields.ensures.seen _ (c.visit-9.ensures.seen _ (c.visit-8.ensures.seen _ (c.visit-7.ensures.seen _ (c.visit-6.ensures.seen _ (c.visit-5.ensures.seen _ (c.visit-4.ensures.seen _ (c.visit-3.ensures.seen _ (c.visit_list.ensures.seen _ (c.visit-2.ensures.seen _ (c.visit.ensures.seen z h)))))))))))
