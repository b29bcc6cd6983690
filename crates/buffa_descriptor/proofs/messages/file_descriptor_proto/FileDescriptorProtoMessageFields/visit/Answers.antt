use Rattle.buffa_descriptor.proofs.messages.file_descriptor_proto.FileDescriptorProtoMessageFields.visit.Goals as goal

pub visit-requires-5-clause-comes : goal.visit-requires-5-clause-comes
visit-requires-5-clause-comes g c = g.V.Visitor.begins _ _ _ (c.visit-4.ensures.waits _ (c.visit-3.ensures.waits _ (c.visit-2.ensures.waits _ (c.visit.ensures.waits _ c.requires))))

pub visit-requires-6-clause-comes : goal.visit-requires-6-clause-comes
visit-requires-6-clause-comes g c = g.V.Visitor.begins _ _ _ (c.visit-5.ensures.waits _ (c.visit-4.ensures.waits _ (c.visit-3.ensures.waits _ (c.visit-2.ensures.waits _ (c.visit.ensures.waits _ c.requires)))))

pub visit-requires-7-clause-comes : goal.visit-requires-7-clause-comes
visit-requires-7-clause-comes g c = g.V.Visitor.begins _ _ _ (c.visit-6.ensures.waits _ (c.visit-5.ensures.waits _ (c.visit-4.ensures.waits _ (c.visit-3.ensures.waits _ (c.visit-2.ensures.waits _ (c.visit.ensures.waits _ c.requires))))))

pub visit-requires-8-clause-comes : goal.visit-requires-8-clause-comes
visit-requires-8-clause-comes g c = g.V.Visitor.begins _ _ _ (c.visit-7.ensures.waits _ (c.visit-6.ensures.waits _ (c.visit-5.ensures.waits _ (c.visit-4.ensures.waits _ (c.visit-3.ensures.waits _ (c.visit-2.ensures.waits _ (c.visit.ensures.waits _ c.requires)))))))

pub visit-requires-9-clause-comes : goal.visit-requires-9-clause-comes
visit-requires-9-clause-comes g c = g.V.Visitor.begins _ _ _ (c.visit-8.ensures.waits _ (c.visit-7.ensures.waits _ (c.visit-6.ensures.waits _ (c.visit-5.ensures.waits _ (c.visit-4.ensures.waits _ (c.visit-3.ensures.waits _ (c.visit-2.ensures.waits _ (c.visit.ensures.waits _ c.requires))))))))

pub returns-clause-seen : goal.returns-clause-seen
returns-clause-seen g c = λ z h. c.visit_unknown_fields.ensures.seen _ (c.visit-12.ensures.seen _ (c.visit-11.ensures.seen _ (c.visit-10.ensures.seen _ (c.visit-9.ensures.seen _ (c.visit-8.ensures.seen _ (c.visit-7.ensures.seen _ (c.visit-6.ensures.seen _ (c.visit-5.ensures.seen _ (c.visit-4.ensures.seen _ (c.visit-3.ensures.seen _ (c.visit-2.ensures.seen _ (c.visit.ensures.seen z h))))))))))))
