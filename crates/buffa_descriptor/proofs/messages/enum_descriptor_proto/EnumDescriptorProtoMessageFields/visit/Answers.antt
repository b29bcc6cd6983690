use Rattle.buffa_descriptor.proofs.messages.enum_descriptor_proto.EnumDescriptorProtoMessageFields.visit.Goals as goal

pub visit-requires-3-clause-comes : goal.visit-requires-3-clause-comes
visit-requires-3-clause-comes g c = g.V.Visitor.begins _ _ _ (c.visit-2.ensures.waits _ (c.visit.ensures.waits _ c.requires))

pub visit-requires-4-clause-comes : goal.visit-requires-4-clause-comes
visit-requires-4-clause-comes g c = g.V.Visitor.begins _ _ _ (c.visit-3.ensures.waits _ (c.visit-2.ensures.waits _ (c.visit.ensures.waits _ c.requires)))
