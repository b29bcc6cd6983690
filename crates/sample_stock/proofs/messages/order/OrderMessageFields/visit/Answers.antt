use Rattle.sample_stock.proofs.messages.order.OrderMessageFields.visit.Goals as goal

pub visit-requires-4-clause-comes : goal.visit-requires-4-clause-comes
visit-requires-4-clause-comes g c = g.V.Visitor.begins _ _ _ (c.visit-3.ensures.waits _ (c.visit-2.ensures.waits _ (c.visit.ensures.waits _ c.requires)))
