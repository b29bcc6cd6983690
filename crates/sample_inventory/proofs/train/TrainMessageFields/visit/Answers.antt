use Rattle.sample_inventory.proofs.train.TrainMessageFields.visit.Goals as goal

pub visit-requires-2-clause-comes : goal.visit-requires-2-clause-comes
visit-requires-2-clause-comes g c = g.V.Visitor.begins _ _ _ (c.visit.ensures.waits _ c.requires)
