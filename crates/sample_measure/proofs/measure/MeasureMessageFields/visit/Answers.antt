use Rattle.sample_measure.proofs.measure.MeasureMessageFields.visit.Goals as goal

pub visit-requires-7-clause-comes : goal.visit-requires-7-clause-comes
visit-requires-7-clause-comes g c = g.V.Visitor.begins _ _ _ (c.visit-6.ensures.waits _ (c.visit-5.ensures.waits _ (c.visit-4.ensures.waits _ (c.visit-3.ensures.waits _ (c.visit_with_unknowns.ensures.waits _ (c.visit-2.ensures.waits _ (c.visit.ensures.waits _ c.requires)))))))

pub returns-clause-seen : goal.returns-clause-seen
returns-clause-seen g c = λ z h. c.visit_unknown_fields.ensures.seen _ (c.visit-8.ensures.seen _ (c.visit-7.ensures.seen _ (c.visit-6.ensures.seen _ (c.visit-5.ensures.seen _ (c.visit-4.ensures.seen _ (c.visit-3.ensures.seen _ (c.visit_with_unknowns.ensures.seen _ (c.visit-2.ensures.seen _ (c.visit.ensures.seen z h)))))))))
