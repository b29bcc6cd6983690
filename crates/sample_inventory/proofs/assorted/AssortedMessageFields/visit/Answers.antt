use Rattle.sample_inventory.proofs.assorted.AssortedMessageFields.visit.Goals as goal

pub returns-clause-seen : goal.returns-clause-seen
returns-clause-seen g c = λ z h. c.visit_unknown_fields.ensures.seen _ (c.visit-8.ensures.seen _ (c.visit-7.ensures.seen _ (c.visit-6.ensures.seen _ (c.visit-5.ensures.seen _ (c.visit-4.ensures.seen _ (c.visit-3.ensures.seen _ (c.visit-2.ensures.seen _ (c.visit.ensures.seen z h))))))))
