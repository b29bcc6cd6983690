use Rattle.sample_inventory.proofs.order.OrderMessageFields.visit.Goals as goal

pub returns-clause-seen : goal.returns-clause-seen
returns-clause-seen g c = λ z h. c.visit-12.ensures.seen _ (c.visit-11.ensures.seen _ (c.visit-10.ensures.seen _ (c.visit-9.ensures.seen _ (c.visit-8.ensures.seen _ (c.visit-7.ensures.seen _ (c.visit-6.ensures.seen _ (c.visit-5.ensures.seen _ (c.visit-4.ensures.seen _ (c.visit-3.ensures.seen _ (c.visit-2.ensures.seen _ (c.visit.ensures.seen z h)))))))))))
