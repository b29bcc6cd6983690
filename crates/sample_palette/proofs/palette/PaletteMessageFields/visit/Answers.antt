use Rattle.sample_palette.proofs.palette.PaletteMessageFields.visit.Goals as goal

pub visit-requires-3-clause-comes : goal.visit-requires-3-clause-comes
visit-requires-3-clause-comes g c = g.V.Visitor.begins _ _ _ (c.visit-2.ensures.waits _ (c.visit_with_unknowns-5.ensures.waits _ (c.visit_with_unknowns-4.ensures.waits _ (c.visit_with_unknowns-3.ensures.waits _ (c.visit_with_unknowns-2.ensures.waits _ (c.visit_with_unknowns.ensures.waits _ (c.visit.ensures.waits _ c.requires)))))))

pub returns-clause-seen : goal.returns-clause-seen
returns-clause-seen g c = λ z h. c.visit_unknown_fields.ensures.seen _ (c.visit-3.ensures.seen _ (c.visit-2.ensures.seen _ (c.visit_with_unknowns-5.ensures.seen _ (c.visit_with_unknowns-4.ensures.seen _ (c.visit_with_unknowns-3.ensures.seen _ (c.visit_with_unknowns-2.ensures.seen _ (c.visit_with_unknowns.ensures.seen _ (c.visit.ensures.seen z h))))))))
