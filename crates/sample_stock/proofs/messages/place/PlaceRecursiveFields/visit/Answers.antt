use Rattle.std.proofs.Common.{sym}
use Rattle.sample_stock.proofs.messages.place.PlaceRecursiveFields.visit.Goals as goal

pub visit_list-requires-clause-comes : goal.visit_list-requires-clause-comes
visit_list-requires-clause-comes g c =
    let all = rw (sym c.self.view_is) at c.requires.waits in
    g.V.RecursiveVisitor.begins _ _ _ (c.visit.ensures.waits _ all)

pub returns-clause-seen : goal.returns-clause-seen
returns-clause-seen g c = rw (sym c.self.view_is) (λ z h. c.visit_unknown_fields.ensures.seen _ (c.visit_list.ensures.seen _ (c.visit.ensures.seen z h)))
