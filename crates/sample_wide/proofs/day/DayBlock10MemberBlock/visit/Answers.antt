use Rattle.std.proofs.Common.{[]}
use Rattle.buffa_fields.specs.Terms.{both_waited, first_comes, second_comes}
use Rattle.sample_wide.proofs.day.DayBlock10MemberBlock.visit.Goals as goal

pub visit-requires-7-clause-comes : goal.visit-requires-7-clause-comes
visit-requires-7-clause-comes g c = first_comes g.V.Visitor.Waits g.V.Visitor.begins _ _ _ (second_comes g.V.Visitor.Waits [] _ _ _ c.visit-6.ensures.waits (second_comes g.V.Visitor.Waits [] _ _ _ c.visit-5.ensures.waits (second_comes g.V.Visitor.Waits [] _ _ _ c.visit-4.ensures.waits (second_comes g.V.Visitor.Waits [] _ _ _ c.visit-3.ensures.waits (second_comes g.V.Visitor.Waits [] _ _ _ c.visit-2.ensures.waits (second_comes g.V.Visitor.Waits [] _ _ _ c.visit.ensures.waits (c.requires)))))))

pub returns-clause-waits : goal.returns-clause-waits
returns-clause-waits g c = both_waited g.V.Visitor.Waits [] _ _ _ _ c.visit.ensures.waits (both_waited g.V.Visitor.Waits [] _ _ _ _ c.visit-2.ensures.waits (both_waited g.V.Visitor.Waits [] _ _ _ _ c.visit-3.ensures.waits (both_waited g.V.Visitor.Waits [] _ _ _ _ c.visit-4.ensures.waits (both_waited g.V.Visitor.Waits [] _ _ _ _ c.visit-5.ensures.waits (both_waited g.V.Visitor.Waits [] _ _ _ _ c.visit-6.ensures.waits (both_waited g.V.Visitor.Waits _ [] _ _ _ c.visit-7.ensures.waits (c.visit-8.ensures.waits)))))))
