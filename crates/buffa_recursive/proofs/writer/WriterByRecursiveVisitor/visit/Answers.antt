use Rattle.buffa_fields.specs.Schema.{Follow}
use Rattle.buffa_fields.specs.facts.VisitFacts.{comes_to}
use Rattle.buffa_recursive.proofs.writer.WriterByRecursiveVisitor.visit.Goals as goal

pub member_put-self-requires-clause-comes : goal.member_put-self-requires-clause-comes
member_put-self-requires-clause-comes g c =
    let w = c.args.self.now in
    let s = g.N.Member.shape in
    comes_to (λ ss v. Follow ss v.result v.cache.now) (λ ss k. Follow ss w.result k) w w.cache.now (λ ss h. h) (s.slots (s.meaning c.args.part.now)) c.requires.comes
