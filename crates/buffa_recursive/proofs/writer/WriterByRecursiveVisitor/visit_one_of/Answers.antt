use Rattle.std.proofs.Common.{subst}
use Rattle.buffa_fields.specs.Schema.{Follow, IsPut}
use Rattle.buffa_recursive.specs.facts.OneOfMeaningFacts.{seen_by_meaning}
use Rattle.buffa_fields.specs.OneOfParts.{case_slots}
use Rattle.buffa_fields.specs.facts.VisitFacts.{comes_to}
use Rattle.buffa_recursive.proofs.writer.WriterByRecursiveVisitor.visit_one_of.Goals as goal

pub case_put-self-requires : goal.case_put-self-requires
case_put-self-requires g c =
    let w = c.args.self.now in
    comes_to (λ ss v. Follow ss v.result v.cache.now) (λ ss k. Follow ss w.result k) w w.cache.now (λ ss h. h) (case_slots g.E.OneOf.cases c.args.part.now) c.requires

pub returns-clause-seen : goal.returns-clause-seen
returns-clause-seen g c = λ z h.
    let w = c.args.self.now in
    subst (λ x. IsPut w.sink.ghost_name w.cache.ghost_name (g.S.EncodeSink.written c.case_put-self.new.sink) c.case_put-self.new.cache c.case_put-self.result x) (seen_by_meaning g.E.OneOf.cases c.args.part.now z) (c.case_put-self.ensures.seen w.sink.ghost_name w.cache.ghost_name z h)
