use Rattle.std.proofs.Common.{subst}
use Rattle.buffa_fields.specs.Schema.{IsCounted}
use Rattle.buffa_recursive.specs.facts.OneOfMeaningFacts.{seen_by_meaning}
use Rattle.buffa_recursive.proofs.sizer.SizerByRecursiveVisitor.visit_one_of.Goals as goal

pub returns-clause-seen : goal.returns-clause-seen
returns-clause-seen g c = λ z h.
    let s = c.args.self.now in
    subst (λ x. IsCounted s.cache.ghost_name c.case_counted-self.result c.case_counted-self.new.cache x) (seen_by_meaning g.E.OneOf.cases c.args.part.now z) (c.case_counted-self.ensures s.cache.ghost_name z h)
