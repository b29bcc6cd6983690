use Rattle.std.proofs.Common.{[], subst, sym}
use Rattle.buffa_fields.specs.Schema.{IsCounted}
use Rattle.buffa_fields.specs.facts.SchemaFacts.{counts_none, start, was_counted}
use Rattle.buffa_recursive.specs.facts.OneOfMeaningFacts.{seen_as}
use Rattle.buffa_fields.specs.OneOfParts.{case_records, case_slots}
use Rattle.buffa_recursive.proofs.one_of.size_case.Goals as goal

pub returns : goal.returns
returns g c =
    let e = g.E.OneOf.cases in
    let o = c.args.part.now in
    let s = c.args.sizer.now in
    let name = s.cache.ghost_name in
    let first = s.cache.now in
    let z = start 0 [] name first in
    let new = c.visit_one_of.new.visitor in
    let seen = c.visit_one_of.ensures.seen z (subst (λ r. IsCounted name r first z) (sym c.requires) (counts_none 0 [] name first)) in
    let k = was_counted (case_records e o) (case_slots e o) 0 [] new.cache.ghost_name name first new.cache.now new.total
    (subst (λ x. IsCounted new.cache.ghost_name new.total new.cache.now x) (seen_as e o z) seen) in
    record { same_reference = k.0; sized = k.1; always = k.2 }
