use Rattle.std.proofs.Common.{subst, sym}
use Rattle.buffa_fields.specs.Schema.{Follow, IsPut}
use Rattle.buffa_fields.specs.facts.SchemaFacts.{follows, puts_none, start, was_put}
use Rattle.buffa_recursive.specs.facts.OneOfMeaningFacts.{seen_as}
use Rattle.buffa_fields.specs.OneOfParts.{case_records, case_slots}
use Rattle.buffa_fields.specs.facts.VisitFacts.{comes_all}
use Rattle.buffa_recursive.proofs.one_of.put_case.Goals as goal

pub visit_one_of-requires : goal.visit_one_of-requires
visit_one_of-requires g c =
    let w = c.args.writer.now in
    let ss = case_slots g.E.OneOf.cases c.args.part.now in
    comes_all (λ xs v. Follow xs v.result v.cache.now) ss w (subst (λ r. Follow ss r w.cache.now) (sym c.requires.fresh) (follows ss w.cache.now c.requires.next))

pub returns : goal.returns
returns g c =
    let e = g.E.OneOf.cases in
    let o = c.args.part.now in
    let w = c.args.writer.now in
    let sink = w.sink.ghost_name in
    let before = g.S.EncodeSink.written w.sink.now in
    let cache = w.cache.ghost_name in
    let first = w.cache.now in
    let z = start sink before cache first in
    let new = c.visit_one_of.new.visitor in
    let put = g.S.EncodeSink.written new.sink.now in
    let seen = c.visit_one_of.ensures.seen z (subst (λ r. IsPut sink cache before first r z) (sym c.requires.fresh) (puts_none sink before cache first)) in
    let k = was_put (case_records e o) (case_slots e o) new.sink.ghost_name sink before new.cache.ghost_name cache first new.cache.now put new.result
    (subst (λ x. IsPut new.sink.ghost_name new.cache.ghost_name put new.cache.now new.result x) (seen_as e o z) seen) in
    record { same_sink = k.0; same_cache = k.1; written = k.2 }
