use Rattle.std.proofs.Common.{◌≤◌, ◌+◌, ap, subst, ◌∙◌}
use Rattle.buffa_wire.proofs.CostLemmas.{plus_nothing}
use Rattle.buffa_wire.specs.BudgetLeft.{plus}
use Rattle.buffa_map.specs.EntryReading.{charge_of}
use Rattle.buffa_fields_laws.proofs.RecordLemmas.{entry_costs, no_entry_costs, others_are_free}
use Rattle.buffa_fields.specs.ClosedEnumMaps.{unknown_entry_levels, kept_entry_cost, put_or_keep_cost}
use Rattle.buffa_fields_laws.proofs.refusals.refused_kept_entries_are_not_put.Goals as goal

pub returns-clause-fault : goal.returns-clause-fault
returns-clause-fault g c = λ d n t e more f h is.
    let key = g.KC.MapValueDecode.reading in
    let val = g.VC.MapValueDecode.reading in
    let cost = g.KC.MapValueDecode.COST + g.VC.MapValueDecode.COST in
    let needs = charge_of key val d cost e in
    entry_costs (put_or_keep_cost key val cost) d n t e more h
    ∙ ap (λ r. plus needs (kept_entry_cost key val r)) is ∙ plus_nothing needs

pub returns-clause-no_bytes : goal.returns-clause-no_bytes
returns-clause-no_bytes g c = λ d n bs f h.
    let cost = g.KC.MapValueDecode.COST + g.VC.MapValueDecode.COST in
    no_entry_costs (put_or_keep_cost g.KC.MapValueDecode.reading g.VC.MapValueDecode.reading cost) d n bs f h

pub returns-clause-wire : goal.returns-clause-wire
returns-clause-wire g c = λ d n w bs other.
    let cost = g.KC.MapValueDecode.COST + g.VC.MapValueDecode.COST in
    others_are_free (put_or_keep_cost g.KC.MapValueDecode.reading g.VC.MapValueDecode.reading cost) d n w bs other

pub returns-clause-unknowns : goal.returns-clause-unknowns
returns-clause-unknowns g c = λ x h. (
  h.0,
  h.1,
  λ d low. h.2 d (subst (λ z. unknown_entry_levels g.KC.MapValueDecode.reading g.VC.MapValueDecode.reading z ≤ d) h.1 low),
)
