use Rattle.std.proofs.Common.{◌≡◌, ◌∙◌, ◌+◌, ◌*◌, ◌<◌, ap, sym, subst, length, List, ℕ, arith, length-append}
use Rattle.std.proofs.lemmas.List.{nil_from_length}
use Rattle.buffa_wire.specs.BudgetLeft.{BudgetLeft}
use Rattle.buffa_map.specs.Run.{Run}
use Rattle.buffa_map.specs.Encoding.{field_encoding}
use Rattle.buffa_map.proofs.StopLemmas.{run_fault}
use Rattle.sample_types.proofs.TripLemmas.{as_units, cost_came, costs_more, order_came, pairs_came, stopped, unwritten, wrote}
use Rattle.sample_types.proofs.round_trip.through_bytes.Goals as goal

pub returns-in-Ok-read_map_field-clause-ok : goal.returns-in-Ok-read_map_field-clause-ok
returns-in-Ok-read_map_field-clause-ok g c =
    let w = c.in-Ok.ensures in
    pairs_came c.in-Ok-read_map_field.ensures.ok c.one_reading.ensures (c.written_is_read.ensures c.new-ctx.result.depth c.args.number w.0 c.requires.number w.3.0 w.4 (c.requires.normal w.0 w.1) w.2.0)
    (wrote (field_encoding g.KC.MapCodec.writing g.VC.MapCodec.writing c.args.number w.0) c.new-encoding.ensures.items w.3.1 c.as_slice-rest.ensures.value) c.requires.empty (g.C.MapStorage.pairs c.args.map.now) w.2.1

pub returns-in-Ok-read_map_field-clause-order : goal.returns-in-Ok-read_map_field-clause-order
returns-in-Ok-read_map_field-clause-order g c =
    let w = c.in-Ok.ensures in
    let order = order_came c.in-Ok-read_map_field.ensures.ok c.one_reading.ensures (c.written_is_read.ensures c.new-ctx.result.depth c.args.number w.0 c.requires.number w.3.0 w.4 (c.requires.normal w.0 w.1) w.2.0)
    (wrote (field_encoding g.KC.MapCodec.writing g.VC.MapCodec.writing c.args.number w.0) c.new-encoding.ensures.items w.3.1 c.as_slice-rest.ensures.value) c.requires.empty in
    (w.0, w.1, order)

pub returns-in-Ok-read_map_field-clause-fits : goal.returns-in-Ok-read_map_field-clause-fits
returns-in-Ok-read_map_field-clause-fits g c =
    let w = c.in-Ok.ensures in
    let cost = cost_came c.in-Ok-read_map_field.ensures.ok c.one_reading.ensures (c.written_is_read.ensures c.new-ctx.result.depth c.args.number w.0 c.requires.number w.3.0 w.4 (c.requires.normal w.0 w.1) w.2.0)
    (wrote (field_encoding g.KC.MapCodec.writing g.VC.MapCodec.writing c.args.number w.0) c.new-encoding.ensures.items w.3.1 c.as_slice-rest.ensures.value) c.requires.empty 268435456
    (ap (λ (b : BudgetLeft). b.memory) c.new-ctx.ensures.budget ∙ c.new-budget.ensures.memory) in
    (w.0, w.1, w.2, w.3.0, cost)

pub returns-in-Err-clause-err : goal.returns-in-Err-clause-err
returns-in-Err-clause-err g c =
    let w = c.in-Err.ensures in
    (w.0, w.1, w.2, unwritten g.KC.MapCodec.writing g.VC.MapCodec.writing (g.KC.MapValueDecode.COST + g.VC.MapValueDecode.COST) c.args.number _ _ w.0 c.in-Err.error _ w.3 w.5)

pub returns-clause-err : goal.returns-clause-err
returns-clause-err g c =
    let key = g.KC.MapValueDecode.reading in
    let val = g.VC.MapValueDecode.reading in
    let cost = g.KC.MapValueDecode.COST + g.VC.MapValueDecode.COST in
    let depth = c.new-ctx.result.depth in
    let w = c.in-Ok.ensures in
    let k = c.in-Err-read_map_field.ensures.err in
    let t = c.written_is_read.ensures depth c.args.number w.0 c.requires.number w.3.0 w.4 (c.requires.normal w.0 w.1) w.2.0 in
    let field = field_encoding g.KC.MapCodec.writing g.VC.MapCodec.writing c.args.number w.0 in
    let encoding : c.as_slice-rest.result.now ≡ field = wrote field c.new-encoding.ensures.items w.3.1 c.as_slice-rest.ensures.value in
    let run : Run key val depth c.args.number c.as_slice-rest.result.now t.entries = subst (λ (b : List ℕ). Run key val depth c.args.number b t.entries) (sym encoding) t.run in
    let memory : c.new-ctx.result.budget.now.memory ≡ 268435456 = ap (λ (b : BudgetLeft). b.memory) c.new-ctx.ensures.budget ∙ c.new-budget.ensures.memory in (
      w.0,
      w.1,
      w.2,
      (
        (λ none. k.some (nil_from_length k.rest (omega (
          arith,
          ap length (sym k.split),
          length-append k.front k.rest,
          ap length encoding,
          ap (λ z. length (field_encoding g.KC.MapCodec.writing g.VC.MapCodec.writing c.args.number z)) none,
        )))),
        w.3.0,
        λ named.
            let more = costs_more key val depth c.args.number
            (λ one e. c.plain_entries_charge_units.ensures.entry (g.met.KC.MapCodec.plain, g.met.VC.MapCodec.plain) depth one e)
            (λ es. c.plain_entries_charge_units.ensures.run (g.met.KC.MapCodec.plain, g.met.VC.MapCodec.plain) depth es) (c.one_reading.ensures.run_or_fault depth c.args.number) cost c.new-ctx.result.budget.now c.as_slice-rest.result.now t.entries c.in-Err-read_map_field.error run
            (run_fault _ _ _ _ _ _ k named) in
            (more.0, subst (λ x. x < length w.0 * cost) memory (subst (λ x. c.new-ctx.result.budget.now.memory < x * cost) t.many more.1)),
      ),
    )

pub returns-clause-stops : goal.returns-clause-stops
returns-clause-stops g c =
    let w = c.in-Ok.ensures in
    let field = field_encoding g.KC.MapCodec.writing g.VC.MapCodec.writing c.args.number w.0 in
    let encoding : c.as_slice-rest.result.now ≡ field = wrote field c.new-encoding.ensures.items w.3.1 c.as_slice-rest.ensures.value in
    let left = c.new-ctx.ensures.budget ∙ as_units c.new-budget.result 268435456 c.new-budget.ensures.unknown c.new-budget.ensures.memory in (
      w.0,
      w.1,
      _,
      _,
      stopped g.KC.MapValueDecode.reading g.VC.MapValueDecode.reading g.C.MapStorage.equal g.C.MapStorage.keeps_order _ 0 c.args.number _ _ _ _ _ _ _ _ _
          c.new-ctx.ensures.depth left c.requires.empty encoding c.in-Err-read_map_field.ensures.err,
    )
