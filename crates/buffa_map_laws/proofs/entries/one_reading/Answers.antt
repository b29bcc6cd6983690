use Rattle.std.proofs.Common.{◌∙◌, sym, ap}
use Rattle.buffa_wire.specs.BudgetLeft.{BudgetLeft, plus}
use Rattle.buffa_map.specs.Run.{cost_inside}
use Rattle.buffa_bytes.proofs.SequenceLemmas.{ok_same, ok_no_err}
use Rattle.buffa_map.proofs.RunLemmas.{run_complete, run_faulty}
use Rattle.std.proofs.Common.{arith}
use Rattle.buffa_map_laws.proofs.FrontLemmas.{entry_no_fault, paid_no_fault, same_entry, same_front}
use Rattle.buffa_map_laws.proofs.entries.one_reading.Goals as goal

pub returns : goal.returns
returns g c = record {
  entry = same_entry g.KC.MapValueDecode.reading g.VC.MapValueDecode.reading;
  entry_or_fault = entry_no_fault g.KC.MapValueDecode.reading g.VC.MapValueDecode.reading;
  front = same_front g.KC.MapValueDecode.reading g.VC.MapValueDecode.reading;
  front_or_fault = paid_no_fault g.KC.MapValueDecode.reading g.VC.MapValueDecode.reading;
  run = λ d n bs es fs h k.
      let key = g.KC.MapValueDecode.reading in
      let val = g.VC.MapValueDecode.reading in
      let key_free = g.met.KC.MapValueDecode.free in
      let val_free = g.met.VC.MapValueDecode.free in
      let a = cost_inside key val d es in
      let b = cost_inside key val d fs in
      let both : BudgetLeft = plus a b in
      ap (λ z. z.0) (ok_same (sym (run_complete key val d n 0 0 key_free val_free both bs es b h (omega arith, omega arith)) ∙ run_complete key val d n 0 0 key_free val_free both bs fs a k (omega arith, omega arith)));
  run_or_fault = λ d n cost extra left over bs es f h paid k.
      let key = g.KC.MapValueDecode.reading in
      let val = g.VC.MapValueDecode.reading in
      let key_free = g.met.KC.MapValueDecode.free in
      let val_free = g.met.VC.MapValueDecode.free in
      ok_no_err (sym (run_complete key val d n cost extra key_free val_free left bs es over h paid) ∙ (run_faulty key val d n cost extra key_free val_free left bs f k).1);
}
