use Rattle.std.proofs.Common.{◌≡◌, ◌+◌, ap, arith}
use Rattle.buffa_wire.specs.BudgetLeft.{units}
use Rattle.buffa_bytes.specs.Readings.{delimited_at}
use Rattle.buffa_map.specs.EntryReading.{blanks, charge_at}
use Rattle.buffa_map.proofs.EntryLemmas.{charge_by-nothing}
use Rattle.buffa_map.proofs.ChargeLemmas.{charge_free}
use Rattle.buffa_map.proofs.RunLemmas.{inner_free}
use Rattle.buffa_map_laws.proofs.entries.plain_entries_charge_units.Goals as goal

pub returns : goal.returns
returns g c = record {
  entry = λ plain d cost e.
      let key = g.KC.MapValueDecode.reading in
      let val = g.VC.MapValueDecode.reading in
      let none = charge_free key val d g.met.KC.MapValueDecode.free g.met.VC.MapValueDecode.free (blanks key val d) e plain in
      let sum : cost + 0 ≡ cost = omega arith in
      rw none (ap units sum);
  front = λ plain d bs.
      let key = g.KC.MapValueDecode.reading in
      let val = g.VC.MapValueDecode.reading in
      charge_by-nothing (delimited_at bs) (λ e. charge_at key val d (blanks key val d) e.0) (λ e. charge_free key val d g.met.KC.MapValueDecode.free g.met.VC.MapValueDecode.free (blanks key val d) e.0 plain);
  run = λ plain d es.
      inner_free g.KC.MapValueDecode.reading g.VC.MapValueDecode.reading d g.met.KC.MapValueDecode.free g.met.VC.MapValueDecode.free es plain;
}
