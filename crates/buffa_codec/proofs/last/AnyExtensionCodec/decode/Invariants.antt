use Rattle.std.proofs.Common.{◌≡◌, ◌≤◌, [], drop, length}
use Rattle.std.specs.List.{filter_map}
use Rattle.buffa_wire.specs.RecordsOfValues.{records_in}
use Rattle.buffa_codec.specs.RecordsOfNumber.{sub}
use Rattle.buffa_wire.specs.BudgetLeft.{defaults}
use Rattle.buffa_codec.proofs.last.AnyExtensionCodec.decode.Given as goal

abbrev pub invariant-loop-i : goal.invariant-loop-i
invariant-loop-i g l = record {
  in_range : l.i ≤ length l.all;
  none_after : filter_map (g.C.SingularCodec.one 100 defaults) (sub l.number (records_in (drop l.i l.all))) ≡ [];
}

abbrev pub decreases-loop-i : goal.decreases-loop-i
decreases-loop-i g l = l.i
