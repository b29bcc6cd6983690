use Rattle.std.proofs.Common.{take}
use Rattle.buffa_wire.specs.BudgetLeft.{defaults}
use Rattle.buffa_wire.specs.RecordsOfValues.{records_in}
use Rattle.buffa_codec.specs.Strict.{AreElements}
use Rattle.buffa_codec.specs.RecordsOfNumber.{sub}
use Rattle.buffa_codec.proofs.strict.check_elements.Given as goal

abbrev pub invariant-loop-field : goal.invariant-loop-field
invariant-loop-field g l =
    AreElements (g.C.StrictElementCodec.IsElement l.number) (g.C.SingularCodec.leaves 100) defaults (sub l.number (records_in (take l.field-index l.field-items))) l.budget
