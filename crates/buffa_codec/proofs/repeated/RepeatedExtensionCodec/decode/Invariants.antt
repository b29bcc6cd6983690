use Rattle.std.proofs.Common.{map, take}
use Rattle.buffa_wire.specs.RecordsOfValues.{records_in}
use Rattle.buffa_codec.specs.RecordsOfNumber.{sub}
use Rattle.buffa_codec.specs.Decoded.{ReadsAll}
use Rattle.buffa_wire.specs.BudgetLeft.{defaults}
use Rattle.buffa_codec.proofs.repeated.RepeatedExtensionCodec.decode.Given as goal

abbrev pub invariant-loop-field : goal.invariant-loop-field
invariant-loop-field g l =
    ReadsAll (g.C.SingularCodec.one 100) (g.C.SingularCodec.leaves 100) g.C.SingularCodec.packed defaults (sub l.number (records_in (take l.field-index l.field-items))) (map g.C.Value.Blank.meaning l.out.items) l.budget
