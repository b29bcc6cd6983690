use Rattle.std.proofs.Common.{drop, map}
use Rattle.buffa_codec.specs.Decoded.{CoversAll}
use Rattle.buffa_wire.specs.BudgetLeft.{defaults}
use Rattle.conformance_extensions.proofs.normal.pay_all.Given as goal

-- where what is left covers the rest, a default budget covers all
abbrev pub invariant-loop-value : goal.invariant-loop-value
invariant-loop-value g l =
    CoversAll g.C.SingularCodec.cost l.budget (map g.C.SingularCodec.field_data (map g.C.Value.Blank.meaning (drop l.value-index l.values)))
    → CoversAll g.C.SingularCodec.cost defaults (map g.C.SingularCodec.field_data (map g.C.Value.Blank.meaning l.values))
