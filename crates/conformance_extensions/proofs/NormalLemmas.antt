-- Lists whose elements are all read back, and cost nothing.
use Rattle.std.proofs.Common.{List, [], ◌∷◌}
use Rattle.std.specs.List.{AllByRecursion}
use Rattle.buffa_wire.specs.BudgetLeft.{BudgetLeft, minus, nothing}
use Rattle.buffa_wire.specs.Records.{FieldData}
use Rattle.buffa_codec.specs.Decoded.{CoversAll}
use Rattle.buffa_codec.specs.CodecFacts.{covers_nothing}

pub each_unit : {V : Type 0} (vs : List V) → AllByRecursion (λ _. Unit {0}) vs
each_unit [] = tt
each_unit (v ∷ vs) = (tt, each_unit vs)

pub covers_free : (b : BudgetLeft) (ds : List FieldData) → CoversAll (λ _. nothing) b ds
covers_free b [] = tt
covers_free b (d ∷ ds) = (covers_nothing b, covers_free (minus b nothing) ds)
