-- No place for a record is lost.
use Rattle.std.proofs.Common.{◌≡◌, ℕ, ◌+◌, ◌≤◌, [], ◌∷◌, ◌++◌, ap, length, length-append, arith}
use Rattle.buffa_wire.specs.Records.{FieldData, Held}
use Rattle.buffa_codec.specs.Decoded.{KeepsCapacity}

pub capacity_stays : (held : Held) → KeepsCapacity held held
capacity_stays held = omega arith

-- one more record takes one place at most
pub capacity_more : (start now next : Held) (r : ℕ × FieldData) → KeepsCapacity start now → next.records ≡ now.records ++ r ∷ [] → now.spare ≤ next.spare + 1 → KeepsCapacity start next
capacity_more start now next r kept more one = omega (arith, kept, one, ap length more, length-append now.records (r ∷ []))
