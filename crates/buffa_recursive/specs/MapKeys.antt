-- The keys of a map of messages of the message's own type. Source: the protobuf encoding guide, "Maps".
use Rattle.std.specs.Prelude.{◌≡◌, ℕ}
use Rattle.std.specs.Cmp.{IsTotalOrder}
use Rattle.std.specs.declared.cmp.Ordering.{Ordering}
use Rattle.buffa_wire.specs.Parse.{Fits}
use Rattle.buffa_map.proofs.BackLemmas.{IsReadBack}
use Rattle.buffa_map.specs.Codec.{Reading, Writing}

-- What the keys of a map are: how they are read and written, what one costs in units of element memory, in which order they are
-- walked, and which of them read back.
pub record Keys (K : Type 0) : Type 1 where
  pub reading : Reading K
  pub writing : Writing K
  pub cost : ℕ
  pub order : K → K → Ordering
  pub Normal : K → Type 0

-- what keys owe: payloads are written with the wire type that they are read with, they read back, and their order is total
pub record KeysReadBack {K : Type 0} (keys : Keys K) : Type 0 where
  pub wires : keys.writing.wire ≡ keys.reading.wire
  pub back : (d : ℕ) (v : K) → keys.Normal v → IsReadBack keys.reading keys.writing d v
  pub total : IsTotalOrder keys.order

-- the keys of a codec: those that fit it, and are normal, read back
abbrev pub keys_by : {K : Type 0} → Reading K → Writing K → ℕ → (K → K → Ordering) → (K → Type 0) → (K → Type 0) → Keys K
keys_by reading writing cost order Fits Normal = record { reading = reading; writing = writing; cost = cost; order = order; Normal = λ k. Fits k × Normal k }
