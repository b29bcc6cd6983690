-- Why the pairs of a map may not come back from their bytes.
use Rattle.std.specs.Prelude.{◌≡◌, ◌≢◌, ◌≤◌, ◌<◌, ◌*◌, ◌^◌, ℕ, Bool, List, [], ◌∷◌, ◌++◌, length}
use Rattle.buffa_bytes.specs.declared.error.DecodeError.TheVariants as decode
use Rattle.buffa_bytes.specs.declared.error.EncodeError.TheVariants as encode
use Rattle.buffa_map.specs.Codec.{Writing}
use Rattle.buffa_map.specs.Pairs.{ListsOnce}
use Rattle.buffa_map.specs.Merge.{Rules, RefusesRun, state}
use Rattle.buffa_map.specs.Encoding.{HasEncoding, entry_encoding, field_encoding}
use Rattle.buffa_bytes.specs.declared.error.DecodeError.{DecodeError}
use Rattle.buffa_wire.specs.BudgetLeft.{BudgetLeft, units}
use Rattle.sample_types.specs.declared.round_trip.TripFault.{TripFault}
use Rattle.sample_types.specs.declared.round_trip.TripFault.TheVariants.{Decode, Encode}

module _ {K V : Type 0} (key : Writing K) (val : Writing V) (cost : ℕ) where
  -- The entry of a pair is too long for its length to be a varint; or none is, and the pairs, each of which costs so many
  -- units, cost more than a budget starts with; or memory ran out, to write them only where there is one.
  abbrev pub RefusesPairs : List (K × V) → TripFault → Type 0
  RefusesPairs l (Encode encode.MessageTooLarge) =
      (done : List (K × V)) × (p : K × V) × (rest : List (K × V)) × (l ≡ done ++ p ∷ rest)
      × (2 ^ 64 ≤ length (entry_encoding key val p))
  RefusesPairs l (Encode encode.OutOfMemory) = l ≢ []
  RefusesPairs l (Encode (encode.GroupRefused e)) = ⊥
  RefusesPairs l (Decode f) =
      (l ≢ []) × HasEncoding key val l
      × (f ≢ decode.OutOfMemory → (f ≡ decode.ElementMemoryLimitExceeded) × (268435456 < length l * cost))

  module _ (eq : K → K → Bool) (m : List (K × V)) (Walk : List (K × V) → Type 0) where
    -- the same of the pairs of some walk of the map m
    abbrev pub RefusesTrip : TripFault → Type 0
    RefusesTrip f = (l : List (K × V)) × Walk l × ListsOnce eq m l × RefusesPairs l f

    -- in some walk of it no entry is too long, and the pairs cost no more than a budget starts with
    abbrev pub FitsTrip : Type 0
    FitsTrip = (l : List (K × V)) × Walk l × ListsOnce eq m l × HasEncoding key val l × (length l * cost ≤ 268435456)

-- P, if the pairs couldn't be written
abbrev pub IfUnwritten : TripFault → Type 0 → Type 0
IfUnwritten (Encode e) P = P
IfUnwritten (Decode f) P = Unit {0}

-- Q of the fault, if they couldn't be read
abbrev pub IfNotReadBack : TripFault → (DecodeError → Type 0) → Type 0
IfNotReadBack (Encode e) Q = Unit {0}
IfNotReadBack (Decode f) Q = Q f

-- reading the field of the pairs of some walk into an empty map stopped at f, and left these pairs: those that the
-- entries before it say
abbrev pub StopsInField : {K V : Type 0} → Rules K V → Writing K → Writing V → (List (K × V) → Type 0) → BudgetLeft → List (K × V) → DecodeError → Type 0
StopsInField {K} {V} r key val Walk left pairs f =
    (l : List (K × V)) × Walk l × (over : BudgetLeft) × (unread : List ℕ)
    × RefusesRun r (state [] [] left) (field_encoding key val r.number l) (state pairs [] over) unread f

-- the same, where the map was written, from the units that a budget starts with
abbrev pub StopsTrip : {K V : Type 0} → Rules K V → Writing K → Writing V → (List (K × V) → Type 0) → List (K × V) → TripFault → Type 0
StopsTrip r key val Walk pairs f = IfNotReadBack f (StopsInField r key val Walk (units 268435456) pairs)
