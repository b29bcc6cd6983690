-- Map fields in messages. Source: the protobuf encoding guide, "Maps".
use Rattle.std.specs.Prelude.{◌≡◌, ◌⊎◌, ℕ, true, List, [], ◌∷◌, ◌++◌, MatchResult, cond, Result, Ok}
use Rattle.buffa_bytes.specs.declared.wire_type.WireType.TheVariants.{LengthDelimited}
use Rattle.buffa_bytes.specs.declared.error.EncodeError.{EncodeError}
use Rattle.buffa_bytes.specs.declared.error.EncodeError.TheVariants as encode
use Rattle.buffa_wire.specs.Passes.{Begins, IsSmall}
use Rattle.buffa_wire.specs.Encoding.{records_encoding}
use Rattle.buffa_bytes.specs.Readings.{delimited_at}
use Rattle.buffa_wire.specs.Records.{FieldData, bytes}
use Rattle.buffa_map.specs.Codec.{Reading, Writing}
use Rattle.buffa_map.specs.Entry.{IsEntry, EntryFieldsTakeMemory}
use Rattle.buffa_map.specs.EntryReading.{charge_of}
use Rattle.buffa_map.specs.Encoding.{entry_encoding}
use Rattle.buffa_map.specs.declared.map_entry.MapEntry.{MapEntry}
use Rattle.buffa_wire.specs.Takes.{Asks, Charge, Taker}
use Rattle.buffa_fields.specs.EntriesTaken.{entry_cost, entry_taken}

-- where pairs are put so, the pairs after an entry that said s: a declared one is put
abbrev pub stepped : {K V : Type 0} → (List (K × V) → K → V → List (K × V)) → List (K × V) → MapEntry K V → List (K × V)
stepped puts m s = cond s.known (puts m s.key s.value) m

-- the pairs after these, which are put one after the other
abbrev pub put_all : {K V : Type 0} → (List (K × V) → K → V → List (K × V)) → List (K × V) → List (K × V) → List (K × V)
put_all puts m [] = m
put_all puts m (p ∷ ps) = put_all puts (puts m p.0 p.1) ps

module _ {K V : Type 0} (key : Reading K) (val : Reading V) where
  -- each payload is an entry, whose pair is put
  abbrev pub pair_taken : (List (K × V) → K → V → List (K × V)) → Taker (List (K × V))
  pair_taken puts = entry_taken key val (λ m e s. stepped puts m s)

  -- a pair costs so many units, and what the messages in its entry cost
  abbrev pub pair_cost : ℕ → Charge
  pair_cost cost = entry_cost (λ d e. charge_of key val d cost e)

  -- one takes memory where a length and so many bytes are there, and a field in these does, or they are an entry, which is put
  abbrev pub PairTakesMemory : Asks
  PairTakesMemory d n w bs =
      (w ≡ LengthDelimited) × (e : List ℕ) × (rest : List ℕ) × (delimited_at bs ≡ Ok (e, rest))
      × (EntryFieldsTakeMemory key val d e ⊎ ((s : MapEntry K V) × IsEntry key val d e s × (s.known ≡ true)))

-- a record for each pair
abbrev pub map_records : {K V : Type 0} → Writing K → Writing V → ℕ → List (K × V) → List (ℕ × FieldData)
map_records key val n [] = []
map_records key val n (p ∷ ps) = (n, bytes (entry_encoding key val p)) ∷ map_records key val n ps

-- the same by a name that stays folded
unfoldable pub entry_records : {K V : Type 0} → Writing K → Writing V → ℕ → List (K × V) → List (ℕ × FieldData)
entry_records key val n l = map_records key val n l

-- a map field was written, or memory ran out before all of it was; or it is no encoding of a message
abbrev pub WritesMap : {K V T : Type 0} → Writing K → Writing V → ℕ → List (K × V) → List ℕ → Result T EncodeError → List ℕ → Type 0
WritesMap key val n l old r new =
    let encoding = records_encoding (map_records key val n l) in
    (bs : List ℕ) × (new ≡ old ++ bs)
    × MatchResult r (λ _. IsSmall encoding → bs ≡ encoding) (λ e. (e ≡ encode.OutOfMemory) × (IsSmall encoding → Begins bs encoding))
