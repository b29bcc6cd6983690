-- What is proved of map fields in messages.
use Rattle.std.proofs.Common.{Bool, Err, List, Ok, Result, Some, [], ap, length, map, refl, subst, ℕ, ◌++◌, ◌<◌, ◌==◌, ◌^◌, ◌∙◌, ◌∷◌, ◌≡◌}
use Rattle.std.specs.Cmp.{IsEquivalence}
use Rattle.std.specs.List.{AllByRecursion, IsDistinct}
use Rattle.std.specs.Map.{keys_of}
use Rattle.buffa_bytes.specs.declared.wire_type.WireType.TheVariants.{LengthDelimited}
use Rattle.buffa_bytes.specs.Number.{IsNumber}
use Rattle.buffa_wire.specs.ReadableFacts.{Readable}
use Rattle.buffa_wire.specs.Cache.{Cache}
use Rattle.buffa_wire.specs.Passes.{IsWritten}
use Rattle.buffa_wire.proofs.PassLemmas.{consumes_none, written_none}
use Rattle.buffa_wire.specs.Records.{records_of}
use Rattle.buffa_wire.specs.Encoding.{records_encoding}
use Rattle.buffa_map.specs.Codec.{Reading, Writing}
use Rattle.buffa_map.specs.EntryReading.{charge_of}
use Rattle.buffa_map.specs.Pairs.{put}
use Rattle.buffa_map.specs.Run.{EntryRecord, fold_entries, pair_entry}
use Rattle.buffa_map.specs.Encoding.{AllHold, HasEncoding, entry_encoding, field_encoding, record_encoding}
use Rattle.buffa_bytes.specs.declared.error.EncodeError.{EncodeError}
use Rattle.buffa_fields.specs.MapFields.{WritesMap, map_records, pair_cost, pair_taken, put_all, stepped}
use Rattle.buffa_fields.specs.facts.EntriesFacts.{entry_stays, read_entry}
use Rattle.buffa_wire.specs.Takes.{ReadsBack, Stays}
use Rattle.buffa_map.proofs.BackLemmas.{IsReadBack, entry_back, fold_back}
use Rattle.buffa_bytes.specs.Values.{delimited_encoding}
use Rattle.buffa_fields.specs.facts.ValueFacts.{delimited_payload}
use Rattle.buffa_fields.specs.facts.ReadBackFacts.{all_back}
use Rattle.buffa_bytes.specs.Field.{Payload}

-- ---- the encoding
pub map_encoding : {K V : Type 0} (key : Writing K) (val : Writing V) (n : ℕ) (l : List (K × V)) → records_encoding (map_records key val n l) ≡ field_encoding key val n l
map_encoding key val n [] = refl
map_encoding key val n (p ∷ ps) = ap (λ (z : List ℕ). record_encoding key val n p ++ z) (map_encoding key val n ps)

pub map_has_encoding : {K V : Type 0} (key : Writing K) (val : Writing V) (n : ℕ) (l : List (K × V)) → Readable (records_of (map_records key val n l)) → HasEncoding key val l
map_has_encoding key val n [] h = tt
map_has_encoding key val n (p ∷ ps) h = (h.1, map_has_encoding key val n ps h.2)

-- what a pair costs is known by the payload
pub map_stays : {K V : Type 0} (key : Reading K) (val : Reading V) (cost : ℕ) → Stays (pair_cost key val cost)
map_stays key val cost = entry_stays (λ d e. charge_of key val d cost e)

-- pairs of which no two have one key are put one behind the other
module _ {K V : Type 0} (same : K → K → Bool) where
  abbrev as_entry : K × V → EntryRecord K V
  as_entry p = record { bytes = []; parts = pair_entry p }

  folded : (m l : List (K × V)) → put_all (put same) m l ≡ fold_entries same m (map as_entry l)
  folded m [] = refl
  folded m (p ∷ ps) = folded (put same m p.0 p.1) ps

  pub distinct_put : IsEquivalence same → (l : List (K × V)) → IsDistinct same (keys_of l) → put_all (put same) [] l ≡ l
  distinct_put is_eq l distinct = folded [] l ∙ fold_back is_eq as_entry (λ p. refl) l distinct

-- ---- the encoding reads back
module _ {K V : Type 0} (key : Reading K) (val : Reading V) (kw : Writing K) (vw : Writing V) (same_key : kw.wire ≡ key.wire) (same_val : vw.wire ≡ val.wire) (puts : List (K × V) → K → V → List (K × V))
    (KeyOk : K → Type 0) (ValOk : V → Type 0) (d : ℕ) (key_back : (v : K) → KeyOk v → IsReadBack key kw d v) (val_back : (v : V) → ValOk v → IsReadBack val vw d v) (n : ℕ) (number : IsNumber n) where
  abbrev Good : K × V → Type 0
  Good p = KeyOk p.0 × ValOk p.1 × (length (entry_encoding kw vw p) < 2 ^ 64)

  all_good : (l : List (K × V)) → AllHold KeyOk ValOk l → HasEncoding kw vw l → AllByRecursion Good l
  all_good [] ok has = tt
  all_good (p ∷ ps) ok has = ((ok.0, ok.1, has.0), all_good ps ok.2 has.1)

  entry_put : (m : List (K × V)) (p : K × V) → Good p → Payload d n LengthDelimited (delimited_encoding (entry_encoding kw vw p)) × (pair_taken key val puts d m n LengthDelimited (delimited_encoding (entry_encoding kw vw p)) ≡ Some (puts m p.0 p.1))
  entry_put m p good = (
    delimited_payload d n (entry_encoding kw vw p) good.2,
    read_entry key val (λ m e s. stepped puts m s) d n m (entry_encoding kw vw p) (pair_entry p) good.2 (entry_back key val kw vw same_key same_val d KeyOk ValOk key_back val_back p good.0 good.1),
  )

  pub map_back : (l : List (K × V)) → Readable (records_of (map_records kw vw n l)) → AllHold KeyOk ValOk l → put_all puts [] l ≡ l →
      ReadsBack (pair_taken key val puts) (λ x. x == n) d [] (records_encoding (map_records kw vw n l)) l
  map_back l fits ok put_back =
      subst (λ z. ReadsBack (pair_taken key val puts) (λ x. x == n) d [] (records_encoding (map_records kw vw n l)) z) put_back
      (all_back (pair_taken key val puts) n number LengthDelimited (λ p. delimited_encoding (entry_encoding kw vw p)) d Good (λ l. records_encoding (map_records kw vw n l)) refl (λ p ps. refl)
      (λ m l. put_all puts m l) (λ m. refl) (λ m p ps. refl) entry_put [] l (all_good l ok (map_has_encoding kw vw n l fits)))

-- a map field takes no slots
pub map_alone : {K V : Type 0} (key : Writing K) (val : Writing V) (n : ℕ) (l : List (K × V)) (old new : List ℕ) (c : Cache) (r : Result (Unit {0}) EncodeError) → WritesMap key val n l old r new →
    IsWritten (records_encoding (map_records key val n l)) [] c old r c new
map_alone key val n l old new c (Ok _) (bs, p, q) = (bs, p, ((written_none (Unit {0}) c old).2.0, q))
map_alone key val n l old new c (Err e) (bs, p, q) = (bs, p, (q.0, q.1, consumes_none [] c))
