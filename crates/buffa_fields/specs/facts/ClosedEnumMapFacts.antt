-- What is proved of map fields whose undeclared entries are put aside.
use Rattle.std.proofs.Common.{◌≡◌, ℕ, ◌==◌, ◌^◌, ◌<◌, ◌≤◌, Bool, true, false, List, [], ◌∷◌, ◌++◌, length, Option, Some, None, Ok, refl, sym, ap, subst, ◌∙◌, append-nil, if◌then◌else◌}
use Rattle.std.proofs.lemmas.Bool.{eq-eqb}
use Rattle.std.specs.List.{AllByRecursion}
use Rattle.std.specs.Option.{option_map}
use Rattle.buffa_bytes.proofs.DelimitedLemmas.{delimited_complete}
use Rattle.buffa_bytes.specs.declared.wire_type.WireType.{WireType}
use Rattle.buffa_bytes.specs.declared.wire_type.WireType.TheVariants.{LengthDelimited}
use Rattle.buffa_bytes.specs.Field.{Payload}
use Rattle.buffa_bytes.specs.Readings.{delimited_at, same_wire}
use Rattle.buffa_bytes.specs.Number.{IsNumber}
use Rattle.buffa_bytes.specs.Values.{delimited_encoding}
use Rattle.buffa_wire.specs.Parse.{IsPayload}
use Rattle.buffa_wire.specs.ReadableFacts.{Readable}
use Rattle.buffa_wire.specs.Records.{FieldData, bytes, records_of}
use Rattle.buffa_wire.specs.Encoding.{records_encoding, wire_of}
use Rattle.buffa_wire.specs.Takes.{ReadsBack, Stays, joined_fields}
use Rattle.buffa_map.proofs.BackLemmas.{IsReadBack, entry_back}
use Rattle.buffa_map.specs.declared.map_entry.MapEntry.{MapEntry}
use Rattle.buffa_map.proofs.EntryLemmas.{entry_complete}
use Rattle.buffa_map.specs.Codec.{Reading, Writing}
use Rattle.buffa_map.specs.Encoding.{AllHold, HasEncoding, entry_encoding, record_encoding}
use Rattle.buffa_map.specs.Run.{pair_entry}
use Rattle.buffa_fields.specs.UnknownsOfMembers.{Kept}
use Rattle.buffa_fields.specs.facts.ReadBackFacts.{all_lead, pieces_of}
use Rattle.buffa_fields.specs.facts.ValueFacts.{delimited_payload}
use Rattle.buffa_fields.specs.EntriesTaken.{entry_taken, whole_entry_in}
use Rattle.buffa_fields.specs.facts.EntriesFacts.{entry_stays, read_entry}
use Rattle.buffa_fields.specs.ClosedEnumMaps.{IsUnknownEntry, IsUndeclaredAt, unknown_entry_levels, kept_pair_cost, kept_pair_taken, put_or_keep, put_or_keep_cost}
use Rattle.buffa_fields.specs.MapFields.{map_records, put_all}
use Rattle.buffa_fields.specs.facts.MapFacts.{map_has_encoding}

module _ {K V : Type 0} (key : Reading K) (val : Reading V) where
  pub kept_pair_stays : (cost : ℕ) → Stays (kept_pair_cost key val cost)
  kept_pair_stays cost = entry_stays (put_or_keep_cost key val cost)

  module _ (puts : List (K × V) → K → V → List (K × V)) where
    -- records are put behind those that are kept
    pub kept_pair_behind : (d : ℕ) (v : List (K × V)) (kept : Kept) (n : ℕ) (w : WireType) (p : List ℕ) →
        kept_pair_taken key val puts d (v, kept) n w p ≡ option_map (λ x. (x.0, kept ++ x.1)) (kept_pair_taken key val puts d (v, []) n w p)
    unfolding entry_taken
    kept_pair_behind d v kept n w p = at (same_wire LengthDelimited w) (whole_entry_in key val d (delimited_at p))
      where
        at : (t : Bool) (o : Option (List ℕ × MapEntry K V)) → (if t then option_map (λ x. put_or_keep key val puts n (v, kept) x.0 x.1) o else None) ≡ option_map (λ x. (x.0, kept ++ x.1)) (if t then option_map (λ x. put_or_keep key val puts n (v, []) x.0 x.1) o else None)
        at true None = refl
        at true (Some x) = refl
        at false o = refl

    -- an undeclared entry is put aside again
    entry_again : (k d : ℕ) (v : List (K × V)) (e p : List ℕ) → IsUndeclaredAt key val d e → IsPayload d k (bytes e) p → kept_pair_taken key val puts d (v, []) k LengthDelimited p ≡ Some (v, (k, bytes e) ∷ [])
    unfolding entry_taken
    entry_again k d v e p (s, entry, undeclared) (t, varint, is) =
        let alone : delimited_at p ≡ Ok (e, []) = ap delimited_at (is ∙ ap (λ z. t ++ z) (sym (append-nil e))) ∙ delimited_complete t e [] varint in
        rw (alone, entry_complete key val d e s entry, undeclared) refl

    pub kept_pair_again : (k d : ℕ) (v : List (K × V)) (x : FieldData) (p : List ℕ) → IsUnknownEntry key val x → unknown_entry_levels key val x ≤ d → IsPayload d k x p →
        kept_pair_taken key val puts d (v, []) k (wire_of x) p ≡ Some (v, (k, x) ∷ [])
    kept_pair_again k d v x p (e, is, undeclared) low payload =
        subst (λ z. kept_pair_taken key val puts d (v, []) k (wire_of z) p ≡ Some (v, (k, z) ∷ [])) (sym is)
        (entry_again k d v e p (undeclared d (subst (λ z. unknown_entry_levels key val z ≤ d) is low)) (subst (λ z. IsPayload d k z p) is payload))

-- ---- the map's own records read back
module _ {K V : Type 0} (key : Reading K) (val : Reading V) (kw : Writing K) (vw : Writing V) (same_key : kw.wire ≡ key.wire) (same_val : vw.wire ≡ val.wire) (puts : List (K × V) → K → V → List (K × V))
    (KeyOk : K → Type 0) (ValOk : V → Type 0) (d : ℕ) (key_back : (v : K) → KeyOk v → IsReadBack key kw d v) (val_back : (v : V) → ValOk v → IsReadBack val vw d v) (n : ℕ) (number : IsNumber n) where
  abbrev Good : K × V → Type 0
  Good p = KeyOk p.0 × ValOk p.1 × (length (entry_encoding kw vw p) < 2 ^ 64)

  all_good : (l : List (K × V)) → AllHold KeyOk ValOk l → HasEncoding kw vw l → AllByRecursion Good l
  all_good [] ok has = tt
  all_good (p ∷ ps) ok has = ((ok.0, ok.1, has.0), all_good ps ok.2 has.1)

  abbrev beside : List (K × V) → List (K × V) × Kept
  beside m = (m, [])

  entry_put : (m : List (K × V)) (p : K × V) → Good p → Payload d n LengthDelimited (delimited_encoding (entry_encoding kw vw p)) × (kept_pair_taken key val puts d (beside m) n LengthDelimited (delimited_encoding (entry_encoding kw vw p)) ≡ Some (beside (puts m p.0 p.1)))
  entry_put m p good = (
    delimited_payload d n (entry_encoding kw vw p) good.2,
    read_entry key val (put_or_keep key val puts n) d n (beside m) (entry_encoding kw vw p) (pair_entry p) good.2 (entry_back key val kw vw same_key same_val d KeyOk ValOk key_back val_back p good.0 good.1),
  )

  spelled : (l : List (K × V)) → records_encoding (map_records kw vw n l) ≡ joined_fields (pieces_of n LengthDelimited (λ p. delimited_encoding (entry_encoding kw vw p)) l)
  spelled [] = refl
  spelled (p ∷ ps) = ap (λ (z : List ℕ). record_encoding kw vw n p ++ z) (spelled ps)

  pub kept_map_back : (l : List (K × V)) → Readable (records_of (map_records kw vw n l)) → AllHold KeyOk ValOk l → put_all puts [] l ≡ l →
      ReadsBack (kept_pair_taken key val puts) (λ x. x == n) d (beside []) (records_encoding (map_records kw vw n l)) (beside l)
  kept_map_back l fits ok put_back =
      subst (λ z. ReadsBack (kept_pair_taken key val puts) (λ x. x == n) d (beside []) (records_encoding (map_records kw vw n l)) (beside z)) put_back (record {
        pieces = pieces_of n LengthDelimited (λ p. delimited_encoding (entry_encoding kw vw p)) l;
        spelled = spelled l;
        leads = all_lead (kept_pair_taken key val puts) (λ x. x == n) n (eq-eqb n n refl) number LengthDelimited (λ p. delimited_encoding (entry_encoding kw vw p)) d Good beside
            (λ m l. put_all puts m l) (λ m. refl) (λ m p ps. refl) entry_put [] l (all_good l ok (map_has_encoding kw vw n l fits));
      })
