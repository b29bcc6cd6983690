-- What is proved of map fields in messages: of what is taken, and of sizes and encodings.
use Rattle.std.proofs.Common.{◌≡◌, inl, inr, ℕ, ◌≤◌, Bool, true, false, cond, List, ◌∷◌, ◌++◌, length, Result, Ok, Err, refl, sym, ap, subst, ◌∙◌, arith, length-append}
use Rattle.buffa_bytes.proofs.DelimitedLemmas.{delimited_taken}
use Rattle.buffa_bytes.specs.declared.error.DecodeError.{DecodeError}
use Rattle.buffa_bytes.specs.Readings.{check_wire}
use Rattle.buffa_bytes.specs.declared.wire_type.WireType.{WireType}
use Rattle.buffa_bytes.specs.declared.wire_type.WireType.TheVariants.{LengthDelimited}
use Rattle.buffa_wire.specs.BudgetLeft.{BudgetLeft, plus, unknown_fields}
use Rattle.buffa_wire.specs.Passes.{cap}
use Rattle.buffa_wire.proofs.ByValueLemmas.{length_cut, write_cut}
use Rattle.buffa_wire.proofs.CostLemmas.{plus_nothing}
use Rattle.buffa_wire.specs.Encoding.{records_encoding}
use Rattle.buffa_map.specs.Codec.{Reading, Writing}
use Rattle.buffa_map.specs.Entry.{EntryFault}
use Rattle.buffa_map.specs.EntryReading.{charge_of}
use Rattle.buffa_map.specs.Laws.{LimitsAreTrue, SizeIsLength}
use Rattle.buffa_map.specs.Merge.{EntryTakesMemory, MergesEntry, RefusesEntry, State}
use Rattle.buffa_map.proofs.ReaderRules.{dropping}
use Rattle.buffa_map.specs.Pairs.{put}
use Rattle.buffa_map.specs.Encoding.{RefusesField, entry_encoding, field_size, field_encoding, saturated}
use Rattle.buffa_bytes.specs.declared.error.EncodeError.{EncodeError}
use Rattle.buffa_bytes.specs.declared.error.EncodeError.TheVariants as encode
use Rattle.buffa_fields.specs.MapFields.{PairTakesMemory, WritesMap, map_records, pair_cost, pair_taken, stepped}
use Rattle.buffa_fields.specs.Refusals.{RefusesPair}
use Rattle.buffa_wire.specs.Takes.{IsTaken}
use Rattle.buffa_map.proofs.WriteLemmas.{field_by_value}
use Rattle.buffa_bytes.specs.Values.{delimited_encoding, tag_encoding}
use Rattle.buffa_bytes.specs.Written.{WritesFront}
use Rattle.buffa_bytes.specs.Varint.{varint_encoding}
use Rattle.buffa_bytes.proofs.WireLemmas.{checked_same}
use Rattle.buffa_fields.proofs.EntriesLemmas.{IsCost, entry_err, entry_ok}
use Rattle.buffa_fields.specs.facts.MapFacts.{map_encoding}

-- where undeclared entries take no unknown field
no_more : (b : Bool) (charge : BudgetLeft) → charge ≡ plus charge (unknown_fields (cond b 0 0))
no_more true charge = sym (plus_nothing charge)
no_more false charge = sym (plus_nothing charge)

module _ {K V : Type 0} (key : Reading K) (val : Reading V) (cost : ℕ) where
  is_cost : (d : ℕ) → IsCost key val d cost 0 (λ e. charge_of key val d cost e)
  is_cost d e = ((omega arith, omega arith), λ s entry. no_more s.known (charge_of key val d cost e))

-- ---- an entry is read by the rules that drop undeclared ones, and put so
module _ {K V : Type 0} (key : Reading K) (val : Reading V) (same : K → K → Bool) (keeps : Bool) (puts : List (K × V) → K → V → List (K × V)) (cost : ℕ) where
  -- ---- where it takes memory
  pub map_full : (d n : ℕ) (w : WireType) (bs : List ℕ) (left : BudgetLeft) → check_wire n LengthDelimited w ≡ Ok tt → EntryTakesMemory (dropping key val same keeps d 0 cost) left bs → PairTakesMemory key val d n w bs
  map_full d n w bs left checked (e, rest, is, enough, inl copied) = let no = copied.0 in cc
  map_full d n w bs left checked (e, rest, is, enough, inr (inl field)) = (checked_same n LengthDelimited w checked, e, rest, delimited_taken bs e rest is, inl field)
  map_full d n w bs left checked (e, rest, is, enough, inr (inr (s, entry, inl known))) = (checked_same n LengthDelimited w checked, e, rest, delimited_taken bs e rest is, inr (s, entry, known))
  map_full d n w bs left checked (e, rest, is, enough, inr (inr (s, entry, inr kept))) = let no = kept.0 in cc

  -- it isn't put, where it is of another wire type
  pub other_refused : (d : ℕ) (ps : List (K × V)) (n : ℕ) (w : WireType) (bs : List ℕ) (left : BudgetLeft) (f e : DecodeError) → check_wire n LengthDelimited w ≡ Err f → f ≡ e → RefusesPair key val cost d ps n w bs left e ps
  other_refused d ps n w bs left f e reported is = (refl, λ ne. inl (reported ∙ ap (λ z. Err z) is))

  module _ (d n : ℕ) (w : WireType) (bs rest : List ℕ) (s t : State K V) (checked : check_wire n LengthDelimited w ≡ Ok tt) where
    -- ---- an entry is taken
    pub map_ok : (old new : List (K × V)) (m : MergesEntry (dropping key val same keeps d 0 cost) s bs t rest) → new ≡ stepped puts old m.says →
        IsTaken (pair_taken key val puts) (pair_cost key val cost) d old n w bs s.left (let r : Result (Unit {0}) DecodeError = Ok tt in r) new t.left rest
    map_ok old new m put = entry_ok (dropping key val same keeps d 0 cost) (λ m e s. stepped puts m s) (λ d e. charge_of key val d cost e) (is_cost key val cost d) n w old new bs rest s t checked m put

    -- ---- or refused
    pub map_err : (old new : List (K × V)) → LimitsAreTrue key val → (f : DecodeError) → RefusesEntry (dropping key val same keeps d 0 cost) s bs t rest f →
        IsTaken (pair_taken key val puts) (pair_cost key val cost) d old n w bs s.left (let r : Result (Unit {0}) DecodeError = Err f in r) new t.left rest
    map_err old new limits f k =
        entry_err (dropping key val same keeps d 0 cost) (λ m e s. stepped puts m s) (λ d e. charge_of key val d cost e) (is_cost key val cost d)
        n w old new bs rest s t checked limits f t.left k refl k.spent.fields.0 (omega (arith, k.spent.fields.1))

    -- nor where it is refused, and tells its fault
    pub map_refused : (f e : DecodeError) → f ≡ e → RefusesEntry (dropping key val same keeps d 0 cost) s bs t rest f → RefusesPair key val cost d s.pairs n w bs s.left e t.pairs
    map_refused f e is k = (sym k.pairs, λ ne. inr (checked_same n LengthDelimited w checked, subst (λ z. EntryFault key val d cost 0 s.left bs z) is (k.fault (λ full. ne (sym is ∙ full)))))

-- ---- the size
module _ {K V : Type 0} (kw : Writing K) (vw : Writing V) (is : SizeIsLength kw vw) (n t total : ℕ) (l m : List (K × V)) (walk : l ≡ m) (tag : t ≡ length (tag_encoding n LengthDelimited)) (sum : total ≡ saturated (field_size kw vw t l)) where
  size_of : length (records_encoding (map_records kw vw n m)) ≡ field_size kw vw t l
  size_of =
      ap length (map_encoding kw vw n m) ∙ is n m ∙ ap (λ (z : List (K × V)). field_size kw vw (length (tag_encoding n LengthDelimited)) z) (sym walk) ∙ ap (λ (z : ℕ). field_size kw vw z l) (sym tag)

  pub map_capped : cap total ≡ cap (length (records_encoding (map_records kw vw n m)))
  map_capped = omega (arith, sum, size_of)

-- ---- the write

-- an entry is no longer than the field that it is in
pub long_in : {K V : Type 0} (kw : Writing K) (vw : Writing V) (n : ℕ) (done : List (K × V)) (p : K × V) (rest all : List (K × V)) → all ≡ done ++ p ∷ rest → length (entry_encoding kw vw p) ≤ length (field_encoding kw vw n all)
long_in kw vw n done p rest all is = omega (arith, length_cut (field_by_value kw vw n) done p rest all is, length-append (tag_encoding n LengthDelimited) (delimited_encoding (entry_encoding kw vw p)), length-append (varint_encoding (length (entry_encoding kw vw p))) (entry_encoding kw vw p))

module _ {K V : Type 0} (kw : Writing K) (vw : Writing V) (n : ℕ) (l m : List (K × V)) (old new : List ℕ) (walk : l ≡ m) where
  encoding_is : field_encoding kw vw n l ≡ records_encoding (map_records kw vw n m)
  encoding_is = ap (field_encoding kw vw n) walk ∙ sym (map_encoding kw vw n m)

  pub map_written : new ≡ old ++ field_encoding kw vw n l → WritesMap kw vw n m old (let r : Result (Unit {0}) EncodeError = Ok tt in r) new
  map_written h = (field_encoding kw vw n l, h, λ small. encoding_is)

  pub map_unwritten : (e : EncodeError) → RefusesField kw vw n old new l e → WritesMap kw vw n m old (let r : Result (Unit {0}) EncodeError = Err encode.OutOfMemory in r) new
  map_unwritten encode.OutOfMemory (done, p, rest, split, has, long, w) =
      let front : WritesFront old (field_encoding kw vw n l) new = write_cut (field_by_value kw vw n) done p rest l split old (old ++ field_encoding kw vw n done) new refl w in
      (front.0, front.3, (refl, λ small. (front.1, sym encoding_is ∙ front.2, front.4)))
  map_unwritten encode.MessageTooLarge (done, p, rest, split, has, long, h) =
      (field_encoding kw vw n done, h, (refl, λ small. absurd (omega (arith, small, long, long_in kw vw n done p rest l split, ap length encoding_is))))
  map_unwritten (encode.GroupRefused e) h = absurd h
