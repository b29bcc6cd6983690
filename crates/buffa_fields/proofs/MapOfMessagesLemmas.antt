-- What is proved of maps of messages as members: of sizes and encodings.
use Rattle.std.proofs.Common.{◌≡◌, ◌≢◌, ℕ, List, [], ◌∷◌, length, Result, Ok, Err, IsOk, OnErr, refl, sym, ap, ◌∙◌, arith}
use Rattle.buffa_bytes.specs.declared.error.EncodeError.{EncodeError}
use Rattle.buffa_bytes.specs.declared.wire_type.WireType.TheVariants.{LengthDelimited}
use Rattle.buffa_wire.proofs.PassLemmas.{written_none, written_same}
use Rattle.buffa_wire.proofs.SpentLemmas.{is_there}
use Rattle.buffa_wire.specs.Cache.{Cache}
use Rattle.buffa_wire.specs.Passes.{IsSized, IsSmall, IsWritten, cap}
use Rattle.buffa_wire.specs.Encoding.{records_encoding}
use Rattle.buffa_wire.specs.Pinned.{done}
use Rattle.buffa_bytes.specs.Values.{tag_encoding}
use Rattle.buffa_map.proofs.MessageFieldLemmas.{small_field}
use Rattle.buffa_map.proofs.SizeLemmas.{length-field_encoding}
use Rattle.buffa_map.specs.Codec.{Writing}
use Rattle.buffa_map.specs.MessageField.{IsFieldSized, IsFieldWritten, IsSmallField, field_slots}
use Rattle.buffa_map.specs.Pairs.{means}
use Rattle.buffa_map.specs.Scalars.{delimited_writing}
use Rattle.buffa_map.specs.Encoding.{field_size, field_encoding}
use Rattle.buffa_fields.specs.facts.SchemaFacts.{failed, sized_free, sum}
use Rattle.buffa_fields.specs.facts.MapFacts.{map_encoding}
use Rattle.buffa_fields.specs.MapsOfMessages.{pair_records, pair_slots}

-- no slots, no pairs
pub no_pairs : {K X : Type 0} (encoding slots : X → List ℕ) (l : List (K × X)) → pair_slots encoding slots l ≡ [] → l ≡ []
unfolding pair_slots
no_pairs encoding slots [] none = refl
no_pairs encoding slots (p ∷ ps) none = cc

-- where none is in it, a map is sized
pub all_sized : {K X : Type 0} (encoding slots : X → List ℕ) (l : List (K × X)) (r : Result ℕ EncodeError) → OnErr r (l ≢ []) → pair_slots encoding slots l ≡ [] → IsOk r
all_sized encoding slots l (Ok n) h none = let r : Result ℕ EncodeError = Ok n in is_there r n refl
all_sized encoding slots l (Err e) h none = absurd (h (no_pairs encoding slots l none))

-- no pairs: an empty encoding, and no slots
module _ {A B K X : Type 0} (f : A → K) (g : B → X) (key : Writing K) (encoding slots : X → List ℕ) (n : ℕ) where
  pub none_sized : (es : List (A × B)) (c : Cache) → length es ≡ 0 →
      IsSized (records_encoding (pair_records key encoding n (means f g es))) (pair_slots encoding slots (means f g es)) c (sum 0) c
  unfolding pair_records pair_slots
  none_sized [] c none = sized_free [] 0 c refl
  none_sized (e ∷ es) c none = cc

  pub none_written : (es : List (A × B)) (c : Cache) (b : List ℕ) → length es ≡ 0 →
      IsWritten (records_encoding (pair_records key encoding n (means f g es))) (pair_slots encoding slots (means f g es)) c b done c b
  unfolding pair_records pair_slots
  none_written [] c b none = written_none (IsSmall []) c b
  none_written (e ∷ es) c b none = cc

-- the passes
module _ {K X : Type 0} (key : Writing K) (encoding slots : X → List ℕ) (n : ℕ) (l : List (K × X)) where
  abbrev whole : List ℕ
  whole = records_encoding (pair_records key encoding n l)

  encoding_is : field_encoding key (delimited_writing encoding) n l ≡ whole
  unfolding pair_records
  encoding_is = sym (map_encoding key (delimited_writing encoding) n l)

  size_is : length whole ≡ field_size key (delimited_writing encoding) (length (tag_encoding n LengthDelimited)) l
  size_is = ap length (sym encoding_is) ∙ length-field_encoding key (delimited_writing encoding) n l

  module _ (t : ℕ) (tag : t ≡ length (tag_encoding n LengthDelimited)) (c0 c1 : Cache) where
    length_is : length whole ≡ field_size key (delimited_writing encoding) t l
    length_is = size_is ∙ ap (λ (z : ℕ). field_size key (delimited_writing encoding) z l) (sym tag)

    -- the size that was told, as a number of 32 bits
    pub pairs_sized : (total reported : ℕ) → reported ≡ cap total → IsFieldSized key encoding slots t l c0 (sum total) c1 → IsSized whole (pair_slots encoding slots l) c0 (sum reported) c1
    unfolding pair_slots
    pairs_sized total reported is (capped, exact, added) = (is ∙ capped ∙ ap cap (sym length_is), added)

    pub pairs_unsized : (e : EncodeError) → IsFieldSized key encoding slots t l c0 (failed e) c1 → IsSized whole (pair_slots encoding slots l) c0 (failed e) c1
    pairs_unsized e h = h

  pub pairs_written : (c0 c1 : Cache) (b0 b1 : List ℕ) (r : Result (Unit {0}) EncodeError) → IsFieldWritten key encoding slots n l c0 b0 r c1 b1 → IsWritten whole (pair_slots encoding slots l) c0 b0 r c1 b1
  unfolding pair_slots
  pairs_written c0 c1 b0 b1 r h =
      written_same (IsSmallField key encoding l) (IsSmall whole) (field_encoding key (delimited_writing encoding) n l) whole (field_slots encoding slots l) 0 c0 c1 c1 b0 b1
      (λ small. small_field key encoding (length (tag_encoding n LengthDelimited)) l (omega (arith, small, size_is))) (λ small. encoding_is) r h
