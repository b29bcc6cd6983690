-- What was written is read back.
use Rattle.std.proofs.Common.{◌≡◌, inl, inr, ℕ, zero, suc, Option, Some, ◌^◌, ◌<◌, Bool, true, false, List, [], ◌∷◌, ◌++◌, length, Ok, refl, sym, ap, subst, ◌∙◌, arith, append_assoc, append-nil, map}
use Rattle.std.specs.Cmp.{IsEquivalence}
use Rattle.std.specs.List.{IsDistinct, AllByRecursion}
use Rattle.std.specs.Map.{keys_of}
use Rattle.std.proofs.lemmas.List.{map-append}
use Rattle.buffa_bytes.specs.PayloadValue.{PayloadValue, HasPayloadValue}
use Rattle.buffa_bytes.specs.Field.{IsTag}
use Rattle.buffa_bytes.specs.Number.{IsNumber}
use Rattle.buffa_bytes.specs.Values.{tag_encoding}
use Rattle.buffa_bytes.specs.Varint.{varint_encoding}
use Rattle.buffa_bytes.specs.declared.wire_type.WireType.TheVariants.{LengthDelimited}
use Rattle.buffa_bytes.proofs.FieldLemmas.{is_tag}
use Rattle.buffa_bytes.proofs.ListLemmas.{AllByRecursion-last}
use Rattle.buffa_bytes.proofs.VarintLemmas.{IsVarint-varint_encoding}
use Rattle.buffa_map.specs.Codec.{Reading, Writing, level}
use Rattle.buffa_wire.specs.BudgetLeft.{BudgetLeft}
use Rattle.buffa_bytes.specs.PayloadValue.PayloadValue.{bytes}
use Rattle.buffa_wire.specs.Passes.{IsSmall}
use Rattle.buffa_map.specs.Message.{merged_value, message_reading}
use Rattle.buffa_map.specs.MessageField.{IsSmallField}
use Rattle.buffa_map.specs.Scalars.{delimited_writing}
use Rattle.buffa_map.specs.Entry.{IsCodecField, IsEntry, IsEntryField}
use Rattle.buffa_map.specs.EntryReading.{blanks}
use Rattle.buffa_map.specs.Pairs.{put}
use Rattle.buffa_map.specs.Run.{fold_entries, IsRecord, undeclared, Run, EntryRecord, pair_entry}
use Rattle.buffa_map.specs.Encoding.{AllHold, HasEncoding, entry_encoding, field_encoding, record_encoding}
use Rattle.buffa_map.specs.declared.map_entry.MapEntry.{MapEntry}

-- the record of a pair
abbrev pub as_record : {K W : Type 0} → Writing K → Writing W → K × W → EntryRecord K W
as_record kw vw p = record { bytes = entry_encoding kw vw p; parts = pair_entry p }

-- a payload of v is read as v, where the default stood
abbrev pub IsReadBack : {X : Type 0} → Reading X → Writing X → ℕ → X → Type 0
IsReadBack r w d v = (level r.nested d ≡ Ok tt) × (c : PayloadValue) × HasPayloadValue w.wire (w.encoding v) c × (r.reads d r.blank c ≡ Ok (v, true))

pub implicit_back : {X : Type 0} (r : Reading X) (w : Writing X) (d : ℕ) (v : X) → r.nested ≡ false → (c : PayloadValue) × HasPayloadValue w.wire (w.encoding v) c × (r.reads d r.blank c ≡ Ok (v, true)) → IsReadBack r w d v
implicit_back r w d v plain h = (rw plain refl, h.0, h.1, h.2)

module _ {K W : Type 0} (key : Reading K) (val : Reading W) (kw : Writing K) (vw : Writing W) (same_key : kw.wire ≡ key.wire) (same_val : vw.wire ≡ val.wire) (d : ℕ)
    (KeyOk : K → Type 0) (ValOk : W → Type 0) (key_back : (v : K) → KeyOk v → IsReadBack key kw d v) (val_back : (v : W) → ValOk v → IsReadBack val vw d v) where
  part : {X : Type 0} (r : Reading X) (w : Writing X) (n : ℕ) (v : X) → IsNumber n → w.wire ≡ r.wire → IsReadBack r w d v → IsCodecField r d n r.blank (tag_encoding n w.wire ++ w.encoding v) v true
  part r w n v num same (left, c, h, k) = (tag_encoding n w.wire, w.encoding v, c, subst (λ z. IsTag (tag_encoding n w.wire) n z) same (is_tag n w.wire num), left, subst (λ z. HasPayloadValue z (w.encoding v) c) same h, k, refl)

  pub entry_back : (p : K × W) → KeyOk p.0 → ValOk p.1 → IsEntry key val d (entry_encoding kw vw p) (pair_entry p)
  entry_back p a b =
      let f = tag_encoding 1 kw.wire ++ kw.encoding p.0 in
      let g = tag_encoding 2 vw.wire ++ vw.encoding p.1 in
      let s = blanks key val d in
      let t : MapEntry K W = record { key = p.0; value = val.blank; known = true } in
      let one : IsEntryField key val d s f t = inl (p.0, true, part key kw 1 p.0 (omega arith, omega arith) same_key (key_back p.0 a), refl) in
      let two : IsEntryField key val d t g (pair_entry p) = inr (inl (p.1, true, part val vw 2 p.1 (omega arith, omega arith) same_val (val_back p.1 b), refl)) in
      (f ∷ g ∷ [], sym (append-nil (f ++ (g ++ [])) ∙ ap (λ z. f ++ z) (append-nil g)), (t, one, (pair_entry p, two, refl)))

  pub record_back : (n : ℕ) (p : K × W) → IsNumber n → length (entry_encoding kw vw p) < 2 ^ 64 → KeyOk p.0 → ValOk p.1 → IsRecord key val d n (record_encoding kw vw n p) (as_record kw vw p)
  record_back n p num fits a b = (tag_encoding n LengthDelimited, varint_encoding (length (entry_encoding kw vw p)), is_tag n LengthDelimited num, IsVarint-varint_encoding (length (entry_encoding kw vw p)) fits, refl, entry_back p a b)

  pub run_back : (n : ℕ) (l : List (K × W)) → IsNumber n → HasEncoding kw vw l → AllHold KeyOk ValOk l → Run key val d n (field_encoding kw vw n l) (map (as_record kw vw) l)
  run_back n [] num has ok = refl
  run_back n (p ∷ ps) num has ok = (record_encoding kw vw n p, field_encoding kw vw n ps, record_back n p num has.0 ok.0 ok.1, refl, run_back n ps num has.1 ok.2)

nothing-before : {K : Type 0} (eq : K → K → Bool) (ys : List K) → AllByRecursion (λ y. AllByRecursion (λ x. eq y x ≡ false) []) ys
nothing-before eq [] = tt
nothing-before eq (y ∷ ys) = (tt, nothing-before eq ys)

-- ---- the pairs of a map, put one after the other into none, are the pairs
module _ {K W : Type 0} {eq : K → K → Bool} (laws : IsEquivalence eq) where
  put-absent : (m : List (K × W)) (k : K) (v : W) → AllByRecursion (λ x. eq k x ≡ false) (keys_of m) → put eq m k v ≡ m ++ (k, v) ∷ []
  put-absent [] k v h = refl
  put-absent (e ∷ es) k v h = rw h.0 (ap (λ z. e ∷ z) (put-absent es k v h.1))

  apart-last : (y k : K) (m : List (K × W)) (v : W) → AllByRecursion (λ x. eq y x ≡ false) (keys_of m) → eq y k ≡ false → AllByRecursion (λ x. eq y x ≡ false) (keys_of (m ++ (k, v) ∷ []))
  apart-last y k m v h n = subst (AllByRecursion (λ x. eq y x ≡ false)) (sym (map-append (λ (e : K × W). e.0) m ((k, v) ∷ []))) (AllByRecursion-last (λ x. eq y x ≡ false) (keys_of m) k h n)

  all-apart-last : (ys : List K) (k : K) (m : List (K × W)) (v : W) → AllByRecursion (λ y. AllByRecursion (λ x. eq y x ≡ false) (keys_of m)) ys → AllByRecursion (λ y. eq k y ≡ false) ys →
      AllByRecursion (λ y. AllByRecursion (λ x. eq y x ≡ false) (keys_of (m ++ (k, v) ∷ []))) ys
  all-apart-last [] k m v h n = tt
  all-apart-last (y ∷ ys) k m v h n = (apart-last y k m v h.0 (laws.symm y k ∙ n.0), all-apart-last ys k m v h.1 n.1)

  fold_in : (as_record : K × W → EntryRecord K W) → ((p : K × W) → (as_record p).parts ≡ pair_entry p) → (m l : List (K × W)) → AllByRecursion (λ y. AllByRecursion (λ x. eq y x ≡ false) (keys_of m)) (keys_of l) → IsDistinct eq (keys_of l) →
      fold_entries eq m (map as_record l) ≡ m ++ l
  unfolding IsDistinct
  fold_in f is m [] h d = sym (append-nil m)
  fold_in f is m (p ∷ ps) h d =
      rw (is p, put-absent m p.0 p.1 h.0) (fold_in f is (m ++ p ∷ []) ps (all-apart-last (keys_of ps) p.0 m p.1 h.1 d.0) d.1 ∙ append_assoc m (p ∷ []) ps)

  pub fold_back : (as_record : K × W → EntryRecord K W) → ((p : K × W) → (as_record p).parts ≡ pair_entry p) → (l : List (K × W)) → IsDistinct eq (keys_of l) → fold_entries eq [] (map as_record l) ≡ l
  fold_back f is l d = fold_in f is [] l (nothing-before eq (keys_of l)) d

pub both_hold : {K W : Type 0} (P R : K → Type 0) (Q S : W → Type 0) (l : List (K × W)) → AllHold P Q l → AllHold R S l → AllHold (λ k. P k × R k) (λ v. Q v × S v) l
both_hold P R Q S [] a b = tt
both_hold P R Q S (p ∷ ps) a b = ((a.0, b.0), (a.1, b.1), both_hold P R Q S ps a.2 b.2)

-- each pair's entry is declared
pub all_declared : {K W : Type 0} (say : K × W → EntryRecord K W) → ((p : K × W) → (say p).parts.known ≡ true) → (l : List (K × W)) → undeclared (map say l) ≡ []
all_declared say is [] = refl
all_declared say is (p ∷ l) = rw (is p) (all_declared say is l)

-- ---- messages: small ones have an encoding, and are read back where a level is left for each of theirs
module _ {K M : Type 0} (kw : Writing K) (encoding : M → List ℕ) where
  pub small_encoding : (l : List (K × M)) → IsSmallField kw encoding l → HasEncoding kw (delimited_writing encoding) l
  small_encoding [] h = tt
  small_encoding (p ∷ ps) h = (h.0.1, small_encoding ps h.1)

  pub all_small : (P : K → Type 0) (Q : M → Type 0) (l : List (K × M)) → IsSmallField kw encoding l → AllHold P Q l → AllHold P (λ v. Q v × IsSmall (encoding v)) l
  all_small P Q [] h k = tt
  all_small P Q (p ∷ ps) h k = (k.0, (k.1, h.0.0), all_small P Q ps h.1 k.2)

module _ {M : Type 0} (blank : M) (merged : ℕ → M → List ℕ → Option M) (cost : ℕ → List ℕ → BudgetLeft) (encoding : M → List ℕ) where
  pub message_back : (d : ℕ) (v : M) → IsSmall (encoding v) → 0 < d → ((e : ℕ) → suc e ≡ d → merged e blank (encoding v) ≡ Some v) → IsReadBack (message_reading blank merged cost) (delimited_writing encoding) d v
  message_back zero v small some means = absurd (omega (arith, some))
  message_back (suc e) v small some means =
      let fits : length (encoding v) < 2 ^ 64 = omega (arith, small) in
      (refl, bytes (encoding v), (varint_encoding (length (encoding v)), IsVarint-varint_encoding (length (encoding v)) fits, refl), ap merged_value (means e refl))
