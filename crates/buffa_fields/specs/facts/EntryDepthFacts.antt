-- How deep groups nest in an entry of a map of plain codecs: at any depth that suffices it says the same. So an entry that isn't
-- known at some depth may have been put aside.
use Rattle.std.proofs.Common.{◌≡◌, ◌⊎◌, inl, inr, ℕ, zero, suc, ◌+◌, ◌≤◌, Bool, true, false, List, [], ◌∷◌, length, length-append, Result, Ok, Err, refl, sym, ap, subst, ◌∙◌, arith, if◌then◌else◌}
use Rattle.std.specs.Prelude.{is_some}
use Rattle.buffa_bytes.proofs.FieldLemmas.{tag_some}
use Rattle.buffa_bytes.proofs.StepLemmas.{agree_ok}
use Rattle.buffa_bytes.specs.PayloadValue.{PayloadValue}
use Rattle.buffa_bytes.specs.Field.{Group, PayloadOver, SomeFieldOver}
use Rattle.buffa_bytes.specs.declared.error.DecodeError.{DecodeError}
use Rattle.buffa_bytes.specs.declared.wire_type.WireType.{WireType}
use Rattle.buffa_bytes.specs.declared.wire_type.WireType.TheVariants.{Varint, Fixed64, LengthDelimited, StartGroup, EndGroup, Fixed32}
use Rattle.buffa_bytes.proofs.SequenceLemmas.{ok_same}
use Rattle.buffa_wire.specs.Records.{bytes}
use Rattle.buffa_bytes.specs.Join.{Join}
use Rattle.buffa_bytes.specs.Join.Join.{none, more}
use Rattle.buffa_bytes.specs.Scan.{ParsesEach, join}
use Rattle.buffa_map.proofs.EntryLemmas.{entry_complete, entry_sound}
use Rattle.buffa_map.specs.Codec.{Reading}
use Rattle.buffa_map.specs.Entry.{IsCodecField, IsEntry, IsEntryField}
use Rattle.buffa_map.specs.EntryReading.{blanks, entry_of}
use Rattle.buffa_map.specs.declared.map_entry.MapEntry.{MapEntry}
use Rattle.buffa_wire.specs.ByField.{value_of}
use Rattle.buffa_fields.specs.facts.ValueFacts.{open_level}
use Rattle.buffa_fields.specs.ClosedEnumMaps.{IsUnknownEntry, IsUndeclaredAt, entry_depth, first_entry_depth}

-- ---- fields at another depth
shift_join : (P Q : List ℕ → Type 0) (l : ℕ) → ((f : List ℕ) → length f ≤ l → P f → Q f) → (b : List ℕ) → Join P b → length b ≤ l → Join Q b
shift_join P Q l h _ none k = none
shift_join P Q l h _ (more f r one rest) k = let n = length-append f r in more f r (h f (omega (arith, n, k)) one) (shift_join P Q l h r rest (omega (arith, n, k)))

payload_over : (G H : ℕ → List ℕ → Type 0) (n : ℕ) (w : WireType) (p : List ℕ) → (G n p → H n p) → PayloadOver G n w p → PayloadOver H n w p
payload_over G H n Varint p c h = h
payload_over G H n Fixed64 p c h = h
payload_over G H n LengthDelimited p c h = h
payload_over G H n StartGroup p c h = c h
payload_over G H n EndGroup p c h = h
payload_over G H n Fixed32 p c h = h

some_field : (G H : ℕ → List ℕ → Type 0) (f : List ℕ) → ((n : ℕ) (p : List ℕ) → length p ≤ length f → G n p → H n p) → SomeFieldOver G f → SomeFieldOver H f
some_field G H f c (n, w, (t, p, tag, payload, is)) = (n, w, (t, p, tag, payload_over G H n w p (c n p (omega (arith, ap length is, length-append t p))) payload, is))

-- at as many levels, or at as many as there are bytes
group_at : (k d n : ℕ) (p : List ℕ) → (d ≤ k) ⊎ (length p ≤ k) → Group d n p → Group k n p
unfolding Group
group_at k zero n p s h = absurd h
group_at zero (suc d) n p (inl s) h = absurd (omega (arith, s))
group_at zero (suc d) n p (inr s) (b, t, j, tag, is) = absurd (omega (arith, s, tag_some t n EndGroup tag, ap length is, length-append b t))
group_at (suc k) (suc d) n p (inl s) (b, t, j, tag, is) =
    (b, t, shift_join (SomeFieldOver (Group d)) (SomeFieldOver (Group k)) (length b) (λ f l h. some_field (Group d) (Group k) f (λ m q short g. group_at k d m q (inl (omega (arith, s))) g) h) b j (omega arith), tag, is)
group_at (suc k) (suc d) n p (inr s) (b, t, j, tag, is) =
    let few = tag_some t n EndGroup tag in
    let all = ap length is in
    let both = length-append b t in
    (b, t, shift_join (SomeFieldOver (Group d)) (SomeFieldOver (Group k)) (length b) (λ f l h. some_field (Group d) (Group k) f (λ m q short g. group_at k d m q (inr (omega (arith, s, few, all, both, l, short))) g) h) b j (omega arith), tag, is)

-- a plain codec reads the same at each depth
abbrev pub IsEven : {V : Type 0} → Reading V → Type 0
IsEven {V} codec = (codec.nested ≡ false) × ((k d : ℕ) (old : V) (c : PayloadValue) → codec.reads k old c ≡ codec.reads d old c)

codec_field : {V : Type 0} (codec : Reading V) → IsEven codec → (k d n : ℕ) (old new : V) (known : Bool) (f : List ℕ) → IsCodecField codec d n old f new known → IsCodecField codec k n old f new known
codec_field codec even k d n old new known f (t, p, c, tag, low, has, reads, is) = (t, p, c, tag, open_level codec k even.0, has, even.1 k d old c ∙ reads, is)

-- ---- so are entries
module _ {K V : Type 0} (key : Reading K) (val : Reading V) (even_key : IsEven key) (even_val : IsEven val) where
  one_at : (k d : ℕ) (s t : MapEntry K V) (f : List ℕ) → (d ≤ k) ⊎ (length f ≤ k) → IsEntryField key val d s f t → IsEntryField key val k s f t
  one_at k d s t f h (inl (v, known, field, is)) = inl (v, known, codec_field key even_key k d 1 s.key v known f field, is)
  one_at k d s t f h (inr (inl (v, known, field, is))) = inr (inl (v, known, codec_field val even_val k d 2 s.value v known f field, is))
  one_at k d s t f h (inr (inr (n, w, one, two, (tg, p, tag, payload, is), st))) = inr (inr (n, w, one, two, (tg, p, tag, payload_over (Group d) (Group k) n w p (group_at k d n p (fewer h)) payload, is), st))
    where
      fewer : (d ≤ k) ⊎ (length f ≤ k) → (d ≤ k) ⊎ (length p ≤ k)
      fewer (inl x) = inl x
      fewer (inr x) = inr (omega (arith, x, ap length is, length-append tg p))

  each_at : (k d : ℕ) (ps : List (List ℕ)) (s t : MapEntry K V) → (d ≤ k) ⊎ (length (join ps) ≤ k) → ParsesEach (IsEntryField key val d) s ps t → ParsesEach (IsEntryField key val k) s ps t
  each_at k d [] s t h x = x
  each_at k d (p ∷ ps) s t (inl h) (u, x, y) = (u, one_at k d s u p (inl h) x, each_at k d ps u t (inl h) y)
  each_at k d (p ∷ ps) s t (inr h) (u, x, y) =
      let n = length-append p (join ps) in
      (u, one_at k d s u p (inr (omega (arith, h, n))) x, each_at k d ps u t (inr (omega (arith, h, n))) y)

  entry_at : (k d : ℕ) (e : List ℕ) (s : MapEntry K V) → (d ≤ k) ⊎ (length e ≤ k) → IsEntry key val d e s → IsEntry key val k e s
  entry_at k d e s (inl h) (ps, is, x) = (ps, is, each_at k d ps (blanks key val d) s (inl h) x)
  entry_at k d e s (inr h) (ps, is, x) = (ps, is, each_at k d ps (blanks key val d) s (inr (omega (arith, h, ap length is, length-append (join ps) []))) x)

  -- ---- the least depth
  found : (k d : ℕ) (e : List ℕ) (s : MapEntry K V) → entry_of key val (d + k) e ≡ Ok s → is_some (value_of (entry_of key val (first_entry_depth key val k d e) e)) ≡ true
  found zero d e s h =
      let here : d + 0 ≡ d = omega arith in
      ap (λ r. is_some (value_of r)) (ap (λ z. entry_of key val z e) (sym here) ∙ h)
  found (suc k) d e s h =
      let next : d + suc k ≡ suc d + k = omega arith in
      by (is_some (value_of (entry_of key val d e))) refl (found k (suc d) e s (subst (λ z. entry_of key val z e ≡ Ok s) next h))
    where
      by : (b : Bool) → is_some (value_of (entry_of key val d e)) ≡ b → is_some (value_of (entry_of key val (first_entry_depth key val k (suc d) e) e)) ≡ true → is_some (value_of (entry_of key val (if b then d else first_entry_depth key val k (suc d) e) e)) ≡ true
      by true is again = is
      by false is again = again

  said_by : (r : Result (MapEntry K V) DecodeError) → is_some (value_of r) ≡ true → (s : MapEntry K V) × (r ≡ Ok s)
  said_by (Ok s) h = (s, refl)
  said_by (Err e) h = cc

  one_answer : (a b : MapEntry K V) → (let r : Result (MapEntry K V) DecodeError = Ok a in r ≡ Ok b) → a ≡ b
  one_answer a b h = ok_same h

  -- a length-delimited entry that isn't known may have been put aside, and only such a one may
  pub undeclared_among_unknowns : (c : ℕ) (e : List ℕ) → IsUndeclaredAt key val c e → IsUnknownEntry key val (bytes e)
  undeclared_among_unknowns c e (s, entry, known) = (e, refl, at)
    where
      at : (d : ℕ) → entry_depth key val e ≤ d → IsUndeclaredAt key val d e
      at d low =
          let all = entry_complete key val (length e) e s (entry_at (length e) c e s (inr (omega arith)) entry) in
          let none : length e ≡ 0 + length e = omega arith in
          let least = said_by (entry_of key val (entry_depth key val e) e) (found (length e) 0 e s (subst (λ z. entry_of key val z e ≡ Ok s) none all)) in
          let there = agree_ok (entry_of key val (entry_depth key val e) e) least.0 (entry_sound key val (entry_depth key val e) e) least.1 in
          let again = entry_complete key val (length e) e least.0 (entry_at (length e) (entry_depth key val e) e least.0 (inr (omega arith)) there) in
          let same : s ≡ least.0 = one_answer s least.0 (sym all ∙ again) in
          (least.0, entry_at d (entry_depth key val e) e least.0 (inl low) there, ap (λ (z : MapEntry K V). z.known) (sym same) ∙ known)
