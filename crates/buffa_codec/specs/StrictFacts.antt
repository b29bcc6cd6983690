-- What the definitions of faults come to: a record is read where it has none, and never has one then.
use Rattle.std.proofs.Common.{◌≡◌, ℕ, ◌<◌, List, [], ◌∷◌, ◌++◌, length, Bool, true, false, Option, Some, None, Result, Ok, Err, option_map, refl, sym, ap, subst, ◌∙◌, arith, if◌then◌else◌}
use Rattle.std.specs.Str.{is_utf8}
use Rattle.buffa_bytes.specs.PayloadValue.{PayloadValue, payload_value_at}
use Rattle.buffa_bytes.specs.Scan.{step_then}
use Rattle.buffa_bytes.proofs.ScanLemmas.{Shortens, scan_step}
use Rattle.buffa_bytes.specs.declared.wire_type.WireType.{WireType}
use Rattle.buffa_bytes.specs.declared.error.DecodeError.{DecodeError}
use Rattle.buffa_bytes.specs.declared.error.DecodeError.TheVariants.{InvalidUtf8}
use Rattle.buffa_wire.specs.BudgetLeft.{BudgetLeft}
use Rattle.buffa_wire.specs.Records.{FieldData, varint, fixed32, fixed64, bytes, group}
use Rattle.buffa_codec.specs.Decoded.{bytes_held, string_held}
use Rattle.buffa_codec.specs.PackedFacts.{numbers_shorten}
use Rattle.buffa_codec.specs.Strict.{AreElements, Faultless, FirstElementFault, FirstFault, bytes_fault, number_list_fault, packed_fault, packed_step, payload_passed, string_fault, unless_found}

both_some : {A : Type 0} (x : A) → None ≡ Some x → ⊥
both_some x h = cc

pub no_two : {A : Type 0} (o : Option A) (x : A) → o ≡ None → o ≡ Some x → ⊥
no_two o x h k = both_some x (sym h ∙ k)

-- ---- numbers

pub found_read : {M : Type 0} (of : ℕ → M) (o : Option ℕ) (w : WireType) (n : ℕ) (d : FieldData) → unless_found o w n d ≡ None → (v : M) × (option_map of o ≡ Some v)
found_read of (Some x) w n d h = (of x, refl)
found_read of None w n d h = absurd (both_some _ (sym h))

pub read_found : {M : Type 0} (of : ℕ → M) (o : Option ℕ) (w : WireType) (n : ℕ) (d : FieldData) (v : M) → option_map of o ≡ Some v → unless_found o w n d ≡ None
read_found of (Some x) w n d v h = refl
read_found of None w n d v h = absurd (both_some v h)

pub read_listed : {M : Type 0} (found : FieldData → Option ℕ) (of : ℕ → M) (w : WireType) (n : ℕ) (d : FieldData) (v : M) → ((bs : List ℕ) → found (bytes bs) ≡ None) → option_map of (found d) ≡ Some v → number_list_fault found w n d ≡ None
read_listed found of w n (bytes bs) v other h = absurd (both_some v (sym (ap (option_map of) (other bs)) ∙ h))
read_listed found of w n (varint x) v other h = read_found of (found (varint x)) w n (varint x) v h
read_listed found of w n (fixed32 x) v other h = read_found of (found (fixed32 x)) w n (fixed32 x) v h
read_listed found of w n (fixed64 x) v other h = read_found of (found (fixed64 x)) w n (fixed64 x) v h
read_listed found of w n (group rs) v other h = read_found of (found (group rs)) w n (group rs) v h

-- ---- strings and bytes

text_read : (c : Bool) (b : List ℕ) → (if c then None else Some InvalidUtf8) ≡ None → (v : List ℕ) × ((if c then Some b else None) ≡ Some v)
text_read true b h = (b, refl)
text_read false b h = absurd (both_some _ (sym h))

read_text : (c : Bool) (b v : List ℕ) → (if c then Some b else None) ≡ Some v → (if c then None else Some InvalidUtf8) ≡ None
read_text true b v h = refl
read_text false b v h = absurd (both_some v h)

pub string_read : (n : ℕ) (d : FieldData) → string_fault n d ≡ None → (v : List ℕ) × (string_held d ≡ Some v)
string_read n (bytes b) h = text_read (is_utf8 b) b h
string_read n (varint x) h = absurd (both_some _ (sym h))
string_read n (fixed32 x) h = absurd (both_some _ (sym h))
string_read n (fixed64 x) h = absurd (both_some _ (sym h))
string_read n (group rs) h = absurd (both_some _ (sym h))

pub read_string : (n : ℕ) (d : FieldData) (v : List ℕ) → string_held d ≡ Some v → string_fault n d ≡ None
read_string n (bytes b) v h = read_text (is_utf8 b) b v h
read_string n (varint x) v h = absurd (both_some v h)
read_string n (fixed32 x) v h = absurd (both_some v h)
read_string n (fixed64 x) v h = absurd (both_some v h)
read_string n (group rs) v h = absurd (both_some v h)

pub text_no_fault : (n : ℕ) (b : List ℕ) → is_utf8 b ≡ true → None ≡ string_fault n (bytes b)
text_no_fault n b h = rw h refl

pub text_fault : (n : ℕ) (b : List ℕ) → is_utf8 b ≡ false → Some InvalidUtf8 ≡ string_fault n (bytes b)
text_fault n b h = rw h refl

pub bytes_are_read : (n : ℕ) (d : FieldData) → bytes_fault n d ≡ None → (v : List ℕ) × (bytes_held d ≡ Some v)
bytes_are_read n (bytes b) h = (b, refl)
bytes_are_read n (varint x) h = absurd (both_some _ (sym h))
bytes_are_read n (fixed32 x) h = absurd (both_some _ (sym h))
bytes_are_read n (fixed64 x) h = absurd (both_some _ (sym h))
bytes_are_read n (group rs) h = absurd (both_some _ (sym h))

pub read_bytes : (n : ℕ) (d : FieldData) (v : List ℕ) → bytes_held d ≡ Some v → bytes_fault n d ≡ None
read_bytes n (bytes b) v h = refl
read_bytes n (varint x) v h = absurd (both_some v h)
read_bytes n (fixed32 x) v h = absurd (both_some v h)
read_bytes n (fixed64 x) v h = absurd (both_some v h)
read_bytes n (group rs) v h = absurd (both_some v h)

-- ---- packed numbers

short : (w : WireType) (bs : List ℕ) (r : Result (PayloadValue × List ℕ) DecodeError) → payload_value_at w bs ≡ r → Shortens (payload_passed r) bs
short w bs (Ok c) e = numbers_shorten w bs c.0 c.1 e
short w bs (Err f) e = tt

step_short : (w : WireType) (bs : List ℕ) → Shortens (packed_step w bs) bs
step_short w [] = tt
step_short w (b ∷ bs) = short w (b ∷ bs) (payload_value_at w (b ∷ bs)) refl

fault_step : (w : WireType) (bs : List ℕ) → packed_fault w bs ≡ step_then (λ _. packed_fault w) (packed_step w bs)
unfolding packed_fault
fault_step w bs = scan_step (λ _ rest. packed_step w rest) None (λ _ rest. step_short w rest) tt bs

pub packed_end : (w : WireType) (bs : List ℕ) → length bs ≡ 0 → packed_fault w bs ≡ None
packed_end w [] h = fault_step w []
packed_end w (b ∷ bs) h = absurd (omega (arith, h))

-- the payload at the front is passed, or it is the fault
pub packed_passes : (w : WireType) (bs rest : List ℕ) (c : PayloadValue) → 0 < length bs → payload_value_at w bs ≡ Ok (c, rest) → packed_fault w bs ≡ packed_fault w rest
packed_passes w [] rest c h e = absurd (omega (arith, h))
packed_passes w (b ∷ bs) rest c h e = fault_step w (b ∷ bs) ∙ ap (λ r. step_then (λ _. packed_fault w) (payload_passed r)) e

pub packed_stops : (w : WireType) (bs : List ℕ) (f : DecodeError) → 0 < length bs → payload_value_at w bs ≡ Err f → packed_fault w bs ≡ Some f
packed_stops w [] f h e = absurd (omega (arith, h))
packed_stops w (b ∷ bs) f h e = fault_step w (b ∷ bs) ∙ ap (λ r. step_then (λ _. packed_fault w) (payload_passed r)) e

-- ---- records without a fault, and a first one

pub not_both : (fault : FieldData → Option DecodeError) (front : List FieldData) (d : FieldData) (back : List FieldData) (e : DecodeError) → Faultless fault (front ++ d ∷ back) → fault d ≡ Some e → ⊥
not_both fault [] d back e h k = no_two (fault d) e h.0 k
not_both fault (x ∷ front) d back e h k = not_both fault front d back e h.1 k

pub either_fault : (fault : FieldData → Option DecodeError) (ds : List FieldData) (e : DecodeError) → Faultless fault ds → FirstFault fault ds e → ⊥
either_fault fault ds e h (front, d, back, cut, before, k) = not_both fault front d back e (subst (Faultless fault) cut h) k

module _ (IsElement : BudgetLeft → FieldData → Type 0) (Fault : BudgetLeft → FieldData → DecodeError → Type 0) (leaves : BudgetLeft → FieldData → BudgetLeft → Type 0)
    (either : (b : BudgetLeft) (d : FieldData) (e : DecodeError) → IsElement b d → Fault b d e → ⊥)
    (one_left : (b x y : BudgetLeft) (d : FieldData) → IsElement b d → leaves b d x → leaves b d y → x ≡ y) where
  not_both_listed : (b left mid : BudgetLeft) (front : List FieldData) (d : FieldData) (back : List FieldData) (e : DecodeError) → AreElements IsElement leaves b (front ++ d ∷ back) left → AreElements IsElement leaves b front mid → Fault mid d e → ⊥
  not_both_listed b left mid [] d back e h k f = either b d e h.1 (subst (λ m. Fault m d e) k f)
  not_both_listed b left mid (x ∷ front) d back e h k f =
      not_both_listed h.0 left mid front d back e h.3 (subst (λ m. AreElements IsElement leaves m front mid) (one_left b k.0 h.0 x h.1 k.2 h.2) k.3) f

  pub either_listed : (b left : BudgetLeft) (ds : List FieldData) (e : DecodeError) → AreElements IsElement leaves b ds left → FirstElementFault IsElement Fault leaves b ds e → ⊥
  either_listed b left ds e h (front, d, back, mid, cut, before, k) =
      not_both_listed b left mid front d back e (subst (λ l. AreElements IsElement leaves b l left) cut h) before k
