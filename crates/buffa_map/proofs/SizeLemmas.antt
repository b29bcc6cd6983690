-- Lengths as numbers of 64 bits.
use Rattle.std.proofs.Common.{◌≡◌, ℕ, ◌+◌, ◌*◌, ◌^◌, ◌<◌, ◌≤◌, nat_lt, Bool, true, false, List, [], ◌∷◌, ◌++◌, length, Option, None, Some, refl, sym, ap, ◌∙◌, arith, length-append, inl, inr, if◌then◌else◌, suc-mul, zero-mul}
use Rattle.std.proofs.lemmas.Bool.{lt-ltb, le-ltb, ltb-true, cases_lt}
use Rattle.std.specs.Option.{SomeIff, IfSome}
use Rattle.buffa_bytes.specs.Varint.{varint_encoding}
use Rattle.buffa_bytes.specs.Values.{delimited_encoding, tag_encoding}
use Rattle.buffa_bytes.specs.Number.{wire_number}
use Rattle.buffa_bytes.specs.declared.wire_type.WireType.{WireType}
use Rattle.buffa_bytes.specs.declared.wire_type.WireType.TheVariants.{LengthDelimited}
use Rattle.buffa_bytes.proofs.FieldLemmas.{wire_small}
use Rattle.buffa_bytes.proofs.ShortestLemmas.{varint_encoding-last}
use Rattle.buffa_map.specs.Codec.{Writing}
use Rattle.buffa_map.specs.Encoding.{entry_encoding, record_encoding, field_encoding, field_size, as_u64, saturated}

some_in : (n k : ℕ) (b : Bool) → nat_lt n (2 ^ 64) ≡ b → Some k ≡ (if b then Some n else None) → (k ≡ n) × (n < 2 ^ 64)
some_in n k true h e = (cc, ltb-true n (2 ^ 64) h)
some_in n k false h e = cc

pub as_u64-some : (n k : ℕ) → Some k ≡ as_u64 n → (k ≡ n) × (n < 2 ^ 64)
as_u64-some n k h = some_in n k (nat_lt n (2 ^ 64)) refl h

pub as_u64-fits : (n : ℕ) → n < 2 ^ 64 → as_u64 n ≡ Some n
as_u64-fits n h = rw (lt-ltb n (2 ^ 64) h) refl

pub as_u64-past : (n : ℕ) → 2 ^ 64 ≤ n → as_u64 n ≡ None
as_u64-past n h = rw (le-ltb n (2 ^ 64) h) refl

-- a tag of number 1 or 2 has one byte
small_tag : (n : ℕ) (w : WireType) → n < 15 → length (tag_encoding n w) ≡ 1
small_tag n w h = ap length (varint_encoding-last (8 * n + wire_number w) (omega (arith, wire_small w)))

module _ {K W : Type 0} (key : Writing K) (val : Writing W) where
  pub length-entry_encoding : (p : K × W) → length (entry_encoding key val p) ≡ 2 + (length (key.encoding p.0) + length (val.encoding p.1))
  length-entry_encoding p =
      omega (
        arith,
        small_tag 1 key.wire (omega arith),
        small_tag 2 val.wire (omega arith),
        length-append (tag_encoding 1 key.wire ++ key.encoding p.0) (tag_encoding 2 val.wire ++ val.encoding p.1),
        length-append (tag_encoding 1 key.wire) (key.encoding p.0),
        length-append (tag_encoding 2 val.wire) (val.encoding p.1),
      )

  -- the size is the length of the encoding
  pub length-field_encoding : (n : ℕ) (l : List (K × W)) → length (field_encoding key val n l) ≡ field_size key val (length (tag_encoding n LengthDelimited)) l
  length-field_encoding n [] = refl
  length-field_encoding n (p ∷ ps) =
      omega (arith, length-field_encoding n ps, length-append (record_encoding key val n p) (field_encoding key val n ps), length-append (tag_encoding n LengthDelimited) (delimited_encoding (entry_encoding key val p)), length-append (varint_encoding (length (entry_encoding key val p))) (entry_encoding key val p))

  pub field_size-append : (t : ℕ) (ps qs : List (K × W)) → field_size key val t (ps ++ qs) ≡ field_size key val t ps + field_size key val t qs
  field_size-append t [] qs = omega arith
  field_size-append t (p ∷ ps) qs = omega (arith, field_size-append t ps qs)

  -- the size, where each record has the length r
  pub counted_size : (t r : ℕ) (l : List (K × W)) → ((p : K × W) → r ≡ field_size key val t (p ∷ [])) → field_size key val t l ≡ length l * r
  counted_size t r [] h = omega (arith, zero-mul r)
  counted_size t r (p ∷ ps) h = omega (arith, h p, counted_size t r ps h, suc-mul (length ps) r)

pub saturated-add : (a b : ℕ) → saturated (saturated a + saturated b) ≡ saturated (a + b)
saturated-add a b = omega arith

pub checked-as_u64 : (r : Option ℕ) (m n : ℕ) → SomeIff r (m < 2 ^ 64) m → m ≡ n → r ≡ as_u64 n
checked-as_u64 None m n h e = sym (as_u64-past n (elim (cases_lt m (2 ^ 64)) [ inl less ↦ absurd (h less) | inr not ↦ omega arith ]))
checked-as_u64 (Some x) m n h e = ap (λ z. Some z) (h.1 ∙ e) ∙ sym (as_u64-fits n (omega (arith, h.0)))

-- what holds of a length holds of it where it fits
pub if_fits : (r : Option ℕ) (n : ℕ) (P : ℕ → Type 0) → r ≡ as_u64 n → P n → IfSome r P
if_fits None n P h p = tt
if_fits (Some k) n P h p = rw (as_u64-some n k h).0 p
