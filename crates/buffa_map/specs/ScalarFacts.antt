-- What the codecs of scalars, strings and bytes owe: one law for each shape.
use Rattle.std.proofs.Common.{◌≡◌, ℕ, Bool, true, false, List, length, Result, Ok, Err, refl, sym, ap, if◌then◌else◌}
use Rattle.std.specs.Str.{is_utf8}
use Rattle.buffa_bytes.specs.Readings.{◌>>=◌}
use Rattle.buffa_bytes.specs.PayloadValue.{PayloadValue, HasPayloadValue, bytes_in}
use Rattle.buffa_bytes.specs.PayloadValue.PayloadValue.{bytes}
use Rattle.buffa_wire.specs.BudgetLeft.{IsLimit}
use Rattle.buffa_bytes.specs.Values.{delimited_encoding}
use Rattle.buffa_bytes.specs.Varint.{varint_encoding}
use Rattle.buffa_bytes.specs.Delimited.{text_as}
use Rattle.buffa_bytes.specs.declared.wire_type.WireType.{WireType}
use Rattle.buffa_bytes.specs.declared.wire_type.WireType.TheVariants.{LengthDelimited}
use Rattle.buffa_bytes.specs.declared.error.DecodeError.{DecodeError}
use Rattle.buffa_bytes.specs.declared.error.DecodeError.TheVariants.{InvalidUtf8}
use Rattle.buffa_bytes.proofs.VarintLemmas.{IsVarint-varint_encoding}
use Rattle.buffa_map.specs.Scalars.{IsLengthy, IsText}
pub use Rattle.buffa_wire.specs.ScalarFacts.{no_fixed_length}

-- ---- every value is a declared one

abbrev read : {V : Type 0} → V × Bool → Result (V × Bool) DecodeError
read x = Ok x

flag : {V : Type 0} → Result (V × Bool) DecodeError → Bool
flag (Ok x) = x.1
flag (Err e) = true

pub always_known : {V : Type 0} {x : V} (y : V) (known : Bool) → read (x, true) ≡ Ok (y, known) → known ≡ true
unfolding flag
always_known y known h = sym (ap flag h)

known_of : {V : Type 0} (t : V) (b : Bool) (new : V) (known : Bool) → ((if b then Ok t else Err InvalidUtf8) >>= (λ v. read (v, true))) ≡ Ok (new, known) → known ≡ true
known_of t true new known h = always_known new known h
known_of t false new known h = cc

pub string_known : {V : Type 0} (of : List ℕ → V) (c : PayloadValue) (new : V) (known : Bool) → (text_as of (bytes_in c) >>= (λ v. read (v, true))) ≡ Ok (new, known) → known ≡ true
string_known of c new known h = known_of (of (bytes_in c)) (is_utf8 (bytes_in c)) new known h

-- ---- no fault is a limit's

pub never_faulty : {V : Type 0} {y : V × Bool} (x : DecodeError) → read y ≡ Err x → IsLimit x → ⊥
never_faulty x h l = cc

limit_of : {V : Type 0} (t : V) (b : Bool) (x : DecodeError) → ((if b then Ok t else Err InvalidUtf8) >>= (λ v. read (v, true))) ≡ Err x → IsLimit x → ⊥
limit_of t true x h l = cc
limit_of t false InvalidUtf8 h l = l
limit_of t false _ h l = cc

pub string_no_limit : {V : Type 0} (of : List ℕ → V) (c : PayloadValue) (x : DecodeError) → (text_as of (bytes_in c) >>= (λ v. read (v, true))) ≡ Err x → IsLimit x → ⊥
string_no_limit of c x h = limit_of (of (bytes_in c)) (is_utf8 (bytes_in c)) x h

-- ---- a payload reads back to its value, whatever stood before

-- p is a payload of wire type w that reads makes v of
abbrev pub ReadsAs : {V : Type 0} → WireType → (PayloadValue → Result (V × Bool) DecodeError) → List ℕ → V → Type 0
ReadsAs w reads p v = (c : PayloadValue) × HasPayloadValue w p c × (reads c ≡ Ok (v, true))

module _ {A : Type 0} (of : List ℕ → A) (content : A → List ℕ) (v : A) where
  pub bytes_read_back : IsLengthy (content v) → of (content v) ≡ v → ReadsAs LengthDelimited (λ c. read (of (bytes_in c), true)) (delimited_encoding (content v)) v
  bytes_read_back h e = (bytes (content v), (varint_encoding (length (content v)), IsVarint-varint_encoding (length (content v)) h, refl), ap (λ z. Ok (z, true)) e)

  pub string_reads_back : IsText (content v) → of (content v) ≡ v → ReadsAs LengthDelimited (λ c. text_as of (bytes_in c) >>= (λ x. read (x, true))) (delimited_encoding (content v)) v
  string_reads_back h e = (bytes (content v), (varint_encoding (length (content v)), IsVarint-varint_encoding (length (content v)) h.1, refl), rw (h.0, e) refl)
