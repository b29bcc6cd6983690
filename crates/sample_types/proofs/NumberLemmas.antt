-- One field of the messages of int32 and of kept fields; the records of int32, and that they cost nothing.
use Rattle.std.proofs.Common.{◌≡◌, ◌≢◌, ℕ, zero, suc, ◌==◌, ℤ, pos, negsuc, Bool, true, false, List, [], ◌++◌, Some, Result, Ok, Err, refl, sym, ap, ◌∙◌, arith, append-nil, if◌then◌else◌}
use Rattle.std.specs.Int.{cast_unsigned, w64}
use Rattle.buffa_bytes.specs.declared.error.DecodeError.{DecodeError}
use Rattle.buffa_bytes.specs.declared.error.DecodeError.TheVariants.{OutOfMemory}
use Rattle.buffa_bytes.specs.declared.wire_type.WireType.{WireType}
use Rattle.buffa_bytes.specs.declared.wire_type.WireType.TheVariants.{Varint, Fixed64, LengthDelimited, StartGroup, EndGroup, Fixed32}
use Rattle.buffa_bytes.specs.PayloadValue.{PayloadValue, number_in}
use Rattle.buffa_bytes.specs.PayloadValue.PayloadValue.{number}
use Rattle.buffa_bytes.specs.Field.{Payload}
use Rattle.buffa_bytes.specs.Readings.{check_wire, varint_at, ◌>>=◌, FullOnlyIf, Gives}
use Rattle.buffa_bytes.specs.Values.{int32_of}
use Rattle.buffa_bytes.proofs.VarintLemmas.{varint_complete}
use Rattle.buffa_bytes.proofs.SequenceLemmas.{err_same}
use Rattle.buffa_wire.specs.BudgetLeft.{BudgetLeft, nothing}
use Rattle.buffa_wire.specs.Records.{varint}
use Rattle.buffa_fields.specs.facts.BlankFacts.{is_zero}
use Rattle.buffa_fields.specs.MemberRecords.{implicit_records}
use Rattle.buffa_wire.specs.Takes.{IsTaken, cost_of, costs_nothing}
use Rattle.buffa_fields.specs.Schema.{both_charge}
use Rattle.buffa_wire.proofs.TakesLemmas.{cost_of_free}
use Rattle.buffa_fields.specs.Values.{RefusesAlone, ValueTakesMemory, free, value_taken}
use Rattle.sample_types.specs.Fields.{int32_field, number_records}
use Rattle.sample_types.specs.Numbers.{IsReadAlone}
use Rattle.buffa_map.specs.Scalars.{int32_reading}

-- ---- an int32 field, read as a member reads it
module _ {X : Type 0} (put : ℤ → X) (d n : ℕ) (v : ℤ) where
  taken_by : (w : WireType) (p rest : List ℕ) (u : ℤ) → Payload d n w p → value_taken int32_reading d v n w p ≡ Some u → int32_field n put w (p ++ rest) ≡ Ok (put u, rest)
  taken_by Varint p rest u (k, h) t =
      let all : value_taken int32_reading d v n Varint p ≡ Some (int32_of k) = rw (ap varint_at (sym (append-nil p)) ∙ varint_complete p k [] h) refl in
      let same : int32_of k ≡ u = let both = sym all ∙ t in cc in
      rw (varint_complete p k rest h) (ap (λ z. Ok (put z, rest)) same)
  taken_by Fixed64 p rest u h t = cc
  taken_by LengthDelimited p rest u h t = cc
  taken_by StartGroup p rest u h t = cc
  taken_by EndGroup p rest u h t = cc
  taken_by Fixed32 p rest u h t = cc

  abbrev content : ℕ × List ℕ → Result (PayloadValue × List ℕ) DecodeError
  content x = Ok (number x.0, x.1)

  abbrev value : PayloadValue × List ℕ → Result ((ℤ × Bool) × List ℕ) DecodeError
  value x = Ok ((int32_of (number_in x.0), true), x.1)

  abbrev int32 : ℕ × List ℕ → Result (ℤ × List ℕ) DecodeError
  int32 x = Ok (int32_of x.0, x.1)

  abbrev put_there : ℤ × List ℕ → Result (X × List ℕ) DecodeError
  put_there x = Ok (put x.0, x.1)

  same_fault : (c : Result (Unit {0}) DecodeError) (r : Result (ℕ × List ℕ) DecodeError) (e : DecodeError) →
      (c >>= (λ _. (r >>= content) >>= value)) ≡ Err e → (c >>= (λ _. (r >>= int32) >>= put_there)) ≡ Err e
  same_fault (Err f) r e h = let same : f ≡ e = err_same h in ap (λ z. Err z) same
  same_fault (Ok _) (Err f) e h = let same : f ≡ e = err_same h in ap (λ z. Err z) same
  same_fault (Ok _) (Ok x) e h = cc

  pub member_read : (w : WireType) (bs : List ℕ) (before : BudgetLeft) (r : Result (Unit {0}) DecodeError) (u : ℤ) (after : BudgetLeft) (rest : List ℕ) →
      IsTaken (value_taken int32_reading) free d v n w bs before r u after rest → FullOnlyIf r (ValueTakesMemory int32_reading d n w bs) →
      ((e : DecodeError) → r ≡ Err e → RefusesAlone int32_reading (λ z. z) d v n w bs e u) → IsReadAlone (int32_field n put w bs) (put v) r (put u) before after rest
  member_read w bs before (Ok x) u after rest (p, h, e, t, k) full refused =
      let unknown : after.unknown ≡ before.unknown = omega (arith, k.0) in
      let memory : after.memory ≡ before.memory = omega (arith, k.1) in
      (ap (int32_field n put w) e ∙ taken_by w p rest u h t, tt, λ i. record { unknown = unknown i; memory = memory i })
  member_read w bs before (Err e) u after rest (k, why, end) full refused =
      let unknown : after.unknown ≡ before.unknown = omega (arith, k.0, k.1, k.2, k.3) in
      let memory : after.memory ≡ before.memory = omega (arith, k.0, k.1, k.2, k.3) in
      let semantics = refused e refl in
      let none : e ≢ OutOfMemory = λ is. let asked = (full is).1 in cc in
      (same_fault (check_wire n Varint w) (varint_at bs) e (semantics.1 none), ap put (sym semantics.0), λ i. record { unknown = unknown i; memory = memory i })

-- ---- any other field
pub other_read : {X : Type 0} (v : X) (read : Result (List ℕ) DecodeError) (r : Result (Unit {0}) DecodeError) (before after : BudgetLeft) (rest : List ℕ) →
    Gives (λ _. rest) r read → before ≡ after → IsReadAlone (read >>= (λ x. Ok (v, x))) v r v before after rest
other_read v read (Ok x) before after rest h kept = (ap (λ z. z >>= (λ x. Ok (v, x))) h, tt, sym kept)
other_read v read (Err e) before after rest h kept = (ap (λ z. z >>= (λ x. Ok (v, x))) h, refl, sym kept)

-- ---- two values
abbrev pub put_first : ℤ → ℤ → ℤ × ℤ
put_first b x = (x, b)

abbrev pub put_second : ℤ → ℤ → ℤ × ℤ
put_second a x = (a, x)

abbrev pub TwoIsRead : Result ((ℤ × ℤ) × List ℕ) DecodeError → ℤ × ℤ → Result (Unit {0}) DecodeError → ℤ × ℤ → BudgetLeft → BudgetLeft → List ℕ → Type 0
TwoIsRead field old r new before after rest = IsReadAlone field old r new before after rest

-- ---- records
pub plain_is : (n : ℕ) (v : ℤ) → implicit_records is_zero (λ x. varint (cast_unsigned w64 x)) n v ≡ number_records n v
unfolding implicit_records
plain_is n (pos zero) = refl
plain_is n (pos (suc k)) = refl
plain_is n (negsuc k) = refl

-- those of one member, and of two
pub flat_written : (v : ℤ) → implicit_records is_zero (λ x. varint (cast_unsigned w64 x)) 1 v ++ [] ≡ number_records 1 v
flat_written v = append-nil (implicit_records is_zero (λ x. varint (cast_unsigned w64 x)) 1 v) ∙ plain_is 1 v

pub two_written : (v u : ℤ) → implicit_records is_zero (λ x. varint (cast_unsigned w64 x)) 1 v ++ (implicit_records is_zero (λ x. varint (cast_unsigned w64 x)) 2 u ++ []) ≡ number_records 1 v ++ number_records 2 u
two_written v u = (λ i. plain_is 1 v i ++ (append-nil (implicit_records is_zero (λ x. varint (cast_unsigned w64 x)) 2 u) ∙ plain_is 2 u) i)

-- ---- costs
either_free : (t : Bool) (m : BudgetLeft) → m ≡ nothing → (if t then nothing else m) ≡ nothing
either_free true m h = refl
either_free false m h = h

pub flat_free : (d : ℕ) (bs : List ℕ) → cost_of (both_charge 1 free costs_nothing) d bs ≡ nothing
flat_free d bs = cost_of_free (both_charge 1 free costs_nothing) d (λ n w bs. either_free (n == 1) nothing refl) bs

pub two_free : (d : ℕ) (bs : List ℕ) → cost_of (both_charge 1 free (both_charge 2 free costs_nothing)) d bs ≡ nothing
two_free d bs = cost_of_free (both_charge 1 free (both_charge 2 free costs_nothing)) d (λ n w bs. either_free (n == 1) (if n == 2 then nothing else nothing) (either_free (n == 2) nothing refl)) bs
