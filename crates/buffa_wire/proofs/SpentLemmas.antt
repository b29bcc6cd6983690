-- What is left of budgets, and when memory is asked for.
use Rattle.std.proofs.Common.{◌≡◌, ◌≢◌, ◌⊎◌, inl, inr, ℕ, zero, suc, true, false, ◌+◌, ◌-◌, ◌<◌, List, [], length, Result, Ok, Err, refl, sym, ap, subst, ◌∙◌, arith}
use Rattle.std.specs.Prelude.{IsOk}
use Rattle.buffa_bytes.specs.declared.wire_type.WireType.{WireType}
use Rattle.buffa_bytes.specs.declared.wire_type.WireType.TheVariants as wire
use Rattle.buffa_bytes.specs.declared.error.DecodeError.{DecodeError}
use Rattle.buffa_wire.specs.RecordReading.{GroupRecordsTakeMemory, ListTakesMemory, PayloadTakesMemory, RecordTakesMemory, field_at}
use Rattle.buffa_wire.specs.Records.{FieldData}
use Rattle.buffa_bytes.specs.Readings.{delimited_at, tag_at}
use Rattle.buffa_bytes.specs.Unread.{IsTailOf, bytes_read}
use Rattle.buffa_bytes.proofs.TailLemmas.{tail_shorter}
use Rattle.buffa_wire.specs.BudgetLeft.{BudgetLeft, Lacks, Pays, PaysAtMost, UnknownsSpent, nothing}

-- ---- two budgets
pub same_left : (a b : BudgetLeft) → a.unknown ≡ b.unknown → a.memory ≡ b.memory → a ≡ b
same_left a b u m i = record { unknown = u i; memory = m i }

-- what pays a need leaves one budget
pub one_left : (left charge a b : BudgetLeft) → Pays left charge a → Pays left charge b → a ≡ b
one_left left charge a b (u, m) (v, n) = same_left a b (omega (arith, u, v)) (omega (arith, m, n))

pub Pays_nothing : (left over charge : BudgetLeft) → charge ≡ nothing → over ≡ left → Pays left charge over
Pays_nothing left over charge h k = rw (h, k) (omega arith, omega arith)

pub PaysAtMost_nothing : (left over charge : BudgetLeft) → over ≡ left → PaysAtMost left charge over
PaysAtMost_nothing left over charge k = rw k (omega arith, omega arith, omega arith, omega arith)

-- what was paid was there
pub not_lacked : (left charge over : BudgetLeft) → Pays left charge over → Lacks left charge → ⊥
not_lacked left charge over (u, m) (inl few) = omega (arith, u, few)
not_lacked left charge over (u, m) (inr few) = omega (arith, m, few)

-- ---- unknown fields left
pub none_spent : (n s t : ℕ) → t ≡ s → UnknownsSpent n s t
none_spent n s t e = (omega arith, omega arith)

pub one_spent : (n s mid : ℕ) → mid + 1 ≡ s → UnknownsSpent (1 + n) s mid
one_spent n s mid e = (omega arith, omega arith)

-- one of the unknown fields left for a field, and what its group spends
pub field_spent : (n s mid after : ℕ) → mid + 1 ≡ s → UnknownsSpent n mid after → UnknownsSpent (1 + n) s after
field_spent n s mid after e h = (omega (arith, h.0), omega (arith, h.1))

-- of bytes all the first are read, then a tag, then a field that spends
pub next_spent : (all old mid new : List ℕ) (s t u : ℕ) → IsTailOf old all → IsTailOf mid old → IsTailOf new mid → length mid < length old → UnknownsSpent (bytes_read all old) s t → UnknownsSpent (1 + bytes_read mid new) t u → UnknownsSpent (bytes_read all new) s u
next_spent all old mid new s t u a b c less h k = (
  omega (arith, h.0, k.0),
  omega (arith, h.1, k.1, tail_shorter all old a, tail_shorter old mid b, tail_shorter mid new c),
)

-- bytes that are read further
pub further_spent : (all old new : List ℕ) (s t : ℕ) → IsTailOf old all → IsTailOf new old → UnknownsSpent (bytes_read all old) s t → UnknownsSpent (bytes_read all new) s t
further_spent all old new s t a b h = (h.0, omega (arith, h.1, tail_shorter all old a, tail_shorter old new b))

-- ---- memory
pub is_there : {A E : Type 0} (r : Result A E) (a : A) → r ≡ Ok a → IsOk r
is_there (Ok b) a e = refl
is_there (Err f) a e = cc

some_byte : (bs : List ℕ) (r : Result (List ℕ × List ℕ) DecodeError) → delimited_at bs ≡ r → ((rest : List ℕ) → delimited_at bs ≡ Ok ([], rest) → ⊥) → IsOk r →
    (b : List ℕ) × (rest : List ℕ) × (delimited_at bs ≡ Ok (b, rest)) × (b ≢ [])
some_byte bs (Ok x) is some h = (x.0, x.1, is, λ e. some x.1 (is ∙ ap (λ z. Ok (z, x.1)) e))
some_byte bs (Err e) is some h = cc

-- bytes that were refused though they are there are some
pub takes_bytes : (bs : List ℕ) → ((rest : List ℕ) → delimited_at bs ≡ Ok ([], rest) → false ≡ true) → IsOk (delimited_at bs) →
    (b : List ℕ) × (rest : List ℕ) × (delimited_at bs ≡ Ok (b, rest)) × (b ≢ [])
takes_bytes bs free h = some_byte bs (delimited_at bs) refl (λ rest none. let k = free rest none in cc) h

-- what is said of groups matters only to groups
plain_takes : (G : ℕ → List ℕ → Type 0) (s k : ℕ) (w : WireType) (bs : List ℕ) → w ≢ wire.StartGroup → PayloadTakesMemory (λ s bs. ⊥) k w bs → PayloadTakesMemory G s w bs
plain_takes G s k wire.LengthDelimited bs o h = h
plain_takes G s k wire.StartGroup bs o h = absurd (o refl)
plain_takes G s k _ bs o h = absurd h

-- a field for which one of the unknown fields left was spent
pub takes_plain : (d s left : ℕ) (w : WireType) (bs : List ℕ) → left + 1 ≡ s → w ≢ wire.StartGroup → PayloadTakesMemory (λ s bs. ⊥) 0 w bs → RecordTakesMemory d s w bs
takes_plain d s left w bs e o h = (omega arith, plain_takes (GroupRecordsTakeMemory d) (s - 1) 0 w bs o h)

pub takes_group : (d s left : ℕ) (w : WireType) (bs : List ℕ) → left + 1 ≡ s → w ≡ wire.StartGroup → GroupRecordsTakeMemory d left bs → RecordTakesMemory d s w bs
takes_group d s left w bs e o h =
    let k : left ≡ s - 1 = omega arith in
    (omega arith, rw o (subst (λ z. GroupRecordsTakeMemory d z bs) k h))

-- nothing of all was read and none of the unknown fields left was spent, or all takes memory
abbrev pub IsBegun : ℕ → ℕ → List ℕ → ℕ → List ℕ → Type 0
IsBegun d s all left now = ((now ≡ all) × (left ≡ s)) ⊎ ListTakesMemory d s all

module _ (d s left : ℕ) (all now : List ℕ) (begun : IsBegun d s all left now) (t : ℕ × WireType × List ℕ) (tag : tag_at now ≡ Ok t) where
  begins : IsBegun d s all left now → IsOk (field_at d left t.0 t.1 t.2) ⊎ RecordTakesMemory d left t.1 t.2 → ListTakesMemory d s all
  begins (inl (e, f)) h = (t, sym (ap tag_at e) ∙ tag, subst (λ z. IsOk (field_at d z t.0 t.1 t.2) ⊎ RecordTakesMemory d z t.1 t.2) f h)
  begins (inr k) h = k

  pub begins_taking : RecordTakesMemory d left t.1 t.2 → ListTakesMemory d s all
  begins_taking h = begins begun (inr h)

  pub begins_reading : (x : FieldData × ℕ × List ℕ) → field_at d left t.0 t.1 t.2 ≡ Ok x → ListTakesMemory d s all
  begins_reading x h = begins begun (inl (is_there (field_at d left t.0 t.1 t.2) x h))

-- the fields of a group
pub takes_inside : (d s : ℕ) (bs : List ℕ) → d ≢ 0 → ListTakesMemory (d - 1) s bs → GroupRecordsTakeMemory d s bs
unfolding GroupRecordsTakeMemory
takes_inside zero s bs o h = absurd (o refl)
takes_inside (suc d) s bs o h = let k : suc d - 1 ≡ d = omega arith in subst (λ z. ListTakesMemory z s bs) k h
