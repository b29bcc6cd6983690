-- What the laws of codecs rest on: what reading spends, and that what was written is read back.
use Rattle.std.specs.Prelude.{◌≡◌, ℕ, ◌-◌, List, [], ◌∷◌, ◌++◌, map, Option, Some, None, refl, true}
use Rattle.std.specs.List.{AllByRecursion}
use Rattle.std.proofs.Math.Nat.{sub-zero}
use Rattle.std.proofs.Common.{sym, ◌∙◌, ap, subst, arith}
use Rattle.buffa_wire.specs.Records.{FieldData, bytes}
use Rattle.std.proofs.lemmas.List.{append-nil}
use Rattle.std.specs.Str.{is_utf8}
use Rattle.buffa_wire.specs.BudgetLeft.{BudgetLeft, Covers, Pays, defaults, minus, nothing}
use Rattle.buffa_codec.specs.Decoded.{ReadsAll, CoversAll, elements, last_read, packed_record, string_held}
use Rattle.buffa_wire.specs.Encoding.{encodings}
use Rattle.buffa_wire.proofs.SpentLemmas.{Pays_nothing}

pub minus_nothing : (b : BudgetLeft) → b ≡ minus b nothing
minus_nothing b = simp sub-zero

-- what is left is what was there less the need
pub left_over : (b charge left : BudgetLeft) → Pays b charge left → left ≡ minus b charge
left_over b charge left h =
    let unknown : b.unknown - charge.unknown ≡ left.unknown = omega (arith, h.0) in
    let units : b.memory - charge.memory ≡ left.memory = omega (arith, h.1) in
    rw (unknown, units) refl

-- reading that spends nothing
pub pays_nothing : (b left : BudgetLeft) → left ≡ b → Pays b nothing left
pays_nothing b left e = Pays_nothing b left nothing refl e

pub covers_nothing : (b : BudgetLeft) → Covers b nothing
covers_nothing b = (omega arith, omega arith)

pub last_of_one : {M : Type 0} (one : FieldData → Option M) (d : FieldData) (v : M) (o : Option M) → one d ≡ Some v → o ≡ last_read one (d ∷ []) → o ≡ Some v
last_of_one one d v o e h = h ∙ rw e refl

abbrev pub some_of : {M : Type 0} → M → Option M
some_of v = Some v

pub covers_same : (b left : BudgetLeft) → left ≡ b → Covers b left
covers_same b left e = rw e (omega arith, omega arith)

pub string_back : (v : List ℕ) → is_utf8 v ≡ true → string_held (bytes v) ≡ Some v
string_back v h = rw h refl

-- ---- lists

module _ {M : Type 0} (fits normal : M → Type 0) (cost : FieldData → BudgetLeft) (one : BudgetLeft → FieldData → Option M) (leaves : BudgetLeft → FieldData → BudgetLeft → Type 0) (packed : List ℕ → List M) (encoding : M → FieldData) (back : M → M)
    (reads : (v : M) (b : BudgetLeft) → fits v → normal v → Covers b (cost (encoding v)) → one b (encoding v) ≡ Some (back v))
    (spends : (b left : BudgetLeft) (d : FieldData) (v : M) → one b d ≡ Some v → leaves b d left → Pays b (cost d) left) where
  pub list_back : (b : BudgetLeft) (vs out : List M) (left : BudgetLeft) → AllByRecursion fits vs → AllByRecursion normal vs → CoversAll cost b (map encoding vs) → ReadsAll one leaves packed b (map encoding vs) out left → out ≡ map back vs
  list_back b [] out left f n k h = h.0
  list_back b (v ∷ vs) out left f n k h =
      h.4 ∙ ap (λ o. elements packed (encoding v) o ++ h.1) (reads v b f.0 n.0 k.0)
      ∙ ap (λ l. back v ∷ l) (list_back h.0 vs h.1 left f.1 n.1
      (subst (λ m. CoversAll cost m (map encoding vs)) (sym (left_over b (cost (encoding v)) h.0 (spends b h.0 (encoding v) (back v) (reads v b f.0 n.0 k.0) h.2))) k.1) h.3)

module _ {M : Type 0} (fits : M → Type 0) (one : BudgetLeft → FieldData → Option M) (leaves : BudgetLeft → FieldData → BudgetLeft → Type 0) (packed : List ℕ → List M) (encoding : M → List ℕ) (back : M → M)
    (unpacks : (v : M) (rest : List ℕ) → fits v → packed (encoding v ++ rest) ≡ back v ∷ packed rest)
    (unpacks_none : packed [] ≡ [])
    (unread : (b : BudgetLeft) (bs : List ℕ) → one b (bytes bs) ≡ None) where
  pub unpacks_all : (vs : List M) → AllByRecursion fits vs → packed (encodings encoding vs) ≡ map back vs
  unpacks_all [] f = unpacks_none
  unpacks_all (v ∷ vs) f = unpacks v (encodings encoding vs) f.0 ∙ ap (λ l. back v ∷ l) (unpacks_all vs f.1)

  pub packed_back : (vs out : List M) (left : BudgetLeft) → AllByRecursion fits vs → ReadsAll one leaves packed defaults (packed_record encoding vs) out left → out ≡ map back vs
  packed_back [] out left f h = h.0
  packed_back (v ∷ vs) out left f h =
      h.4 ∙ ap (λ o. elements packed (bytes (encodings encoding (v ∷ vs))) o ++ h.1) (unread defaults (encodings encoding (v ∷ vs)))
      ∙ ap (λ l. l ++ h.1) (unpacks_all (v ∷ vs) f) ∙ ap (λ l. map back (v ∷ vs) ++ l) (h.3.0) ∙ append-nil (map back (v ∷ vs))
