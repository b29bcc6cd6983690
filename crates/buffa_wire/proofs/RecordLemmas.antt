-- Lists of records: as fields, filtered, and compared.
use Rattle.std.proofs.Common.{◌≡◌, ℕ, zero, suc, ◌+◌, ◌<◌, ◌≤◌, Bool, true, false, true≢false, List, [], ◌∷◌, length, get_or, refl, sym, ap, ◌∙◌, arith, cond, take}
use Rattle.std.specs.List.{filter, items_where_true}
use Rattle.std.specs.List.Retain.{IsFiltered, ReturnsInTurn}
use Rattle.std.proofs.lemmas.Bool.{false_from_ne_true}
use Rattle.std.proofs.lemmas.List.{take_all}
use Rattle.buffa_wire.specs.Records.{FieldData, Records, one, no_records, records_of, list_of, Held}
use Rattle.buffa_wire.specs.Equal.{held_eq, records_eq-Decides, field_eq, field_eq-Decides}
use Rattle.buffa_wire.specs.RecordsOfValues.{CalledAtRecord, record_of, records_in}
use Rattle.buffa_wire.specs.declared.unknown_fields.UnknownField.{UnknownField}

pub list-records : (rs : List (ℕ × FieldData)) → list_of (records_of rs) ≡ rs
list-records [] = refl
list-records (r ∷ rs) = ap (λ q. r ∷ q) (list-records rs)

pub empty_records : (rs : List (ℕ × FieldData)) → records_of rs ≡ no_records → rs ≡ []
empty_records rs e = sym (list-records rs) ∙ ap list_of e

pub records-list : (rs : Records) → records_of (list_of rs) ≡ rs
records-list no_records = refl
records-list (one n d rs) = ap (λ q. one n d q) (records-list rs)

pub length-records_in : (fs : List UnknownField) → length (records_in fs) ≡ length fs
length-records_in [] = refl
length-records_in (f ∷ fs) = ap (λ n. suc n) (length-records_in fs)

step : (b : Bool) (f : UnknownField) (fs : List UnknownField) {q : List (ℕ × FieldData)} → records_in fs ≡ q → records_in (cond b (f ∷ fs) fs) ≡ cond b (record_of f ∷ q) q
step true f fs e = ap (λ l. record_of f ∷ l) e
step false f fs e = e

pub filter-records_in : (p : ℕ × FieldData → Bool) (fs : List UnknownField) → records_in (filter (λ f. p (record_of f)) fs) ≡ filter p (records_in fs)
filter-records_in p [] = refl
filter-records_in p (f ∷ fs) = step (p (record_of f)) f _ (filter-records_in p fs)

-- calls at fields are calls at their records
called_in_turn : {F : Type 0} (R : F → UnknownField → Bool → F → Type 0) (f g : F) (bs : List Bool) (xs : List UnknownField) → ReturnsInTurn R f bs xs g → ReturnsInTurn (CalledAtRecord R) f bs (records_in xs) g
called_in_turn R f g [] xs h = h
called_in_turn R f g (b ∷ bs) [] h = absurd h
called_in_turn R f g (b ∷ bs) (x ∷ xs) h = (h.0, (x, refl, h.1), called_in_turn R h.0 g bs xs h.2)

records_where_true : (bs : List Bool) (xs : List UnknownField) → records_in (items_where_true bs xs) ≡ items_where_true bs (records_in xs)
records_where_true [] xs = refl
records_where_true (b ∷ bs) [] = refl
records_where_true (true ∷ bs) (x ∷ xs) = ap (λ z. record_of x ∷ z) (records_where_true bs xs)
records_where_true (false ∷ bs) (x ∷ xs) = records_where_true bs xs

pub filtered_records : {F : Type 0} (R : F → UnknownField → Bool → F → Type 0) (f : F) (xs ys : List UnknownField) → IsFiltered R f xs ys → IsFiltered (CalledAtRecord R) f (records_in xs) (records_in ys)
filtered_records R f xs ys h = (h.0, h.1, h.2 ∙ sym (length-records_in xs), called_in_turn R f h.1 h.0 xs h.3, ap records_in h.4 ∙ records_where_true h.0 xs)

-- ---- equality, field by field
pub more_equal : (xs ys : List UnknownField) (i : ℕ) (f g d e : UnknownField) → i < length xs → i < length ys → f ≡ get_or xs i d → g ≡ get_or ys i e → record_of f ≡ record_of g
    → records_in (take i xs) ≡ records_in (take i ys) → records_in (take (i + 1) xs) ≡ records_in (take (i + 1) ys)
more_equal [] ys i f g d e h k p q r s = absurd (omega arith)
more_equal (x ∷ xs) [] i f g d e h k p q r s = absurd (omega arith)
more_equal (x ∷ xs) (y ∷ ys) zero f g d e h k p q r s = let n : record_of x ≡ record_of y = ap record_of (sym p) ∙ r ∙ ap record_of q in ap (λ z. z ∷ []) n
more_equal (x ∷ xs) (y ∷ ys) (suc i) f g d e h k p q r s =
    let j : suc i + 1 ≡ suc (i + 1) = omega arith in
    let a : record_of x ≡ record_of y = cc in
    let b : records_in (take i xs) ≡ records_in (take i ys) = cc in
    rw j (λ z. a z ∷ more_equal xs ys i f g d e (omega arith) (omega arith) p q r b z)

pub item_equal : (xs ys : List UnknownField) (i : ℕ) (d e : UnknownField) → i < length xs → i < length ys → records_in xs ≡ records_in ys → record_of (get_or xs i d) ≡ record_of (get_or ys i e)
item_equal [] ys i d e h k p = absurd (omega arith)
item_equal (x ∷ xs) [] i d e h k p = absurd (omega arith)
item_equal (x ∷ xs) (y ∷ ys) zero d e h k p = cc
item_equal (x ∷ xs) (y ∷ ys) (suc i) d e h k p = let b : records_in xs ≡ records_in ys = cc in item_equal xs ys i d e (omega arith) (omega arith) b

pub held_eq_yes : (a b : Held) → a.records ≡ b.records → held_eq a b ≡ true
held_eq_yes a b e = (records_eq-Decides (records_of a.records) (records_of b.records)).1 (ap records_of e)

pub held_eq_same : (a b : Held) → held_eq a b ≡ true → a.records ≡ b.records
held_eq_same a b e = sym (list-records a.records) ∙ ap list_of ((records_eq-Decides (records_of a.records) (records_of b.records)).0 e) ∙ list-records b.records

pub held_eq_no : (a b : Held) → (a.records ≡ b.records → ⊥) → held_eq a b ≡ false
held_eq_no a b other = false_from_ne_true (held_eq a b) (λ h. other (held_eq_same a b h))

pub not_same : (s o : Held) (xs ys : List UnknownField) (i : ℕ) (a b : UnknownField) → records_in xs ≡ s.records → records_in ys ≡ o.records → i < length xs → i < length ys
    → a ≡ get_or xs i a → b ≡ get_or ys i b → field_eq a b ≡ false → false ≡ held_eq s o
not_same s o xs ys i a b p q h k f g n =
    sym (held_eq_no s o (λ e.
    let r : record_of (get_or xs i a) ≡ record_of (get_or ys i b) = item_equal xs ys i a b h k (p ∙ e ∙ sym q) in
    let t = (field_eq-Decides a b).1 (ap record_of f ∙ r ∙ sym (ap record_of g)) in
    true≢false (sym t ∙ n)))

pub all_same : (s o : Held) (xs ys : List UnknownField) (i : ℕ) → records_in xs ≡ s.records → records_in ys ≡ o.records → length xs ≡ length ys → length xs ≤ i → records_in (take i xs) ≡ records_in (take i ys) → true ≡ held_eq s o
all_same s o xs ys i p q l h e =
    let a : take i xs ≡ xs = take_all i xs h in
    let b : take i ys ≡ ys = take_all i ys (omega arith) in
    sym (held_eq_yes s o (sym p ∙ ap records_in (sym a) ∙ e ∙ ap records_in b ∙ q))
