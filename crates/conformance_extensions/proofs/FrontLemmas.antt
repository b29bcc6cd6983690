-- Lists that are gone over from their front: what holds of those behind a place holds of those from it on.
use Rattle.std.proofs.Common.{◌≡◌, ℕ, ◌+◌, ◌<◌, ◌≤◌, List, ◌∷◌, length, get_or, drop, map, sym, ap, subst, ◌∙◌, arith}
use Rattle.std.specs.List.{AllByRecursion}
use Rattle.std.proofs.lemmas.List.{drop_all, drop_more}
use Rattle.buffa_wire.specs.BudgetLeft.{BudgetLeft, Pays}
use Rattle.buffa_bytes.specs.Number.{IsNumber}
use Rattle.buffa_wire.specs.Parse.{FitsFieldData, IsValidFieldData}
use Rattle.buffa_wire.specs.Records.{FieldData, field_data_height}
use Rattle.buffa_wire.specs.RecordsOfValues.{field_data_of, records_in}
use Rattle.buffa_wire.specs.declared.unknown_fields.UnknownField.{UnknownField}
use Rattle.buffa_codec.specs.Decoded.{CoversAll}
use Rattle.buffa_codec.specs.CodecFacts.{left_over}
use Rattle.buffa_ext.specs.MessageFacts.{pays_covers}
use Rattle.conformance_extensions.specs.Normal.{AreWritten}

-- those from a place on are the one there and those behind it
from_place : {X : Type 0} (xs : List X) (i : ℕ) (x : X) → i < length xs → x ≡ get_or xs i x → x ∷ drop (i + 1) xs ≡ drop i xs
from_place xs i x lt e = ap (λ y. y ∷ drop (i + 1) xs) e ∙ sym (drop_more xs i x lt)

pub written_from : (levels : ℕ) (xs : List UnknownField) (i : ℕ) (x : UnknownField) → i < length xs → x ≡ get_or xs i x
    → IsNumber x.number → IsValidFieldData (field_data_of x.payload) × FitsFieldData (field_data_of x.payload) × (field_data_height (field_data_of x.payload) ≤ levels)
    → AreWritten levels (records_in (drop (i + 1) xs)) → AreWritten levels (records_in (drop i xs))
written_from levels xs i x lt e number payload rest =
    subst (λ l. AreWritten levels (records_in l)) (from_place xs i x lt e) ((number, payload.0, rest.0), (payload.1, rest.1), omega (arith, payload.2, rest.2))

-- behind the last place there are none
pub written_none : (levels : ℕ) (xs : List UnknownField) (i : ℕ) → length xs ≤ i → AreWritten levels (records_in (drop i xs))
written_none levels xs i over = subst (λ l. AreWritten levels (records_in l)) (sym (drop_all i xs over)) (tt, tt, omega arith)

pub each_none : {V M : Type 0} (P : M → Type 0) (meaning : V → M) (xs : List V) (i : ℕ) → length xs ≤ i → AllByRecursion P (map meaning (drop i xs))
each_none P meaning xs i over = subst (λ l. AllByRecursion P (map meaning l)) (sym (drop_all i xs over)) tt

pub covers_none : {V M : Type 0} (cost : FieldData → BudgetLeft) (text : M → FieldData) (meaning : V → M) (b : BudgetLeft) (xs : List V) (i : ℕ) → length xs ≤ i
    → CoversAll cost b (map text (map meaning (drop i xs)))
covers_none cost text meaning b xs i over = subst (λ l. CoversAll cost b (map text (map meaning l))) (sym (drop_all i xs over)) tt

module _ {V M : Type 0} (meaning : V → M) (xs : List V) (i : ℕ) (x : V) (lt : i < length xs) (e : x ≡ get_or xs i x) where
  pub each_from : (P : M → Type 0) → P (meaning x) → AllByRecursion P (map meaning (drop (i + 1) xs)) → AllByRecursion P (map meaning (drop i xs))
  each_from P p rest = subst (λ l. AllByRecursion P (map meaning l)) (from_place xs i x lt e) (p, rest)

  pub covers_from : (cost : FieldData → BudgetLeft) (text : M → FieldData) (b left : BudgetLeft) → Pays b (cost (text (meaning x))) left
      → CoversAll cost left (map text (map meaning (drop (i + 1) xs))) → CoversAll cost b (map text (map meaning (drop i xs)))
  covers_from cost text b left paid rest =
      let charge = cost (text (meaning x)) in
      subst (λ l. CoversAll cost b (map text (map meaning l))) (from_place xs i x lt e)
      (pays_covers b charge left paid, subst (λ z. CoversAll cost z (map text (map meaning (drop (i + 1) xs)))) (left_over b charge left paid) rest)
