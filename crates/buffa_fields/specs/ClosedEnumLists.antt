-- Lists of closed enums whose undeclared numbers are put aside. A field's varints are read as those of any list, packed or not; the
-- declared numbers go behind the elements, in order, and each other varint, as it was read, is a record of its own behind those that
-- the message keeps, in order. Source: the protobuf language guide, "Enumerations"; the protobuf encoding guide, "Packed Repeated
-- Fields".
use Rattle.std.specs.Prelude.{◌≡◌, ◌≢◌, ◌⊎◌, ℕ, ℤ, ◌<◌, Bool, List, [], ◌++◌, length, map, not, MatchResult, Result}
use Rattle.std.specs.List.{filter}
use Rattle.std.specs.Option.{option_map}
use Rattle.buffa_bytes.specs.declared.error.DecodeError.{DecodeError}
use Rattle.buffa_bytes.specs.declared.error.DecodeError.TheVariants.{OutOfMemory, UnknownFieldLimitExceeded}
use Rattle.buffa_bytes.specs.declared.tag.Tag.{Tag}
use Rattle.buffa_bytes.specs.declared.wire_type.WireType.TheVariants.{Varint}
use Rattle.buffa_bytes.specs.Values.{int32_of}
use Rattle.buffa_fields.specs.ContextAfter.{ContextAfter}
use Rattle.buffa_map.specs.Codec.{Reading}
use Rattle.buffa_map.specs.Scalars.{number_reading}
use Rattle.buffa_wire.specs.BudgetLeft.{BudgetLeft, Pays, budget_left, charge_by, unknown_fields}
use Rattle.buffa_wire.specs.Message.{FieldRefused}
use Rattle.buffa_wire.specs.Enums.{Numbers}
use Rattle.buffa_wire.specs.Records.{varint}
use Rattle.buffa_wire.specs.Takes.{IsTaken, Charge, Taker, framed}
use Rattle.buffa_wire.specs.declared.context.DecodeContext.{DecodeContext}
use Rattle.buffa_fields.specs.UnknownsOfMembers.{Kept}
use Rattle.buffa_fields.specs.Lists.{elements_taken}
use Rattle.buffa_fields.specs.Refusals.{RefusesElements}
use denote.Ref.{Bor}

-- varints as they are read: numbers of 64 bits
abbrev pub varints : Reading ℕ
varints = number_reading Varint 0 (λ k. k)

module _ (e : Numbers) where
  -- the low 32 bits of a varint are no declared number
  abbrev pub is_undeclared : ℕ → Bool
  is_undeclared k = not (e.declares (int32_of k))

  -- of varints the declared numbers, and a record of each other
  abbrev pub declared_of : List ℕ → List ℤ
  declared_of ks = filter e.declares (map int32_of ks)

  abbrev pub undeclared_of : ℕ → List ℕ → Kept
  undeclared_of n ks = map (λ k. (n, varint k)) (filter is_undeclared ks)

  -- where numbers are put so, a value and the records beside it, after these varints
  abbrev pub numbers_put : {X : Type 0} → (X → List ℤ → X) → ℕ → X × Kept → List ℕ → X × Kept
  numbers_put puts n x ks = (puts x.0 (declared_of ks), x.1 ++ undeclared_of n ks)

  -- an unknown field for each undeclared one
  abbrev pub numbers_cost : ℕ → List ℕ → BudgetLeft
  numbers_cost n ks = unknown_fields (length (undeclared_of n ks))

  module _ (reads : Taker (List ℕ)) where
    -- each payload, where its varints are read so; a malformed one costs nothing
    abbrev pub sifted : {X : Type 0} → (X → List ℤ → X) → Taker (X × Kept)
    sifted puts d x n w p = option_map (numbers_put puts n x) (reads d [] n w p)

    abbrev pub sifted_cost : Charge
    sifted_cost d n w bs = charge_by (framed reads d [] n w bs) (λ x. numbers_cost n x.0)

  -- `repeated Shade list = 5;`
  unfoldable pub kept_numbers_taken : Taker (List ℤ × Kept)
  kept_numbers_taken = sifted (elements_taken varints) (λ vs us. vs ++ us)

  unfoldable pub kept_numbers_cost : Charge
  kept_numbers_cost = sifted_cost (elements_taken varints)

  -- What is told of a refused field: the list stays. Unless memory ran out, the fault of the field as one of varints, or that more of
  -- them are undeclared than unknown fields are left.
  abbrev pub RefusesKeptNumbers : FieldRefused (List ℤ)
  RefusesKeptNumbers d old n w bs left f new =
      (old ≡ new)
      × (f ≢ OutOfMemory → ((ks : List ℕ) × RefusesElements varints d [] n w bs f ks) ⊎ ((f ≡ UnknownFieldLimitExceeded) × (left.unknown < (kept_numbers_cost d n w bs).unknown)))

  -- ---- a call that put varints so, and spent as much; or memory ran out, or more are undeclared than unknown fields were left
  abbrev pub PutsNumbers : {X T : Type 0} → (X → List ℤ → X) → ℕ → List ℕ → X × Kept → BudgetLeft → Result T DecodeError → X × Kept → BudgetLeft → Type 0
  PutsNumbers puts n ks old before r new after =
      MatchResult r
      (λ _. (new ≡ numbers_put puts n old ks) × Pays before (numbers_cost n ks) after)
      (λ f. ((f ≡ OutOfMemory) × (ks ≢ [])) ⊎ ((f ≡ UnknownFieldLimitExceeded) × (before.unknown < (numbers_cost n ks).unknown)))

-- a call that took the field whose tag was read: declared numbers went behind the list, the others behind these records
abbrev pub TakesKeptNumbers : {A D T : Type 0} → Numbers → Tag → DecodeContext → ContextAfter D → List A → Kept → List A → Kept → Bor (List ℕ) → Bor (List ℕ) → Result T DecodeError → (A → ℤ) → Type 0
TakesKeptNumbers e tag ctx left old kept new keeps before after r says =
    IsTaken (kept_numbers_taken e) (kept_numbers_cost e) ctx.depth (map says old, kept) tag.number tag.wire_type before.now ctx.budget.now r (map says new, keeps) (budget_left left) after.now
