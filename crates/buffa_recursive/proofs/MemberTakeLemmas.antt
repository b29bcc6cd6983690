-- What is proved of the calls that take a field into a member that holds messages of the message's own type.
use Rattle.std.proofs.Common.{◌+◌, ◌≡◌, ℕ, List, Option, Result, Err, sym, ap, subst}
use Rattle.buffa_bytes.specs.Readings.{check_wire, FullOnlyIf}
use Rattle.buffa_bytes.specs.declared.error.DecodeError.{DecodeError}
use Rattle.buffa_bytes.specs.declared.wire_type.WireType.{WireType}
use Rattle.buffa_bytes.specs.declared.wire_type.WireType.TheVariants.{LengthDelimited}
use Rattle.buffa_wire.specs.BudgetLeft.{BudgetLeft}
use Rattle.buffa_wire.specs.Takes.{IsTaken}
use Rattle.buffa_fields.specs.Schema.{Took, AsksAsSaid, RefusesAsSaid, TakesAsSaid, TellsWrongType}
use Rattle.buffa_fields.specs.Submessages.{message_merged, taken_there}
use Rattle.buffa_fields.specs.Refusals.{RefusesBoxed, RefusesPair}
use Rattle.buffa_fields.specs.RepeatedMessages.{MessagesTakeMemory, messages_cost, messages_taken}
use Rattle.buffa_recursive.specs.facts.TakenByAnotherFacts.{is_taken_through}
use Rattle.std.specs.BTreeMap.{insert_entry}
use Rattle.buffa_map.specs.Message.{message_reading}
use Rattle.buffa_recursive.specs.MapKeys.{Keys}
use Rattle.buffa_fields.specs.MapFields.{PairTakesMemory, pair_cost, pair_taken}
use Rattle.buffa_recursive.specs.MapShape.{pairs_shape}
use Rattle.buffa_recursive.specs.RecursiveSchema.{RecursiveSchema, children_shape, map_shape, maybe_shape}
use Rattle.buffa_recursive.specs.InnerMessages.{Semantics, list_shape, child_shape}

module _ {X : Type 0} (o : RecursiveSchema X) (w : Semantics X) (d n : ℕ) (wire : WireType) (bs rest : List ℕ) (before after : BudgetLeft) (r : Result (Unit {0}) DecodeError) where
  -- another wire type is refused
  abbrev Checked : {A : Type 0} → A → A → Type 0
  Checked old new = (e : DecodeError) → check_wire n LengthDelimited wire ≡ Err e → (r ≡ Err e) × (old ≡ new) × (bs ≡ rest)

  pub list_took : (old new : List X) (each : ℕ) → w.each ≡ each → IsTaken (messages_taken w.blank w.merged) (messages_cost each w.cost) d old n wire bs before r new after rest →
      FullOnlyIf r (MessagesTakeMemory d n wire bs) → Checked old new → ((e : DecodeError) → r ≡ Err e → old ≡ new) →
      Took (children_shape o w) d (o.of_list old) n wire bs before r (o.of_list new) after rest
  unfolding AsksAsSaid RefusesAsSaid TakesAsSaid TellsWrongType message_merged messages_cost
  list_took old new each is taken full checked refused = (
    is_taken_through o.of_list o.children_list (list_shape w).takes (list_shape w).charge d n wire (o.of_list old) (o.of_list new) bs rest before after r (ap o.of_list (o.list_again new))
        (subst (λ xs. IsTaken (list_shape w).takes (list_shape w).charge d xs n wire bs before r (o.children_list (o.of_list new)) after rest) (sym (o.list_again old))
        (subst (λ xs. IsTaken (list_shape w).takes (list_shape w).charge d old n wire bs before r xs after rest) (sym (o.list_again new))
        (subst (λ k. IsTaken (messages_taken w.blank w.merged) (messages_cost k w.cost) d old n wire bs before r new after rest) (sym is) taken))),
    full,
    λ e semantics. let k = checked e semantics in (k.0, ap o.of_list k.1, k.2),
    λ e bad. ap (λ xs. o.children_list (o.of_list xs)) (refused e bad),
  )

  pub one_took : (old new : Option X) (each : ℕ) → w.each ≡ each → IsTaken (taken_there w.blank (message_merged w.merged)) (messages_cost each w.cost) d old n wire bs before r new after rest →
      FullOnlyIf r (MessagesTakeMemory d n wire bs) → Checked old new → ((e : DecodeError) → r ≡ Err e → RefusesBoxed each w.blank w.merged w.cost d old n wire bs before e new) →
      Took (maybe_shape o w) d (o.of_option old) n wire bs before r (o.of_option new) after rest
  unfolding AsksAsSaid RefusesAsSaid TakesAsSaid TellsWrongType message_merged messages_cost
  one_took old new each is taken full checked refused = (
    is_taken_through o.of_option o.option_of (child_shape w).takes (child_shape w).charge d n wire (o.of_option old) (o.of_option new) bs rest before after r (ap o.of_option (o.option_again new))
        (subst (λ x. IsTaken (child_shape w).takes (child_shape w).charge d x n wire bs before r (o.option_of (o.of_option new)) after rest) (sym (o.option_again old))
        (subst (λ x. IsTaken (child_shape w).takes (child_shape w).charge d old n wire bs before r x after rest) (sym (o.option_again new))
        (subst (λ k. IsTaken (taken_there w.blank (message_merged w.merged)) (messages_cost k w.cost) d old n wire bs before r new after rest) (sym is) taken))),
    full,
    λ e semantics. let k = checked e semantics in (k.0, ap o.of_option k.1, k.2),
    λ e bad.
        subst (λ x. RefusesBoxed w.each w.blank w.merged w.cost d x n wire bs before e (o.option_of (o.of_option new))) (sym (o.option_again old))
        (subst (λ x. RefusesBoxed w.each w.blank w.merged w.cost d old n wire bs before e x) (sym (o.option_again new))
        (subst (λ k. RefusesBoxed k w.blank w.merged w.cost d old n wire bs before e new) (sym is) (refused e bad))),
  )

  module _ {K : Type 0} (keys : Keys K) where
    -- what is said of an entry that was taken
    abbrev TookPair : X → ℕ → List (K × X) → List (K × X) → Type 0
    TookPair blank each old new =
        let val = message_reading blank w.merged w.cost in
        IsTaken (pair_taken keys.reading val (insert_entry keys.order)) (pair_cost keys.reading val (keys.cost + each)) d old n wire bs before r new after rest
        × FullOnlyIf r (PairTakesMemory keys.reading val d n wire bs) × Checked old new
        × ((e : DecodeError) → r ≡ Err e → RefusesPair keys.reading val (keys.cost + each) d old n wire bs before e new)

    by_words : (old new : List (K × X)) → TookPair w.blank w.each old new → Took (map_shape o keys w) d (o.of_pairs old) n wire bs before r (o.of_pairs new) after rest
    unfolding AsksAsSaid RefusesAsSaid TakesAsSaid TellsWrongType
    by_words old new (taken, full, checked, refused) =
        let s = pairs_shape keys w in (
          is_taken_through (λ qs. o.of_pairs qs) (λ a. o.pairs_from a) s.takes s.charge d n wire (o.of_pairs old) (o.of_pairs new) bs rest before after r (ap (λ qs. o.of_pairs qs) (o.pairs_again new))
              (subst (λ x. IsTaken s.takes s.charge d x n wire bs before r (o.pairs_from (o.of_pairs new)) after rest) (sym (o.pairs_again old))
              (subst (λ x. IsTaken s.takes s.charge d old n wire bs before r x after rest) (sym (o.pairs_again new)) taken)),
          full,
          λ e semantics. let k = checked e semantics in (k.0, ap (λ qs. o.of_pairs qs) k.1, k.2),
          λ e bad.
              subst (λ x. s.refuses d x n wire bs before e (o.pairs_from (o.of_pairs new))) (sym (o.pairs_again old))
              (subst (λ x. s.refuses d old n wire bs before e x) (sym (o.pairs_again new)) (refused e bad)),
        )

    pub pairs_took : (blank : X) (each : ℕ) → blank ≡ w.blank → each ≡ w.each → (old new : List (K × X)) → TookPair blank each old new → Took (map_shape o keys w) d (o.of_pairs old) n wire bs before r (o.of_pairs new) after rest
    pairs_took blank each fresh costs old new took = by_words old new (subst (λ b. TookPair b w.each old new) fresh (subst (λ k. TookPair blank k old new) costs took))
