-- What is proved of the levels of messages that hold themselves: they are exact, where those of their other members are.
use Rattle.std.proofs.Common.{◌≡◌, ℕ, zero, suc, ◌+◌, ◌<◌, ◌≤◌, Option, Some, None, refl, subst, ◌∙◌, arith}
use Rattle.std.specs.List.{AllByRecursion}
use Rattle.buffa_wire.specs.Encoding.{records_encoding}
use Rattle.buffa_wire.specs.Parse.{Fits}
use Rattle.buffa_wire.specs.ReadableFacts.{readable}
use Rattle.buffa_wire.specs.Records.{records_of}
use Rattle.buffa_fields.specs.Schema.{Schema}
use Rattle.buffa_fields.specs.facts.LevelFacts.{back_holds, front_holds}
use Rattle.buffa_fields.specs.Levels.{IsTakenWritten}
use Rattle.buffa_recursive.specs.facts.WrittenAreTakenFacts.{height_low, of_any_number, taken_written}
use Rattle.buffa_recursive.specs.facts.TakenByAnotherFacts.{written_through}
use Rattle.buffa_recursive.specs.RecursiveSchema.{RecursiveSchema, whole_takes}
use Rattle.buffa_recursive.specs.Layers.{IsSound, layer, layers}
use Rattle.buffa_recursive.specs.facts.LayerFacts.{more_layers_merge, say_more}
use Rattle.buffa_recursive.specs.Fixpoint.{semantics}
use Rattle.buffa_recursive.specs.InnerMessages.{AreExactBy, Semantics}

module _ {X : Type 0} (each : ℕ) (o : RecursiveSchema X) (sound : IsSound o) (exact : o.Exact) where
  -- a layer more
  module _ (w : Semantics X) (below : AreExactBy w) where
    abbrev up : Semantics X
    up = layer each o sound w

    abbrev l : Schema X o.Y
    l = o.schema w

    low : (d : ℕ) (old u x : X) → Fits (records_of (up.records x)) → up.normal x → up.merged d old (records_encoding (up.records x)) ≡ Some u → up.levels x ≤ d
    low d old u x fits normal is =
        let y = o.out x in
        let Taken = IsTakenWritten l.takes d in
        let read = readable (records_of (up.records x)) (up.valid x normal) fits in
        let all = written_through o.into o.out l.takes d (l.records y) (taken_written (whole_takes o w) d (up.records x) old u read is) in
        let two = subst (λ rs. AllByRecursion Taken rs) (l.in_two y) all in
        let kept = back_holds Taken (l.own y) (l.kept y) two in
        l.least (o.owes w normal.0) (o.exact w exact below) (sound w) d y normal.2 (height_low l.takes d (l.kept y) kept) (front_holds Taken (l.own y) (l.kept y) two) (of_any_number l.takes d l.declares (l.kept y) kept)

    by_answer : (d : ℕ) (old x : X) → Fits (records_of (up.records x)) → up.normal x → d < up.levels x → (r : Option X) → up.merged d old (records_encoding (up.records x)) ≡ r → r ≡ None
    by_answer d old x fits normal less None is = refl
    by_answer d old x fits normal less (Some u) is = absurd (omega (arith, less, low d old u x fits normal is))

    exact_layer : AreExactBy up
    exact_layer d old x fits normal less = by_answer d old x fits normal less (up.merged d old (records_encoding (up.records x))) refl

  exact_layers : (n : ℕ) → AreExactBy (layers each o sound n)
  exact_layers zero = λ d old x fits normal less. absurd normal
  exact_layers (suc n) = exact_layer (layers each o sound n) (exact_layers n)

  -- all layers
  pub semantics_exact : AreExactBy (semantics each o sound)
  unfolding semantics
  semantics_exact d old x fits normal less =
      let n = suc (d + o.height x) in
      let all = layers each o sound n in
      let same = say_more each o sound (suc (o.height x)) n x (omega arith) (omega arith) in
      let none = exact_layers n d old x (subst (λ rs. Fits (records_of rs)) same.0 fits) (same.3 normal) (subst (λ k. d < k) same.2 less) in
      (λ i. more_layers_merge each o sound (suc d) n d (omega arith) (omega arith) i old (records_encoding (same.0 i))) ∙ none
