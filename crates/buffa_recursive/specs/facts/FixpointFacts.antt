-- What is proved of the words of a type of messages that hold themselves: they are what its members say, by these words.
use Rattle.std.proofs.Common.{◌≡◌, ℕ, zero, suc, List, refl, arith}
use Rattle.std.specs.Option.{option_map}
use Rattle.buffa_wire.specs.Takes.{cost_of, merged_of}
use Rattle.buffa_recursive.specs.RecursiveSchema.{SchemasAlike, RecursiveSchema, whole_takes}
use Rattle.buffa_recursive.specs.Layers.{IsNormalRecursive, IsSound, layers}
use Rattle.buffa_recursive.specs.facts.LayerFacts.{cost_more, costs_alike, merged_alike, more_layers_merge, say_more}
use Rattle.buffa_recursive.specs.Fixpoint.{semantics, message_schema}
use Rattle.buffa_recursive.specs.InnerMessages.{Semantics}

module _ {X : Type 0} (each : ℕ) (o : RecursiveSchema X) (sound : IsSound o) where
  abbrev words : Semantics X
  words = semantics each o sound

  abbrev at : ℕ → Semantics X
  at = layers each o sound

  -- so many layers say of a level below what all do
  pub merged_is : (d : ℕ) → words.merged d ≡ merged_of (whole_takes o words) d
  unfolding semantics
  merged_is d =
      let alike = o.takes_alike (at d) words d (blanks d, λ e is. more_layers_merge each o sound d (suc e) e (omega (arith, is)) (omega arith)) in
      merged_alike (whole_takes o (at d)) (whole_takes o words) d (λ i y k w p. option_map o.into (alike i (o.out y) k w p))
    where
      blanks : (n : ℕ) → (at n).blank ≡ o.into o.blank
      blanks zero = refl
      blanks (suc n) = refl

  pub cost_is : (d : ℕ) → words.cost d ≡ cost_of (message_schema each o sound).charge d
  unfolding semantics
  cost_is d =
      let alike = o.charge_alike (at d) words d (eachs d, λ e is. cost_more each o sound d (suc e) e (omega (arith, is)) (omega arith), (blanks d, λ e is. more_layers_merge each o sound d (suc e) e (omega (arith, is)) (omega arith))) in
      costs_alike (o.schema (at d)).charge (o.schema words).charge d alike
    where
      eachs : (n : ℕ) → (at n).each ≡ each
      eachs zero = refl
      eachs (suc n) = refl

      blanks : (n : ℕ) → (at n).blank ≡ o.into o.blank
      blanks zero = refl
      blanks (suc n) = refl

  pub merged_by_is : (d : ℕ) (v : X) (b : List ℕ) → words.merged d v b ≡ merged_of (whole_takes o words) d v b
  merged_by_is d v b = λ i. merged_is d i v b

  pub cost_by_is : (d : ℕ) (b : List ℕ) → words.cost d b ≡ cost_of (message_schema each o sound).charge d b
  cost_by_is d b = λ i. cost_is d i b

  -- and of the values inside one what all do
  pub semantics_says : (x : X) → SchemasAlike (o.schema (at (o.height x))) (o.schema words) (o.out x)
  unfolding semantics
  semantics_says x = o.say_alike (at (o.height x)) words x (λ k low. say_more each o sound (o.height x) (suc (o.height k)) k low (omega arith))

  pub says_back : (x : X) → SchemasAlike (o.schema words) (o.schema (at (o.height x))) (o.out x)
  unfolding semantics
  says_back x = o.say_alike words (at (o.height x)) x (λ k low. say_more each o sound (suc (o.height k)) (o.height x) k (omega arith) low)

  -- ---- what a type has of them
  pub each_is : words.each ≡ each
  unfolding semantics
  each_is = refl

  pub blank_is : words.blank ≡ o.into o.blank
  unfolding semantics
  blank_is = refl

  pub records_are : (x : X) → words.records x ≡ (o.schema words).records (o.out x)
  unfolding semantics
  records_are x = (semantics_says x).0

  pub slots_are : (x : X) → words.slots x ≡ (o.schema words).slots (o.out x)
  unfolding semantics
  slots_are x = (semantics_says x).1

  pub levels_are : (x : X) → words.levels x ≡ (o.schema words).levels (o.out x)
  unfolding semantics
  levels_are x = (semantics_says x).2

  pub normal_is : (x : X) → words.normal x → IsNormalRecursive each o words x
  unfolding semantics
  normal_is x h = (h.0, h.1, (semantics_says x).3 h.2)

  pub is_normal : (x : X) → IsNormalRecursive each o words x → words.normal x
  unfolding semantics
  is_normal x h = (h.0, h.1, (says_back x).3 h.2)
