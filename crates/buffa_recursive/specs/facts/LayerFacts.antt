-- What is proved of the knot: more layers change nothing, so what is told of messages is what their layout says, by itself.
use Rattle.std.proofs.Common.{◌≡◌, ℕ, zero, suc, ◌<◌, refl, sym, ◌∙◌, arith}
use Rattle.buffa_bytes.specs.Readings.{skip_at, ◌>>=◌}
use Rattle.buffa_wire.specs.ByField.{cost_by, merged_by}
use Rattle.buffa_wire.specs.Takes.{Charge, Taker, answer, cost_of, front_of, merged_of}
use Rattle.std.specs.Option.{option_map}
use Rattle.buffa_recursive.specs.RecursiveSchema.{RecursiveSchema, SayAlike, whole_takes}
use Rattle.buffa_recursive.specs.Layers.{IsSound, layers}
use Rattle.buffa_recursive.specs.InnerMessages.{Semantics}

-- takers that are the same at a depth make the same of bytes there, and so do costs
pub merged_alike : {X : Type 0} (f g : Taker X) (d : ℕ) → f d ≡ g d → merged_of f d ≡ merged_of g d
unfolding merged_of
merged_alike f g d same = λ i v b. merged_by (λ v n w bs. skip_at d n w bs >>= (λ rest. answer rest (same i v n w (front_of bs rest)))) v b

pub costs_alike : (f g : Charge) (d : ℕ) → f d ≡ g d → cost_of f d ≡ cost_of g d
unfolding cost_of
costs_alike f g d same = λ i b. cost_by (same i) d b

module _ {X : Type 0} (each : ℕ) (o : RecursiveSchema X) (sound : IsSound o) where
  abbrev at : ℕ → Semantics X
  at = layers each o sound

  eachs : (n : ℕ) → (at n).each ≡ each
  eachs zero = refl
  eachs (suc n) = refl

  blanks : (n : ℕ) → (at n).blank ≡ o.into o.blank
  blanks zero = refl
  blanks (suc n) = refl

  -- ---- bytes are read by so many layers as levels, and more
  pub more_layers_merge : (n m d : ℕ) → d < n → d < m → (at n).merged d ≡ (at m).merged d
  more_layers_merge zero m d a b = absurd (omega (arith, a))
  more_layers_merge (suc n) zero d a b = absurd (omega (arith, b))
  more_layers_merge (suc n) (suc m) d a b =
      let alike = o.takes_alike (at n) (at m) d (blanks n ∙ sym (blanks m), λ e is. more_layers_merge n m e (omega (arith, a, is)) (omega (arith, b, is))) in
      merged_alike (whole_takes o (at n)) (whole_takes o (at m)) d (λ i y k w p. option_map o.into (alike i (o.out y) k w p))

  pub cost_more : (n m d : ℕ) → d < n → d < m → (at n).cost d ≡ (at m).cost d
  cost_more zero m d a b = absurd (omega (arith, a))
  cost_more (suc n) zero d a b = absurd (omega (arith, b))
  cost_more (suc n) (suc m) d a b =
      let alike = o.charge_alike (at n) (at m) d (eachs n ∙ sym (eachs m), λ e is. cost_more n m e (omega (arith, a, is)) (omega (arith, b, is)), (blanks n ∙ sym (blanks m), λ e is. more_layers_merge n m e (omega (arith, a, is)) (omega (arith, b, is)))) in
      costs_alike (o.schema (at n)).charge (o.schema (at m)).charge d alike

  -- ---- a value is written by so many layers as it is high, and more
  pub say_more : (n m : ℕ) (x : X) → o.height x < n → o.height x < m → SayAlike (at n) (at m) x
  say_more zero m x a b = absurd (omega (arith, a))
  say_more (suc n) zero x a b = absurd (omega (arith, b))
  say_more (suc n) (suc m) x a b =
      let alike = o.say_alike (at n) (at m) x (λ k low. say_more n m k (omega (arith, a, low)) (omega (arith, b, low))) in
      (alike.0, alike.1, alike.2, λ h. (h.0, h.1, alike.3 h.2))
