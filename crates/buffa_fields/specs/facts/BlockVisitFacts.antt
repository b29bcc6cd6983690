-- What is proved of the sizes that come next, where members of a block are visited one after the other.
use Rattle.std.proofs.Common.{◌≡◌, ◌∙◌, ℕ, Bool, false, true, List, [], ◌∷◌, ◌++◌, subst, sym, append_assoc}
use Rattle.buffa_fields.specs.Schema.{Choice, Comes}

-- a block has the number, or hasn't, as it answered
pub here : {A : Type 0} (B : Type 0) {mine said : Bool} → said ≡ mine → said ≡ true → A → Choice mine A B
here B is on a = rw (sym is ∙ on) a

pub not_here : (A : Type 0) {B : Type 0} {mine said : Bool} → said ≡ mine → said ≡ false → B → Choice mine A B
not_here A is off b = rw (sym is ∙ off) b

module _ {V : Type 0} (W : List ℕ → V → Type 0) where
  -- those of the first of two come
  pub first_comes : ((ss rest : List ℕ) (v : V) → W (ss ++ rest) v → Comes W ss v) → (a b : List ℕ) (v : V) → Comes W (a ++ b) v → Comes W a v
  first_comes begins [] b v h = tt
  first_comes begins (x ∷ a) b v h = begins (x ∷ a) b v h

  -- once the first was visited, those of the second do
  pub second_comes : (a b : List ℕ) (v u : V) → ((rest : List ℕ) → W (a ++ rest) v → W rest u) → Comes W (a ++ b) v → Comes W b u
  second_comes a [] v u next h = tt
  second_comes [] (y ∷ b) v u next h = next (y ∷ b) h
  second_comes (x ∷ a) (y ∷ b) v u next h = next (y ∷ b) h

  -- once both were visited, what comes behind both does
  pub both_waited : (a b : List ℕ) (v u t : V) → ((rest : List ℕ) → W (a ++ rest) v → W rest u) → ((rest : List ℕ) → W (b ++ rest) u → W rest t) → (rest : List ℕ) → W ((a ++ b) ++ rest) v → W rest t
  both_waited a b v u t first second rest h = second rest (first (b ++ rest) (subst (λ z. W z v) (append_assoc a b rest) h))
