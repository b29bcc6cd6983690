-- What is proved of what comes next for a member that is visited.
use Rattle.std.proofs.Common.{ℕ, List, [], ◌∷◌}
use Rattle.buffa_fields.specs.Schema.{Comes}

-- ---- what comes for one comes for another, where what it waits for is what the other does
pub comes_to : {V U : Type 0} (waits : List ℕ → V → Type 0) (does : List ℕ → U → Type 0) (v : V) (u : U) → ((ss : List ℕ) → waits ss v → does ss u) → (ss : List ℕ) → Comes waits ss v → Comes does ss u
comes_to waits does v u turn [] h = tt
comes_to waits does v u turn (s ∷ ss) h = turn (s ∷ ss) h

-- what waits comes
pub comes_all : {V : Type 0} (waits : List ℕ → V → Type 0) (ss : List ℕ) (v : V) → waits ss v → Comes waits ss v
comes_all waits [] v h = tt
comes_all waits (s ∷ ss) v h = h
