-- What a buffer of the crate `bytes` shows and keeps.
use Rattle.std.specs.Prelude.{◌≡◌, ℕ, List, map}

-- what a buffer of `bytes` keeps, as what ours do: for each layer a count, and bytes
abbrev pub kept_beyond : List (List ℕ × ℕ) → List (ℕ × List ℕ)
kept_beyond kept = map (λ k. (k.1, k.0)) kept

-- a buffer shows and keeps what the one within it does
pub record ShowsInner {A B : Type 0} (unread : A → List ℕ) (beyond : A → List (ℕ × List ℕ)) (inner : A → B) (inner_unread : B → List ℕ) (inner_kept : B → List (List ℕ × ℕ)) : Type 0 where
  pub shown : (s : A) → unread s ≡ inner_unread (inner s)
  pub past : (s : A) → beyond s ≡ kept_beyond (inner_kept (inner s))
