-- What readers leave of the bytes.
use Rattle.std.proofs.Common.{◌≡◌, ℕ, ◌+◌, ◌≤◌, List, length, drop, length-drop, drop-drop, refl, ap, ◌∙◌, arith}
use Rattle.buffa_bytes.specs.Unread.{IsTailOf}

pub tail_whole : (all : List ℕ) → IsTailOf all all
tail_whole all = record { past = 0; follows = refl }

pub tail_rest : (n : ℕ) (all : List ℕ) → IsTailOf (drop n all) all
tail_rest n all = record { past = n; follows = refl }

pub tail_dropped : (n : ℕ) (all tail : List ℕ) → tail ≡ drop n all → IsTailOf tail all
tail_dropped n all tail e = record { past = n; follows = e }

pub tail_more : (all mid tail : List ℕ) → IsTailOf tail mid → IsTailOf mid all → IsTailOf tail all
tail_more all mid tail t m = record { past = t.past + m.past; follows = t.follows ∙ ap (drop t.past) m.follows ∙ drop-drop t.past m.past all ∙ ap (λ n. drop n all) plus }
  where
    plus : m.past + t.past ≡ t.past + m.past
    plus = omega arith

pub tail_shorter : (all tail : List ℕ) → IsTailOf tail all → length tail ≤ length all
tail_shorter all tail t = omega (arith, ap length t.follows, length-drop t.past all)
