-- What a buffer of the crate `bytes` shows and keeps.
use Rattle.std.proofs.Common.{◌≡◌, ℕ, List, [], ◌∷◌, refl, sym, ap, ◌∙◌}
use Rattle.bytes.specs.Unread as kit
use Rattle.buffa_bytes.specs.Adapted.{kept_beyond}
use Rattle.buffa_bytes.specs.Unread.{IsChunkOf}

-- a chunk of theirs is one of ours
pub own_chunk : (part all : List ℕ) → kit.IsChunkOf part all → IsChunkOf part all
own_chunk part all c = record { front = c.front; fits = c.fits; some = c.some }

kept_within : List (ℕ × List ℕ) → List (List ℕ × ℕ)
kept_within [] = []
kept_within (k ∷ ks) = (k.1, k.0) ∷ kept_within ks

within_beyond : (ks : List (List ℕ × ℕ)) → kept_within (kept_beyond ks) ≡ ks
unfolding kept_within
within_beyond [] = refl
within_beyond (k ∷ ks) = ap (λ xs. k ∷ xs) (within_beyond ks)

-- where ours keep one thing, so do theirs
pub kept_is_one : (x y : List (List ℕ × ℕ)) → kept_beyond x ≡ kept_beyond y → x ≡ y
kept_is_one x y e = sym (within_beyond x) ∙ ap kept_within e ∙ within_beyond y
