-- Slices that are read one after another.
use Rattle.std.proofs.Common.{◌≡◌, ℕ, zero, suc, ◌+◌, ◌-◌, ◌<◌, ◌≤◌, List, [], ◌∷◌, ◌++◌, length, drop, refl, ◌∙◌, ap, arith, length-append, length-drop, add-one, get_or, inl, inr}
use Rattle.std.proofs.Math.Seq.{drop-cons, drop-nil, drop-append-add, take-append_seam}
use Rattle.std.proofs.Math.ListN.{drop_of_length-le}
use Rattle.std.proofs.lemmas.List.{drop-append-le}
use Rattle.std.proofs.lemmas.Bool.{cases_lt}
use Rattle.std.specs.Borrow.{Bor}
use Rattle.buffa_bytes.specs.Unread.{IsChunkOf}
use Rattle.buffa_bytes.specs.Pieces.{joined, IsSettled}

-- the slices from a place on begin with the one there
pub joined_step : (ps : List (Bor (List ℕ))) (i : ℕ) (d : Bor (List ℕ)) → i < length ps → joined (drop i ps) ≡ (get_or ps i d).now ++ joined (drop (i + 1) ps)
joined_step ps i d h = rw (add-one, drop-cons ps i d)

-- a front that isn't empty is a chunk
pub front_is_chunk : (a b : List ℕ) → 0 < length a → IsChunkOf a (a ++ b)
front_is_chunk a b h = record { front = take-append_seam a b; fits = omega (arith, length-append a b); some = λ _. h }

-- what is dropped past the first slice is dropped from the others
pub drop_past : (n : ℕ) (a b : List ℕ) → length a ≤ n → drop n (a ++ b) ≡ drop (n - length a) b
drop_past n a b h = let e : n ≡ length a + (n - length a) = omega arith in ap (λ k. drop k (a ++ b)) e ∙ drop-append-add a b (n - length a)

-- past the last slice, or within one
pub settled : (ps : List (Bor (List ℕ))) (at offset : ℕ) (d : Bor (List ℕ)) → (at < length ps → offset < length (get_or ps at d).now) → IsSettled (drop at ps) offset
settled ps at offset d h = elim (cases_lt at (length ps)) [ inl within ↦ rw (drop-cons ps at d) (h within) | inr past ↦ rw (drop_of_length-le ps past) tt ]

-- what is left of a slice begins what is left
pub settled_chunk : (ps : List (Bor (List ℕ))) (at offset : ℕ) (d : Bor (List ℕ)) → at < length ps → IsSettled (drop at ps) offset → IsChunkOf (drop offset (get_or ps at d).now) (drop offset (joined (drop at ps)))
settled_chunk ps at offset d h s = let first = (get_or ps at d).now in
    let more = joined (drop (suc at) ps) in
    let within : offset < length first = rw (drop-cons ps at d h) at s in
    let e : joined (drop at ps) ≡ first ++ more = rw (drop-cons ps at d) refl in
    rw (e, drop-append-le offset first more (omega arith)) (front_is_chunk (drop offset first) more (omega (arith, length-drop offset first)))

-- one slice further
pub settle_rest : (ps : List (Bor (List ℕ))) (at offset : ℕ) (d : Bor (List ℕ)) → at < length ps → length (get_or ps at d).now ≤ offset →
    drop (offset - length (get_or ps at d).now) (joined (drop (at + 1) ps)) ≡ drop offset (joined (drop at ps))
settle_rest ps at offset d h le = rw (joined_step ps at d h, drop_past offset (get_or ps at d).now (joined (drop (at + 1) ps)) le) refl

fits_next : (ps : List (Bor (List ℕ))) (at : ℕ) → length (joined (drop (suc at) ps)) ≤ length (joined (drop at ps))
fits_next [] at = simp drop-nil (omega arith)
fits_next (p ∷ ps) zero = omega (arith, length-append p.now (joined ps))
fits_next (p ∷ ps) (suc at) = fits_next ps at

pub settle_fits : (ps : List (Bor (List ℕ))) (at : ℕ) → length (joined (drop (at + 1) ps)) ≤ length (joined (drop at ps))
settle_fits ps at = rw add-one (fits_next ps at)
