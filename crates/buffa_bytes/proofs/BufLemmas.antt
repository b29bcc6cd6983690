-- Bytes that are moved out of a buffer chunk by chunk.
use Rattle.std.proofs.Common.{◌≡◌, ℕ, ◌+◌, ◌-◌, ◌≤◌, List, ◌++◌, length, take, drop, sym, ◌∙◌, ap, arith, append_assoc}
use Rattle.std.proofs.Math.Seq.{take-add}
use Rattle.std.proofs.lemmas.List.{drop-drop, take-append-drop, take-append-le}
use Rattle.buffa_bytes.specs.Unread.{IsChunkOf}

-- the front of a chunk is that of the buffer
pub front_of_chunk : (n : ℕ) (part all : List ℕ) → IsChunkOf part all → n ≤ length part → take n part ≡ take n all
front_of_chunk n part all c h =
    let whole : part ++ drop (length part) all ≡ all = ap (λ z. z ++ drop (length part) all) (sym c.front) ∙ take-append-drop (length part) all in
    sym (take-append-le n part (drop (length part) all) h) ∙ ap (take n) whole

-- one chunk more
pub chunk_moved : (n left : ℕ) (held part all : List ℕ) → IsChunkOf part all → n ≤ length part → n ≤ left → (held ++ take n part) ++ take (left - n) (drop n all) ≡ held ++ take left all
chunk_moved n left held part all c h l =
    let e : left ≡ n + (left - n) = omega arith in
    append_assoc held (take n part) (take (left - n) (drop n all)) ∙ ap (λ z. held ++ (z ++ take (left - n) (drop n all))) (front_of_chunk n part all c h) ∙ ap (λ z. held ++ z) (sym (take-add n (left - n) all)) ∙ ap (λ k. held ++ take k all) (sym e)

pub chunk_dropped : (n left : ℕ) (all : List ℕ) → n ≤ left → drop (left - n) (drop n all) ≡ drop left all
chunk_dropped n left all l = let e : n + (left - n) ≡ left = omega arith in drop-drop (left - n) n all ∙ ap (λ k. drop k all) e
