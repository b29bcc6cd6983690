-- One turn of a replay.
use Rattle.std.proofs.Common.{◌≡◌, ℕ, ◌+◌, ◌≤◌, add_assoc, List, [], ◌∷◌, ◌++◌, refl, sym, ◌∙◌, ap, drop, map, take, length, arith}
use Rattle.std.proofs.lemmas.List.{map-append, take-map}
use Rattle.std.proofs.Math.Seq.{take-append_seam}
use Rattle.buffa_wire.specs.Records.{FieldData}
use Rattle.buffa_ext.specs.SetsAndClears.{NumberStep, RefusedAt, StepTakesMemory, after, after_one, put_count, put_in}

-- one more step
pub after-snoc : (rs : List (ℕ × FieldData)) (cs : List NumberStep) (c : NumberStep) → after rs (cs ++ c ∷ []) ≡ after_one (after rs cs) c
after-snoc rs [] c = refl
after-snoc rs (d ∷ cs) c = after-snoc (after_one rs d) cs c

pub replays_one_more : {S : Type 0} (f : S → NumberStep) (start now next : List (ℕ × FieldData)) (done : List S) (s : S)
    → now ≡ after start (map f done) → next ≡ after_one now (f s) → next ≡ after start (map f (done ++ s ∷ []))
replays_one_more f start now next done s so_far one =
    one ∙ ap (λ l. after_one l (f s)) so_far ∙ sym (after-snoc start (map f done) (f s)) ∙ ap (after start) (sym (map-append f done (s ∷ [])))

drop-front : {S : Type 0} (f : S → NumberStep) (xs ys : List S) → drop (length xs) (map f (xs ++ ys)) ≡ map f ys
drop-front f [] ys = refl
drop-front f (x ∷ xs) ys = drop-front f xs ys

-- the step for which there is no memory takes some
pub replay_refused : {S : Type 0} (f : S → NumberStep) (all done rest : List S) (s : S) (n : ℕ) → all ≡ done ++ (s ∷ rest) → n ≡ length done → StepTakesMemory (f s) → RefusedAt n (map f all)
replay_refused f all done rest s n whole count memory =
    (f s, map f rest, ap (λ k. drop k (map f all)) count ∙ ap (λ l. drop (length done) (map f l)) whole ∙ drop-front f done (s ∷ rest), memory)

-- ---- room

put-snoc : (cs : List NumberStep) (c : NumberStep) → put_count (cs ++ c ∷ []) ≡ put_count cs + length (put_in c)
put-snoc [] c = omega arith
put-snoc (d ∷ cs) c = ap (λ k. length (put_in d) + k) (put-snoc cs c) ∙ sym (add_assoc (length (put_in d)) (put_count cs) (length (put_in c)))

-- one more step takes no more room than it puts records in
pub room_one_more : {S : Type 0} (f : S → NumberStep) (done : List S) (s : S) (start now next : ℕ) → start ≤ now + put_count (map f done) → now ≤ next + length (put_in (f s))
    → start ≤ next + put_count (map f (done ++ s ∷ []))
room_one_more f done s start now next h k =
    let more : put_count (map f (done ++ s ∷ [])) ≡ put_count (map f done) + length (put_in (f s)) = ap put_count (map-append f done (s ∷ [])) ∙ put-snoc (map f done) (f s) in
    omega (arith, h, k, more)

-- the steps that stand
pub room_of_front : {S : Type 0} (f : S → NumberStep) (all done rest : List S) (n start now next : ℕ) → all ≡ done ++ rest → n ≡ length done → next ≡ now → start ≤ now + put_count (map f done)
    → start ≤ next + put_count (take n (map f all))
room_of_front f all done rest n start now next whole count same h =
    let front : take n (map f all) ≡ map f done = take-map f n all ∙ ap (map f) (ap (take n) whole ∙ ap (λ k. take k (done ++ rest)) count ∙ take-append_seam done rest) in
    let counts : put_count (take n (map f all)) ≡ put_count (map f done) = ap put_count front in
    omega (arith, h, same, counts)
