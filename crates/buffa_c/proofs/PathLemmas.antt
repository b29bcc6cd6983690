-- Steps that are laid in a room, one after the other.
use Rattle.std.proofs.Common.{◌≡◌, ℕ, zero, suc, ◌+◌, ◌<◌, ◌≤◌, List, [], ◌∷◌, ◌++◌, length, take, drop, map, refl, ap, sym, subst, ◌∙◌, arith, slice_index_or, slice_set}
use Rattle.buffa_locate.specs.declared.place.Step.{Step}
use Rattle.buffa_c.specs.declared.place.PathStep.{PathStep}
use Rattle.buffa_c.specs.Places.{LaysPath, told_step}

-- so many steps are at the front
abbrev pub laid : List Step → List PathStep → ℕ → List PathStep
laid steps old zero = old
laid [] old (suc n) = old
laid (s ∷ steps) [] (suc n) = []
laid (s ∷ steps) (o ∷ old) (suc n) = told_step s ∷ laid steps old n

-- all of them are
pub laid_all : (steps : List Step) (old : List PathStep) (n : ℕ) → length steps ≤ n → LaysPath steps old (laid steps old n)
laid_all [] [] zero all = refl
laid_all [] (o ∷ old) zero all = refl
laid_all [] [] (suc n) all = refl
laid_all [] (o ∷ old) (suc n) all = refl
laid_all (s ∷ steps) old zero all = absurd (omega (arith, all))
laid_all (s ∷ steps) [] (suc n) all = refl
laid_all (s ∷ steps) (o ∷ old) (suc n) all = ap (λ z. told_step s ∷ z) (laid_all steps old n (omega (arith, all)))

-- one more is put
put_next : (d : Step) (steps : List Step) (old : List PathStep) (n : ℕ) → n < length steps → n < length (laid steps old n) → slice_set (laid steps old n) n (told_step (slice_index_or steps n d)) ≡ laid steps old (suc n)
put_next d [] old n some room = absurd (omega (arith, some))
put_next d (s ∷ steps) [] zero some room = absurd (omega (arith, room))
put_next d (s ∷ steps) (o ∷ old) zero some room = refl
put_next d (s ∷ steps) [] (suc n) some room = absurd (omega (arith, room))
put_next d (s ∷ steps) (o ∷ old) (suc n) some room = ap (λ z. told_step s ∷ z) (put_next d steps old n (omega (arith, some)) (omega (arith, room)))

-- where the room is full, no more are
full_next : (steps : List Step) (old : List PathStep) (n : ℕ) → length (laid steps old n) ≤ n → laid steps old n ≡ laid steps old (suc n)
full_next [] old zero room = refl
full_next [] old (suc n) room = refl
full_next (s ∷ steps) [] zero room = refl
full_next (s ∷ steps) (o ∷ old) zero room = absurd (omega (arith, room))
full_next (s ∷ steps) [] (suc n) room = refl
full_next (s ∷ steps) (o ∷ old) (suc n) room = ap (λ z. told_step s ∷ z) (full_next steps old n (omega (arith, room)))

pub laid_put : (d : Step) (steps : List Step) (old room new : List PathStep) (n next : ℕ) (v : PathStep) → room ≡ laid steps old n → next ≡ suc n → n < length steps → n < length room → v ≡ told_step (slice_index_or steps n d) → new ≡ slice_set room n v → new ≡ laid steps old next
laid_put d steps old room new n next v before is some fits told put =
    put ∙ ap (λ (z : List PathStep). slice_set z n v) before ∙ ap (λ (z : PathStep). slice_set (laid steps old n) n z) told
    ∙ put_next d steps old n some (subst (λ z. n < length z) before fits) ∙ ap (laid steps old) (sym is)

pub laid_full : (steps : List Step) (old room : List PathStep) (n next : ℕ) → room ≡ laid steps old n → next ≡ suc n → length room ≤ n → room ≡ laid steps old next
laid_full steps old room n next before is full =
    before ∙ full_next steps old n (subst (λ z. length z ≤ n) before full) ∙ ap (laid steps old) (sym is)
