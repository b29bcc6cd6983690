-- What is left of a buffer whose front was lent and read from.
use Rattle.std.proofs.Common.{ℕ, List, [], ◌∷◌, ◌++◌, ◌≡◌, ◌≤◌, length, take, drop, ap, ap₂, sym, ◌∙◌, arith, length-take}
use Rattle.std.proofs.lemmas.List.{take-append-drop, drop-append-le}

-- x is what follows n bytes of y, where its first m are those of the first l of y, and past them stays what stood past these
past_front : (n l m : ℕ) (x y : List ℕ) → n ≤ l → l ≤ length y → take m x ≡ drop n (take l y) → drop m x ≡ drop l y → x ≡ drop n y
past_front n l m x y within there front past =
    sym (take-append-drop m x)
    ∙ ap₂ (λ a b. a ++ b) front past
    ∙ sym (drop-append-le n (take l y) (drop l y) (omega (arith, length-take l y)))
    ∙ ap (drop n) (take-append-drop l y)

-- what stays past the first limit
abbrev first_kept : List (ℕ × List ℕ) → List ℕ
first_kept [] = []
first_kept (k ∷ ks) = k.1

-- the same of a buffer that is lent up to a limit, by what it shows and keeps
pub past_limited : {B : Type 0} (unread : B → List ℕ) (n limit l m : ℕ) (old inner new : B) (g h : ℕ) (p q : List (ℕ × List ℕ)) → n ≤ limit → limit ≤ length (unread old) → inner ≡ old → l ≡ limit → take m (unread new) ≡ drop n (take l (unread inner)) → (g, drop m (unread new)) ∷ p ≡ (h, drop l (unread inner)) ∷ q → unread new ≡ drop n (unread old)
past_limited unread n limit l m old inner new g h p q within there is_old is_limit front kept =
    past_front n l m (unread new) (unread inner) (omega arith) (omega (arith, ap (λ b. length (unread b)) is_old)) front (ap first_kept kept)
    ∙ ap (λ b. drop n (unread b)) is_old
