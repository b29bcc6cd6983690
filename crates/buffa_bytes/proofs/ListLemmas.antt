-- Pieces of lists; lists of values and what they mean, one more at a time.
use Rattle.std.proofs.Common.{◌≡◌, ℕ, ◌+◌, ◌<◌, List, [], ◌∷◌, ◌++◌, append_assoc, refl, sym, ◌∙◌, ap, map, take, drop, length, get_or}
use Rattle.std.specs.List.{AllByRecursion}
use Rattle.std.proofs.lemmas.List.{map-append, take_more, drop_more, take-append-drop}

-- one piece after the other, both at the front
pub cut_twice : (bs t p : List ℕ) (after rest : List ℕ) → bs ≡ t ++ after → after ≡ p ++ rest → bs ≡ (t ++ p) ++ rest
cut_twice bs t p after rest a b = a ∙ ap (λ z. t ++ z) b ∙ sym (append_assoc t p rest)

-- what the first values mean, and what one more means
pub means_more : {V M : Type 0} (meaning : V → M) (xs : List V) (i : ℕ) (x : V) → i < length xs → x ≡ get_or xs i x
    → map meaning (take (i + 1) xs) ≡ map meaning (take i xs) ++ meaning x ∷ []
means_more meaning xs i x lt e = ap (map meaning) (take_more xs i x lt) ∙ map-append meaning (take i xs) (get_or xs i x ∷ []) ∙ ap (λ y. map meaning (take i xs) ++ meaning y ∷ []) (sym e)

-- what all values mean, cut at one
pub means_cut : {V M : Type 0} (meaning : V → M) (xs : List V) (i : ℕ) (x : V) → i < length xs → x ≡ get_or xs i x
    → map meaning xs ≡ map meaning (take i xs) ++ meaning x ∷ map meaning (drop (i + 1) xs)
means_cut meaning xs i x lt e =
    ap (map meaning) (sym (take-append-drop i xs)) ∙ map-append meaning (take i xs) (drop i xs)
    ∙ ap (λ l. map meaning (take i xs) ++ map meaning l) (drop_more xs i x lt) ∙ ap (λ y. map meaning (take i xs) ++ meaning y ∷ map meaning (drop (i + 1) xs)) (sym e)

-- what holds of each value, and of one more
pub AllByRecursion-last : {M : Type 0} (P : M → Type 0) (ms : List M) (m : M) → AllByRecursion P ms → P m → AllByRecursion P (ms ++ m ∷ [])
AllByRecursion-last P [] m h k = (k, tt)
AllByRecursion-last P (x ∷ ms) m h k = (h.0, AllByRecursion-last P ms m h.1 k)

-- what holds of each holds of the one in the middle
pub AllByRecursion-middle : {M : Type 0} (P : M → Type 0) (front : List M) (m : M) (back : List M) → AllByRecursion P (front ++ m ∷ back) → P m
AllByRecursion-middle P [] m back h = h.0
AllByRecursion-middle P (x ∷ front) m back h = AllByRecursion-middle P front m back h.1

pub AllByRecursion-weaker : {M : Type 0} (P Q : M → Type 0) → ((m : M) → P m → Q m) → (ms : List M) → AllByRecursion P ms → AllByRecursion Q ms
AllByRecursion-weaker P Q f [] h = tt
AllByRecursion-weaker P Q f (m ∷ ms) h = (f m h.0, AllByRecursion-weaker P Q f ms h.1)

-- where nothing is joined, neither has anything
pub nil_first : {A : Type 0} (xs ys : List A) → xs ++ ys ≡ [] → xs ≡ []
nil_first [] ys e = refl
nil_first (x ∷ xs) ys e = cc

pub nil_second : {A : Type 0} (xs ys : List A) → xs ++ ys ≡ [] → ys ≡ []
nil_second [] ys e = e
nil_second (x ∷ xs) ys e = cc
