-- A URL names one type at most, and one that is written for a name names that.
use Rattle.std.proofs.Common.{◌≡◌, ◌↔◌, ℕ, List, [], ◌∷◌, ◌++◌, refl, sym, ap, subst, ◌∙◌, arith, codes}
use Rattle.std.specs.List.{Contains}
use Rattle.std.proofs.lemmas.List.Elements.{Contains-append_right}
use Rattle.buffa_types.specs.TypeUrl.{NamesType, slash, url_of}

has_slash : (host name : List ℕ) → Contains (host ++ slash ∷ name) slash
has_slash host name = Contains-append_right host (slash ∷ name) slash (0, omega arith, refl)

rest_of : List ℕ → List ℕ
rest_of [] = []
rest_of (x ∷ xs) = xs

-- what stands behind the last slash is one name: of two that differ, the longer has the slash before the other
behind : (a b name other : List ℕ) → (Contains name slash → ⊥) → (Contains other slash → ⊥) → a ++ slash ∷ name ≡ b ++ slash ∷ other → name ≡ other
unfolding rest_of
behind [] [] name other h k e = ap rest_of e
behind [] (y ∷ b) name other h k e = absurd (h (subst (λ z. Contains z slash) (sym (ap rest_of e)) (has_slash b other)))
behind (x ∷ a) [] name other h k e = absurd (k (subst (λ z. Contains z slash) (ap rest_of e) (has_slash a name)))
behind (x ∷ a) (y ∷ b) name other h k e = behind a b name other h k (ap rest_of e)

pub one_type : (url name other : List ℕ) → NamesType url name → NamesType url other → name ≡ other
one_type url name other h k = behind h.0.0 k.0.0 name other h.1 k.1 (sym h.0.1 ∙ k.0.1)

pub written : (name other : List ℕ) → (Contains name slash → ⊥) → NamesType (url_of name) other ↔ (other ≡ name)
written name other plain =
    let own : NamesType (url_of name) name = ((codes "type.googleapis.com", refl), plain) in
    (λ h. one_type (url_of name) other name h own, λ e. subst (λ z. NamesType (url_of name) z) (sym e) own)
