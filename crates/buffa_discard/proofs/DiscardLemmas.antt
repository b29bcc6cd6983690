-- Messages that are gone through, one after the other.
use Rattle.std.proofs.Common.{◌≡◌, ℕ, zero, suc, ◌<◌, ◌≤◌, Bool, true, cond, List, [], ◌∷◌, length, refl, ap, sym, subst, ◌∙◌, arith, slice_index_or, slice_set}
use Rattle.std.specs.Map.Calls.{RetainsPairs}
use Rattle.buffa_discard.specs.Discarded.{EachDiscarded, ValuesDiscarded}

-- what a closure leaves that goes through each value, and keeps it
pub values_kept : {F K M : Type 0} (T : F → K → M → Bool → M → F → Type 0) (D : M → M → Type 0) (keeps : (f : F) (k : K) (v : M) (b : Bool) (w : M) (after : F) → T f k v b w after → (b ≡ true) × D v w) (f : F) (olds kept : List (K × M)) → RetainsPairs T f olds kept → ValuesDiscarded D olds kept
values_kept T D keeps f [] kept run = run
values_kept T D keeps f (e ∷ olds) kept (b, w, after, rest, step, run, is) =
    let k = keeps f e.0 e.1 b w after step in
    (w, rest, is ∙ ap (λ (z : Bool). cond z ((e.0, w) ∷ rest) rest) k.0, k.1, values_kept T D keeps after olds rest run)

module _ {M : Type 0} (D : M → M → Type 0) where
  -- so many at the front were gone through
  abbrev pub FrontDiscarded : ℕ → List M → List M → Type 0
  FrontDiscarded zero olds news = news ≡ olds
  FrontDiscarded (suc n) [] news = news ≡ []
  FrontDiscarded (suc n) (old ∷ olds) news = (m : M) × (ms : List M) × (news ≡ m ∷ ms) × D old m × FrontDiscarded n olds ms

  one_more : (d : M) (n : ℕ) (olds news : List M) (v : M) → FrontDiscarded n olds news → n < length olds → D (slice_index_or news n d) v → FrontDiscarded (suc n) olds (slice_set news n v)
  one_more d zero [] news v front some is = absurd (omega (arith, some))
  one_more d zero (old ∷ olds) news v front some is =
      (v, olds, ap (λ (z : List M). slice_set z 0 v) front, subst (λ (z : List M). D (slice_index_or z 0 d) v) front is, refl)
  one_more d (suc n) [] news v front some is = absurd (omega (arith, some))
  one_more d (suc n) (old ∷ olds) news v (m, ms, split, first, front) some is = (
    m,
    slice_set ms n v,
    ap (λ (z : List M). slice_set z (suc n) v) split,
    first,
    one_more d n olds ms v front (omega (arith, some)) (subst (λ (z : List M). D (slice_index_or z (suc n) d) v) split is),
  )

  pub front_next : (d : M) (n next : ℕ) (olds news after : List M) (v : M) → FrontDiscarded n olds news → next ≡ suc n → n < length olds → D (slice_index_or news n d) v → after ≡ slice_set news n v → FrontDiscarded next olds after
  front_next d n next olds news after v front is some gone put =
      subst (λ (z : ℕ). FrontDiscarded z olds after) (sym is) (subst (λ (z : List M). FrontDiscarded (suc n) olds z) (sym put) (one_more d n olds news v front some gone))

  pub front_all : (n : ℕ) (olds news : List M) → length olds ≤ n → FrontDiscarded n olds news → EachDiscarded D olds news
  front_all zero [] news all front = front
  front_all zero (old ∷ olds) news all front = absurd (omega (arith, all))
  front_all (suc n) [] news all front = front
  front_all (suc n) (old ∷ olds) news all (m, ms, split, first, front) = (m, ms, split, first, front_all n olds ms (omega (arith, all)) front)
