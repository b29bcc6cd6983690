-- Classes of equal keys, and what puts do to one of them: why a rewrite of an ordered run means what the run
-- means, and that of no other run does.
use Rattle.std.proofs.Common.{◌≡◌, ◌≢◌, Bool, true, false, cond, List, [], ◌∷◌, ◌++◌, Option, Some, None, refl, sym, ◌∙◌, ap, arith, subst}
use Rattle.std.specs.Prelude.{IfSome}
use Rattle.std.specs.Cmp.{IsEquivalence}
use Rattle.std.specs.Map.{lookup_entry, keys_of}
use Rattle.std.specs.List.{filter, IsDistinct}
use Rattle.std.proofs.lemmas.Map.{NonePasses}
use Rattle.std.proofs.lemmas.Map.Entries.{none_past_head}
use Rattle.std.proofs.lemmas.List.Elements.{filter-append}
use Rattle.std.proofs.lemmas.Map.Keys.{IsDistinct-tail}
use Rattle.buffa_map.specs.Pairs.{put, SamePairs, ListsOnce}
use Rattle.buffa_map.proofs.PutLemmas.{key_or, lookup_entry-put}

-- ---- a run to two readers

-- a value to two readers: both have it, only the newer one has it, or neither
pub data Kind (V : Type 0) : Type 0 where
  Both : V → Kind V
  Later : V → Kind V
  Neither : Kind V

abbrev pub IsLater : {V : Type 0} → Kind V → Type 0
IsLater (Both v) = ⊥
IsLater (Later w) = Unit {0}
IsLater Neither = ⊥

abbrev pub first_key : {K V : Type 0} → List (K × V) → Option K
first_key [] = None
first_key (p ∷ ps) = Some p.0

-- the pairs after each of ps is put, in order
abbrev pub put_all : {K V : Type 0} → (K → K → Bool) → List (K × V) → List (K × V) → List (K × V)
put_all eq m [] = m
put_all eq m (p ∷ ps) = put_all eq (put eq m p.0 p.1) ps

module _ {K V : Type 0} where
  -- the pairs that the older reader knows
  abbrev pub older : List (K × Kind V) → List (K × V)
  older [] = []
  older (x ∷ xs) = elim x.1 as (λ _. List (K × V)) [ Both v ↦ (x.0, v) ∷ older xs | Later w ↦ older xs | Neither ↦ older xs ]

  -- those that only the newer reader knows
  abbrev pub later : List (K × Kind V) → List (K × V)
  later [] = []
  later (x ∷ xs) = elim x.1 as (λ _. List (K × V)) [ Both v ↦ later xs | Later w ↦ (x.0, w) ∷ later xs | Neither ↦ later xs ]

  -- the last that the newer reader knows
  abbrev pub last_kind : List (K × Kind V) → Kind V
  last_kind [] = Neither
  last_kind (x ∷ xs) = elim (last_kind xs) as (λ _. Kind V) [ Both v ↦ Both v | Later w ↦ Later w | Neither ↦ x.1 ]

  -- the pairs that the newer reader knows
  abbrev pub newer : List (K × Kind V) → List (K × V)
  newer [] = []
  newer (x ∷ xs) = elim x.1 as (λ _. List (K × V)) [ Both v ↦ (x.0, v) ∷ newer xs | Later w ↦ (x.0, w) ∷ newer xs | Neither ↦ newer xs ]

  -- the order condition for the entries of one class
  abbrev pub IsOrderedKinds : List (K × Kind V) → Type 0
  IsOrderedKinds c = later c ≢ [] → IsLater (last_kind c) × IfSome (first_key (older c)) (λ k. first_key (newer c) ≡ Some k)

  -- what only the newer reader knows is nothing that the older one knows
  abbrev pub AreNew : (V → Type 0) → List (K × Kind V) → Type 0
  AreNew P [] = Unit {0}
  AreNew P (x ∷ c) = elim x.1 as (λ _. Type 0) [ Both v ↦ P v × AreNew P c | Later w ↦ ((v : V) → P v → v ≢ w) × AreNew P c | Neither ↦ AreNew P c ]

-- ---- the ends of a list of pairs

-- a stored pair, after another pair of its class is put
abbrev combine : {K W : Type 0} → Option (K × W) → Option (K × W) → Option (K × W)
combine s None = s
combine s (Some p) = Some (key_or p.0 s, p.1)

abbrev last_of : {K W : Type 0} → W → List (K × W) → W
last_of w [] = w
last_of w (p ∷ ps) = last_of p.1 ps

-- the first key and the last value
abbrev ends : {K W : Type 0} → List (K × W) → Option (K × W)
ends [] = None
ends (p ∷ ps) = Some (p.0, last_of p.1 ps)

combine-assoc : {K W : Type 0} (s a b : Option (K × W)) → combine (combine s a) b ≡ combine s (combine a b)
combine-assoc s a None = refl
combine-assoc s None (Some p) = refl
combine-assoc s (Some r) (Some p) = refl

combine-none : {K W : Type 0} (a : Option (K × W)) → combine None a ≡ a
combine-none None = refl
combine-none (Some p) = refl

ends-cons : {K W : Type 0} (p : K × W) (ps : List (K × W)) → ends (p ∷ ps) ≡ combine (Some p) (ends ps)
ends-cons p [] = refl
ends-cons p (r ∷ rs) = refl

ends-append : {K W : Type 0} (ps rs : List (K × W)) → ends (ps ++ rs) ≡ combine (ends ps) (ends rs)
ends-append [] rs = sym (combine-none (ends rs))
ends-append (p ∷ ps) rs = ends-cons p (ps ++ rs) ∙ ap (combine (Some p)) (ends-append ps rs) ∙ sym (combine-assoc (Some p) (ends ps) (ends rs)) ∙ ap (λ z. combine z (ends rs)) (sym (ends-cons p ps))

module _ {K : Type 0} {eq : K → K → Bool} (laws : IsEquivalence eq) where
  lookup_entry-alike : {V : Type 0} (q k : K) (m : List (K × V)) → eq q k ≡ true → lookup_entry (eq q) m ≡ lookup_entry (eq k) m
  lookup_entry-alike q k m h = let same : eq q ≡ eq k = λ i x. laws.congr q k x h i in ap (λ t. lookup_entry t m) same

  puts : {W : Type 0} (q : K) (p : K × W) (m ps : List (K × W)) (t : Bool) → eq q p.0 ≡ t →
      combine (cond t (Some (key_or p.0 (lookup_entry (eq p.0) m), p.1)) (lookup_entry (eq q) m)) (ends ps) ≡ combine (lookup_entry (eq q) m) (ends (cond t (p ∷ ps) ps))
  puts q p m ps true h =
      ap (λ z. combine (Some (key_or p.0 z, p.1)) (ends ps)) (sym (lookup_entry-alike q p.0 m h)) ∙ combine-assoc (lookup_entry (eq q) m) (Some p) (ends ps) ∙ ap (combine (lookup_entry (eq q) m)) (sym (ends-cons p ps))
  puts q p m ps false h = refl

  -- what a key finds after puts
  lookup_entry-put_all : {W : Type 0} (q : K) (m ps : List (K × W)) → lookup_entry (eq q) (put_all eq m ps) ≡ combine (lookup_entry (eq q) m) (ends (filter (λ p. eq q p.0) ps))
  lookup_entry-put_all q m [] = refl
  lookup_entry-put_all q m (p ∷ ps) =
      lookup_entry-put_all q (put eq m p.0 p.1) ps ∙ ap (λ z. combine z (ends (filter (λ p. eq q p.0) ps))) (lookup_entry-put laws m p.0 p.1 q) ∙ puts q p m (filter (λ p. eq q p.0) ps) (eq q p.0) refl

  filter-none : {V : Type 0} (t : K → Bool) (l : List (K × V)) → NonePasses t l → filter (λ p. t p.0) l ≡ []
  filter-none t [] h = refl
  filter-none t (p ∷ l) h = rw h.0 (filter-none t l h.1)

  distinct : {V : Type 0} (q : K) (p : K × V) (l : List (K × V)) → IsDistinct eq (keys_of (p ∷ l)) → (t : Bool) → eq q p.0 ≡ t → ends (filter (λ p. eq q p.0) l) ≡ lookup_entry (eq q) l →
      ends (cond t (p ∷ filter (λ p. eq q p.0) l) (filter (λ p. eq q p.0) l)) ≡ cond t (Some p) (lookup_entry (eq q) l)
  distinct q p l d true h ih = rw (filter-none (eq q) l (none_past_head laws q p l d h)) refl
  distinct q p l d false h ih = ih

  -- a list of distinct keys has at most one pair of each class
  ends-distinct : {V : Type 0} (q : K) (l : List (K × V)) → IsDistinct eq (keys_of l) → ends (filter (λ p. eq q p.0) l) ≡ lookup_entry (eq q) l
  ends-distinct q [] d = refl
  ends-distinct q (p ∷ l) d = distinct q p l d (eq q p.0) refl (ends-distinct q l (IsDistinct-tail eq p.0 (keys_of l) d))

module _ {K V : Type 0} (t : K → Bool) where
  filter-newer : (xs : List (K × Kind V)) → filter (λ p. t p.0) (newer xs) ≡ newer (filter (λ x. t x.0) xs)
  filter-newer [] = refl
  filter-newer ((k, Both v) ∷ xs) = grind (arith, filter-newer xs)
  filter-newer ((k, Later w) ∷ xs) = grind (arith, filter-newer xs)
  filter-newer ((k, Neither) ∷ xs) = grind (arith, filter-newer xs)

  filter-older : (xs : List (K × Kind V)) → filter (λ p. t p.0) (older xs) ≡ older (filter (λ x. t x.0) xs)
  filter-older [] = refl
  filter-older ((k, Both v) ∷ xs) = grind (arith, filter-older xs)
  filter-older ((k, Later w) ∷ xs) = grind (arith, filter-older xs)
  filter-older ((k, Neither) ∷ xs) = grind (arith, filter-older xs)

  filter-later : (xs : List (K × Kind V)) → filter (λ p. t p.0) (later xs) ≡ later (filter (λ x. t x.0) xs)
  filter-later [] = refl
  filter-later ((k, Both v) ∷ xs) = grind (arith, filter-later xs)
  filter-later ((k, Later w) ∷ xs) = grind (arith, filter-later xs)
  filter-later ((k, Neither) ∷ xs) = grind (arith, filter-later xs)

-- ---- one class

same_kind : {V : Type 0} (r : Kind V) → elim r as (λ _. Kind V) [ Both v ↦ Both v | Later w ↦ Later w | Neither ↦ Neither ] ≡ r
same_kind (Both v) = refl
same_kind (Later w) = refl
same_kind Neither = refl

abbrev LastHas : {V : Type 0} → (V → Type 0) → Kind V → Type 0
LastHas P (Both v) = P v
LastHas P (Later w) = Unit {0}
LastHas P Neither = Unit {0}

module _ {K V : Type 0} where
  -- what is known where the newer reader's last is known
  abbrev LastIs : List (K × Kind V) → Kind V → Type 0
  LastIs c (Both u) = ((b : V) → last_of b (newer c) ≡ u) × ((a : V) → last_of a (older c) ≡ u)
  LastIs c (Later w) = ((b : V) → last_of b (newer c) ≡ w) × ((b : V) → last_of b (later c) ≡ w) × ((k : K) × (ends (later c) ≡ Some (k, w)))
  LastIs c Neither = (newer c ≡ []) × (later c ≡ []) × (older c ≡ [])

  lasts-cons : (k : K) (x : Kind V) (c : List (K × Kind V)) (r : Kind V) → LastIs c r → LastIs ((k, x) ∷ c) (elim r as (λ _. Kind V) [ Both v ↦ Both v | Later w ↦ Later w | Neither ↦ x ])
  lasts-cons k (Both v) c (Both u) h = (λ b. h.0 v, λ a. h.1 v)
  lasts-cons k (Both v) c (Later w) h = (λ b. h.0 v, λ b. h.1 b, h.2)
  lasts-cons k (Both v) c Neither h = (λ b. rw h.0 refl, λ a. rw h.2 refl)
  lasts-cons k (Later v) c (Both u) h = (λ b. h.0 v, λ a. h.1 a)
  lasts-cons k (Later v) c (Later w) h = (λ b. h.0 v, λ b. h.1 v, (k, ap (λ z. Some (k, z)) (h.1 v)))
  lasts-cons k (Later v) c Neither h = (λ b. rw h.0 refl, λ b. rw h.1 refl, (k, rw h.1 refl))
  lasts-cons k Neither c (Both u) h = h
  lasts-cons k Neither c (Later w) h = h
  lasts-cons k Neither c Neither h = h

  lasts : (c : List (K × Kind V)) → LastIs c (last_kind c)
  lasts [] = (refl, refl, refl)
  lasts ((k, x) ∷ c) = lasts-cons k x c (last_kind c) (lasts c)

  -- where the newer reader knows none, none is known to it alone
  pub nothing_known : (c : List (K × Kind V)) → last_kind c ≡ Neither → later c ≡ []
  nothing_known c h = let p : LastIs c Neither = subst (LastIs c) h (lasts c) in p.1

  -- the class after the rewrite, and the class as it was
  abbrev Agrees : List (K × Kind V) → Type 0
  Agrees c = combine (ends (older c)) (ends (later c)) ≡ ends (newer c)

  not_later : (k : K) (x : Kind V) (c : List (K × Kind V)) (u : V) → last_kind c ≡ Both u → IsLater (last_kind ((k, x) ∷ c)) → ⊥
  not_later k x c u e i = let P : Kind V → Type 0 = λ z. IsLater (elim z as (λ _. Kind V) [ Both v ↦ Both v | Later w ↦ Later w | Neither ↦ x ]) in subst P e i

  is_later : (k : K) (x : Kind V) (c : List (K × Kind V)) (w : V) → last_kind c ≡ Later w → IsLater (last_kind ((k, x) ∷ c))
  is_later k x c w e = let P : Kind V → Type 0 = λ z. IsLater (elim z as (λ _. Kind V) [ Both v ↦ Both v | Later w ↦ Later w | Neither ↦ x ]) in subst P (sym e) tt

  agrees-both-only : (k : K) (v u : V) (c : List (K × Kind V)) (l : List (K × V)) → later c ≡ l → last_kind c ≡ Both u → LastIs c (Both u) → IsOrderedKinds ((k, Both v) ∷ c) → Agrees ((k, Both v) ∷ c)
  agrees-both-only k v u c [] n e h o = rw (n, h.0 v, h.1 v) refl
  agrees-both-only k v u c (p ∷ l) n e h o =
      let some : later c ≢ [] = λ z. cc in
      absurd (not_later k (Both v) c u e (o some).0)

  agrees-both : (k : K) (v : V) (c : List (K × Kind V)) (r : Kind V) → last_kind c ≡ r → LastIs c r → IsOrderedKinds ((k, Both v) ∷ c) → Agrees ((k, Both v) ∷ c)
  agrees-both k v c (Both u) e h o = agrees-both-only k v u c (later c) refl e h o
  agrees-both k v c (Later w) e h o = rw (h.2.1, h.0 v) refl
  agrees-both k v c Neither e h o = rw (h.0, h.1, h.2) refl

  later-values : (k : K) (w : V) (c : List (K × Kind V)) (r : Kind V) → last_kind c ≡ r → LastIs c r → IsLater (last_kind ((k, Later w) ∷ c)) → last_of w (later c) ≡ last_of w (newer c)
  later-values k w c (Both u) e h o = absurd (not_later k (Later w) c u e o)
  later-values k w c (Later x) e h o = h.1 w ∙ sym (h.0 w)
  later-values k w c Neither e h o = rw (h.0, h.1) refl

  later-keys : (k : K) (l : List (K × V)) → IfSome (first_key l) (λ (y : K). Some k ≡ Some y) → key_or k (ends l) ≡ k
  later-keys k [] h = refl
  later-keys k (p ∷ l) h = let e : k ≡ p.0 = cc in sym e

  ordered_agrees : (c : List (K × Kind V)) → IsOrderedKinds c → Agrees c
  ordered_agrees [] o = refl
  ordered_agrees ((k, Both v) ∷ c) o = agrees-both k v c (last_kind c) refl (lasts c) o
  ordered_agrees ((k, Later w) ∷ c) o =
      let some : later ((k, Later w) ∷ c) ≢ [] = λ z. cc in
      let p = o some in
      rw (later-keys k (older c) p.1, later-values k w c (last_kind c) refl (lasts c) p.0) refl
  ordered_agrees ((k, Neither) ∷ c) o = ordered_agrees c (λ some. (subst IsLater (same_kind (last_kind c)) (o some).0, (o some).1))

  same_value : (p q : K × V) → Some p ≡ Some q → p.1 ≡ q.1
  same_value p q e = ap (λ z. z.1) (let i : p ≡ q = cc in i)

  same_key : (p q : K × V) → Some p ≡ Some q → p.0 ≡ q.0
  same_key p q e = ap (λ z. z.0) (let i : p ≡ q = cc in i)

  module _ (P : V → Type 0) where
    last_has-cons : (k : K) (x : Kind V) (c : List (K × Kind V)) (r : Kind V) → AreNew P ((k, x) ∷ c) → LastHas P r → LastHas P (elim r as (λ _. Kind V) [ Both v ↦ Both v | Later w ↦ Later w | Neither ↦ x ])
    last_has-cons k x c (Both u) n h = h
    last_has-cons k x c (Later w) n h = tt
    last_has-cons k (Both v) c Neither n h = n.0
    last_has-cons k (Later w) c Neither n h = tt
    last_has-cons k Neither c Neither n h = tt

    new_tail : (y : K × Kind V) (ys : List (K × Kind V)) → AreNew P (y ∷ ys) → AreNew P ys
    new_tail (k, Both v) ys n = n.1
    new_tail (k, Later w) ys n = n.1
    new_tail (k, Neither) ys n = n

    last_has : (c : List (K × Kind V)) → AreNew P c → LastHas P (last_kind c)
    last_has [] n = tt
    last_has ((k, x) ∷ c) n = last_has-cons k x c (last_kind c) n (last_has c (new_tail (k, x) c n))

    new-last : (c : List (K × Kind V)) → AreNew P c → (w : V) → ((v : V) → P v → v ≢ w) → (v : V) → P v → v ≢ last_of w (later c)
    new-last [] n w new = new
    new-last ((k, Both v) ∷ c) n w new = new-last c n.1 w new
    new-last ((k, Later x) ∷ c) n w new = new-last c n.1 x n.0
    new-last ((k, Neither) ∷ c) n w new = new-last c n w new

    new-ends : (c : List (K × Kind V)) → AreNew P c → (p : K × V) (l : List (K × V)) → later c ≡ p ∷ l → (v : V) → P v → v ≢ last_of p.1 l
    new-ends [] n p l e v h = cc
    new-ends ((k, Both v) ∷ c) n p l e u h = new-ends c n.1 p l e u h
    new-ends ((k, Later x) ∷ c) n p l e u h =
        let Q : List (K × V) → Type 0 = λ z. IfSome (ends z) (λ y. u ≢ y.1) in
        let here : Q (later ((k, Later x) ∷ c)) = new-last c n.1 x n.0 u h in
        subst Q e here
    new-ends ((k, Neither) ∷ c) n p l e u h = new-ends c n p l e u h

    ordered-both : (k : K) (v : V) (c : List (K × Kind V)) (p : K × V) (l : List (K × V)) (r : Kind V) → later c ≡ p ∷ l → last_kind c ≡ r → LastIs c r → LastHas P r → AreNew P c → Agrees ((k, Both v) ∷ c) → IsLater (last_kind ((k, Both v) ∷ c))
    ordered-both k v c p l (Both u) n e h has new a =
        let one : K × V = (k, last_of p.1 l) in
        let two : K × V = (k, last_of v (newer c)) in
        let Q : List (K × V) → Type 0 = λ z. combine (Some (k, last_of v (older c))) (ends z) ≡ Some two in
        let b : Some one ≡ Some two = subst Q n a in
        absurd (new-ends c new p l n u has (sym (same_value one two b ∙ h.0 v)))
    ordered-both k v c p l (Later w) n e h has new a = is_later k (Both v) c w e
    ordered-both k v c p l Neither n e h has new a = let f : p ∷ l ≡ [] = sym n ∙ h.1 in cc

    ordered-later : (k : K) (w : V) (c : List (K × Kind V)) (r : Kind V) → last_kind c ≡ r → LastIs c r → LastHas P r → AreNew P ((k, Later w) ∷ c) → last_of w (later c) ≡ last_of w (newer c) → IsLater (last_kind ((k, Later w) ∷ c))
    ordered-later k w c (Both u) e h has new a = absurd (new-last c new.1 w new.0 u has (sym (a ∙ h.0 w)))
    ordered-later k w c (Later x) e h has new a = is_later k (Later w) c x e
    ordered-later k w c Neither e h has new a =
        let Q : Kind V → Type 0 = λ z. IsLater (elim z as (λ _. Kind V) [ Both v ↦ Both v | Later w ↦ Later w | Neither ↦ Later w ]) in
        subst Q (sym e) tt

    keys-later : (k : K) (l : List (K × V)) → key_or k (ends l) ≡ k → IfSome (first_key l) (λ (y : K). Some k ≡ Some y)
    keys-later k [] h = tt
    keys-later k (p ∷ l) h = ap (λ (z : K). Some z) (sym h)

    some_both : (k : K) (v : V) (c : List (K × Kind V)) (l : List (K × V)) → later c ≡ l → AreNew P c → Agrees ((k, Both v) ∷ c) → later c ≢ [] → IsLater (last_kind ((k, Both v) ∷ c))
    some_both k v c [] n new a some = absurd (some n)
    some_both k v c (p ∷ l) n new a some = ordered-both k v c p l (last_kind c) n refl (lasts c) (last_has c new) new a

    agrees_ordered : (c : List (K × Kind V)) → AreNew P c → Agrees c → IsOrderedKinds c
    agrees_ordered [] n a some = absurd (some refl)
    agrees_ordered ((k, Both v) ∷ c) n a some = (some_both k v c (later c) refl n.1 a some, refl)
    agrees_ordered ((k, Later w) ∷ c) n a some =
        let one : K × V = (key_or k (ends (older c)), last_of w (later c)) in
        let two : K × V = (k, last_of w (newer c)) in
        (ordered-later k w c (last_kind c) refl (lasts c) (last_has c n.1) n (same_value one two a), keys-later k (older c) (same_key one two a))
    agrees_ordered ((k, Neither) ∷ c) n a some = let p = agrees_ordered c n a some in (subst IsLater (sym (same_kind (last_kind c))) p.0, p.1)

    new_onto : (y : K × Kind V) (ys zs : List (K × Kind V)) → AreNew P (y ∷ ys) → AreNew P zs → AreNew P (y ∷ zs)
    new_onto (k, Both v) ys zs n m = (n.0, m)
    new_onto (k, Later w) ys zs n m = (n.0, m)
    new_onto (k, Neither) ys zs n m = m

    new_chosen : (b : Bool) (y : K × Kind V) (ys zs : List (K × Kind V)) → AreNew P (y ∷ ys) → AreNew P zs → AreNew P (cond b (y ∷ zs) zs)
    new_chosen true y ys zs n m = new_onto y ys zs n m
    new_chosen false y ys zs n m = m

    new_class : (t : K → Bool) (ys : List (K × Kind V)) → AreNew P ys → AreNew P (filter (λ x. t x.0) ys)
    new_class t [] n = tt
    new_class t (y ∷ ys) n = new_chosen (t y.0) y ys (filter (λ x. t x.0) ys) n (new_class t ys (new_tail y ys n))

-- ---- whole lists
module _ {K V : Type 0} {eq : K → K → Bool} (laws : IsEquivalence eq) (xs : List (K × Kind V)) (l : List (K × V)) (e : ListsOnce eq (put_all eq [] (older xs)) l) where
  -- what the rewrite's pairs leave of a class
  walked : (q : K) → ends (filter (λ p. eq q p.0) l) ≡ ends (older (filter (λ x. eq q x.0) xs))
  walked q = ends-distinct laws q l e.0 ∙ sym (e.1 q) ∙ lookup_entry-put_all laws q [] (older xs) ∙ combine-none (ends (filter (λ p. eq q p.0) (older xs))) ∙ ap ends (filter-older (eq q) xs)

  rewritten : (m : List (K × V)) (q : K) → lookup_entry (eq q) (put_all eq m (l ++ later xs)) ≡
      combine (lookup_entry (eq q) m) (combine (ends (older (filter (λ x. eq q x.0) xs))) (ends (later (filter (λ x. eq q x.0) xs))))
  rewritten m q =
      lookup_entry-put_all laws q m (l ++ later xs) ∙ ap (combine (lookup_entry (eq q) m))
      (ap ends (filter-append (λ p. eq q p.0) l (later xs)) ∙ ends-append (filter (λ p. eq q p.0) l) (filter (λ p. eq q p.0) (later xs))
      ∙ ap (λ z. combine z (ends (filter (λ p. eq q p.0) (later xs)))) (walked q)
      ∙ ap (λ z. combine (ends (older (filter (λ x. eq q x.0) xs))) (ends z)) (filter-later (eq q) xs))

  original : (m : List (K × V)) (q : K) → lookup_entry (eq q) (put_all eq m (newer xs)) ≡ combine (lookup_entry (eq q) m) (ends (newer (filter (λ x. eq q x.0) xs)))
  original m q = lookup_entry-put_all laws q m (newer xs) ∙ ap (λ z. combine (lookup_entry (eq q) m) (ends z)) (filter-newer (eq q) xs)

  pub kept_meaning : ((q : K) → IsOrderedKinds (filter (λ x. eq q x.0) xs)) → (m : List (K × V)) → SamePairs eq (put_all eq m (l ++ later xs)) (put_all eq m (newer xs))
  kept_meaning o m q = rewritten m q ∙ ap (combine (lookup_entry (eq q) m)) (ordered_agrees (filter (λ x. eq q x.0) xs) (o q)) ∙ sym (original m q)

  pub exact : (P : V → Type 0) → AreNew P xs → SamePairs eq (put_all eq [] (l ++ later xs)) (put_all eq [] (newer xs)) → (q : K) → IsOrderedKinds (filter (λ x. eq q x.0) xs)
  exact P n same q = agrees_ordered P (filter (λ x. eq q x.0) xs) (new_class P (eq q) xs n) (sym (combine-none _) ∙ sym (rewritten [] q) ∙ same q ∙ original [] q ∙ combine-none _)
