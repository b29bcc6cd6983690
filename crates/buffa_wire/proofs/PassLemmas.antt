-- Steps of the two passes, over plain variables.
use Rattle.std.proofs.Common.{◌≡◌, ℕ, zero, suc, ◌+◌, ◌<◌, List, [], ◌∷◌, ◌++◌, length, refl, sym, ap, subst, ◌∙◌, arith, append_assoc, append-nil, drop, slice_index, slice_set, length-append, Result, Ok, Err, add-one, add-zero}
use Rattle.buffa_bytes.specs.Written.{Writes}
use Rattle.buffa_bytes.specs.declared.error.EncodeError.{EncodeError}
use Rattle.buffa_wire.specs.Passes.{Consumes, IsLonger, IsNext, WritesIf}
use Rattle.buffa_wire.specs.Cache.{Cache, advanced, appended}
use Rattle.buffa_wire.specs.Pinned.{done, refusal}

-- ---- the cursor

-- what stands at the cursor
pub next_at : (xs : List ℕ) (n x : ℕ) (ys : List ℕ) → drop n xs ≡ x ∷ ys → (n < length xs) × (slice_index xs n ≡ x) × (drop (suc n) xs ≡ ys)
next_at [] zero x ys e = absurd (cc)
next_at [] (suc n) x ys e = absurd (cc)
next_at (y ∷ xs) zero x ys e = (omega arith, cc, cc)
next_at (y ∷ xs) (suc n) x ys e = let h = next_at xs n x ys e in (omega (arith, h.0), h.1, h.2)

pub next_ok : (x : ℕ) (ss : List ℕ) (c : Cache) → IsNext (x ∷ ss) c → (c.next < length c.slots) × (slice_index c.slots c.next ≡ x)
next_ok x ss c (rest, e) = let h = next_at c.slots c.next x (ss ++ rest) e in (h.0, h.1)

pub next_rest : (x : ℕ) (ss : List ℕ) (c : Cache) → IsNext (x ∷ ss) c → IsNext ss (advanced 1 c)
next_rest x ss c (rest, e) = (rest, rw add-one (next_at c.slots c.next x (ss ++ rest) e).2)

pub drop_past : (ss xs ys : List ℕ) (n : ℕ) → drop n xs ≡ ss ++ ys → drop (n + length ss) xs ≡ ys
drop_past [] xs ys n e = rw add-zero e
drop_past (s ∷ ss) xs ys n e =
    let q : suc n + length ss ≡ n + suc (length ss) = omega arith in
    subst (λ k. drop k xs ≡ ys) q (drop_past ss xs ys (suc n) (next_at xs n s (ss ++ ys) e).2)

-- slots that were appended behind the cursor are next
pub slots_are_next : (slots : List ℕ) (c : Cache) → c.next ≡ length c.slots → IsNext slots (appended slots c)
slots_are_next more c e =
    let none : length c.slots ≡ 0 + length c.slots = omega arith in
    ([], ap (λ z. drop z (c.slots ++ more)) (e ∙ none) ∙ drop_past c.slots (c.slots ++ more) more 0 refl ∙ sym (append-nil more))

pub next_past : (ss zs : List ℕ) (c : Cache) → IsNext (ss ++ zs) c → IsNext zs (advanced (length ss) c)
next_past ss zs c (rest, e) = (rest, drop_past ss c.slots (zs ++ rest) c.next (e ∙ append_assoc ss zs rest))

pub next_front : (ss zs : List ℕ) (c : Cache) → IsNext (ss ++ zs) c → IsNext ss c
next_front ss zs c (rest, e) = (zs ++ rest, e ∙ append_assoc ss zs rest)

-- ---- the write pass

stays : (c : Cache) → c ≡ advanced 0 c
stays c = λ i. record { slots = c.slots; next = sym (add-zero c.next) i }

-- no slot is consumed
pub consumes_none : (slots : List ℕ) (c : Cache) → Consumes slots c c
consumes_none slots c = (0, omega arith, stays c)

-- of more slots no fewer
consumes_front : (s z : List ℕ) (c d : Cache) → Consumes s c d → Consumes (s ++ z) c d
consumes_front s z c d (n, few, is) = (n, omega (arith, few, length-append s z), is)

-- behind n slots that were
consumes_behind : (n : ℕ) (all z : List ℕ) (a b c : Cache) → length all ≡ n + length z → b ≡ advanced n a → Consumes z b c → Consumes all a c
consumes_behind n all z a b c whole on (m, few, is) =
    let e : (a.next + n) + m ≡ a.next + (n + m) = omega arith in
    (n + m, omega (arith, few, whole), is ∙ ap (advanced m) on ∙ (λ i. record { slots = a.slots; next = e i }))

pub written_none : (P : Type 0) (c : Cache) (b : List ℕ) → WritesIf P [] [] c b done c b
written_none P c b = ([], sym (append-nil b), (stays c, λ _. refl))

module _ (P Q R : Type 0) (t u s z : List ℕ) (c0 c1 c2 : Cache) (b0 b1 b2 : List ℕ) where
  further : c2 ≡ advanced (length z) c1 → c1 ≡ advanced (length s) c0 → c2 ≡ advanced (length (s ++ z)) c0
  further p q =
      let e : (c0.next + length s) + length z ≡ c0.next + length (s ++ z) = omega (arith, length-append s z) in
      p ∙ ap (advanced (length z)) q ∙ (λ i. record { slots = c0.slots; next = e i })

  -- one encoding after another
  pub written_then : (R → P × Q) → (r : Result (Unit {0}) EncodeError) → WritesIf P t s c0 b0 done c1 b1 → WritesIf Q u z c1 b1 r c2 b2 → WritesIf R (t ++ u) (s ++ z) c0 b0 r c2 b2
  written_then f (Ok _) (xs, p, q) (ys, v, w) = (
    xs ++ ys,
    v ∙ ap (λ (bs : List ℕ). bs ++ ys) p ∙ append_assoc b0 xs ys,
    (
      further w.0 q.0,
      λ h. ap (λ (a : List ℕ). a ++ ys) (q.1 (f h).0) ∙ ap (λ (a : List ℕ). t ++ a) (w.1 (f h).1),
    ),
  )
  written_then f (Err e) (xs, p, q) (ys, v, w) = (
    xs ++ ys,
    v ∙ ap (λ (bs : List ℕ). bs ++ ys) p ∙ append_assoc b0 xs ys,
    (
      w.0,
      λ h. (
        (w.1 (f h).1).0,
        ap (λ (a : List ℕ). t ++ a) (w.1 (f h).1).1
            ∙ ap (λ (a : List ℕ). a ++ (ys ++ (w.1 (f h).1).0)) (sym (q.1 (f h).0))
            ∙ sym (append_assoc xs ys (w.1 (f h).1).0),
        (w.1 (f h).1).2,
      ),
      consumes_behind (length s) (s ++ z) z c0 c1 c2 (length-append s z) q.0 w.2,
    ),
  )

  -- an encoding that was cut short
  pub written_short : (R → P) → (e : EncodeError) → WritesIf P t s c0 b0 (refusal e) c1 b1 → WritesIf R (t ++ u) (s ++ z) c0 b0 (refusal e) c1 b1
  written_short f e (xs, p, q) = (
    xs,
    p,
    (
      q.0,
      λ h. (
        (q.1 (f h)).0 ++ u,
        ap (λ (a : List ℕ). a ++ u) (q.1 (f h)).1 ∙ append_assoc xs (q.1 (f h)).0 u,
        omega (arith, (q.1 (f h)).2, length-append (q.1 (f h)).0 u),
      ),
      consumes_front s z c0 c1 q.2,
    ),
  )

-- an error that is passed on by `?`
pub written_err : (P : Type 0) (t s : List ℕ) (c0 c1 : Cache) (b0 b1 : List ℕ) (r : Result (Unit {0}) EncodeError) (e f : EncodeError) → r ≡ Err f → f ≡ e →
    WritesIf P t s c0 b0 (refusal e) c1 b1 → WritesIf P t s c0 b0 r c1 b1
written_err P t s c0 c1 b0 b1 r e f p q h = subst (λ r. WritesIf P t s c0 b0 r c1 b1) (sym (p ∙ ap (λ x. Err x) q)) h

-- an encoding that needs no slot
pub written_put : (P : Type 0) (t : List ℕ) (c : Cache) (b0 b1 : List ℕ) (r : Result (Unit {0}) EncodeError) → Writes r b0 t b1 → WritesIf P t [] c b0 r c b1
written_put P t c b0 b1 (Ok _) h = (t, h, (stays c, λ _. refl))
written_put P t c b0 b1 (Err e) (is, (front, rest, split, h, more)) = (front, h, (is, λ _. (rest, split, more), consumes_none [] c))

-- an encoding that is another one where the premise holds, behind a slot that was consumed
module _ (P Q : Type 0) (t u s : List ℕ) (slot : ℕ) (c0 c1 c2 : Cache) (b0 b1 : List ℕ) where
  pub written_same : (Q → P) → (Q → t ≡ u) → (r : Result (Unit {0}) EncodeError) → WritesIf P t s c0 b0 r c1 b1 → WritesIf Q u s c0 b0 r c1 b1
  written_same f g (Ok _) (xs, p, q) = (xs, p, (q.0, λ h. q.1 (f h) ∙ g h))
  written_same f g (Err e) (xs, p, q) = (xs, p, (q.0, λ h. ((q.1 (f h)).0, sym (g h) ∙ (q.1 (f h)).1, (q.1 (f h)).2), q.2))

  on_one : c1 ≡ advanced 1 c0 → c2 ≡ advanced (length s) c1 → c2 ≡ advanced (length (slot ∷ s)) c0
  on_one on p =
      let e : (c0.next + 1) + length s ≡ c0.next + suc (length s) = omega arith in
      p ∙ ap (advanced (length s)) on ∙ (λ i. record { slots = c0.slots; next = e i })

  pub written_behind : c1 ≡ advanced 1 c0 → (r : Result (Unit {0}) EncodeError) → WritesIf P t s c1 b0 r c2 b1 → WritesIf P t (slot ∷ s) c0 b0 r c2 b1
  written_behind on (Ok _) (xs, p, q) = (xs, p, (on_one on q.0, q.1))
  written_behind on (Err e) (xs, p, q) = (xs, p, (q.0, q.1, consumes_behind 1 (slot ∷ s) s c0 c1 c2 (omega arith) on q.2))

-- ---- the size pass

pub set_in : (xs ys : List ℕ) (a n : ℕ) → slice_set (xs ++ a ∷ ys) (length xs) n ≡ xs ++ n ∷ ys
set_in [] ys a n = refl
set_in (x ∷ xs) ys a n = ap (λ (zs : List ℕ). x ∷ zs) (set_in xs ys a n)

pub slots_step :
    (c0 c1 c2 c3 : Cache) (slot n : ℕ) (ss : List ℕ) →
    slot ≡ length c0.slots →
    c1 ≡ appended (0 ∷ []) c0 →
    c2 ≡ appended ss c1 →
    c3 ≡ record { slots = slice_set c2.slots slot n; next = c2.next } →
    c3 ≡ appended (n ∷ ss) c0
slots_step c0 c1 c2 c3 slot n ss p r s t =
    t ∙ (λ i. record { slots = (slots i); next = (next i) })
  where
    next : c2.next ≡ c0.next
    next = ap (λ (c : Cache). c.next) s ∙ ap (λ (c : Cache). c.next) r

    whole : c2.slots ≡ c0.slots ++ 0 ∷ ss
    whole = ap (λ (c : Cache). c.slots) s ∙ ap (λ (c : Cache). c.slots ++ ss) r ∙ append_assoc c0.slots (0 ∷ []) ss

    slots : slice_set c2.slots slot n ≡ c0.slots ++ n ∷ ss
    slots = (λ i. slice_set (whole i) (p i) n) ∙ set_in c0.slots ss 0 n

pub appended_twice : (more rest : List ℕ) (c d : Cache) → d ≡ appended more c → appended rest d ≡ appended (more ++ rest) c
appended_twice more rest c d e =
    ap (appended rest) e ∙ (λ i. record { slots = append_assoc c.slots more rest i; next = c.next })

pub appended_none : (c : Cache) → appended [] c ≡ c
appended_none c = λ i. record { slots = append-nil c.slots i; next = c.next }

pub longer_twice : (more : List ℕ) (b c d : Cache) → IsLonger b c → d ≡ appended more c → IsLonger b d
longer_twice more b c d (xs, h) e = (xs ++ more, e ∙ ap (appended more) h ∙ appended_twice xs more b (appended xs b) refl)

pub longer_through : (a b c d : Cache) → IsLonger a b → c ≡ appended (0 ∷ []) b → IsLonger c d → IsLonger a d
longer_through a b c d h r (xs, e) = longer_twice xs a c d (longer_twice (0 ∷ []) a b c h r) e

pub set_ok :
    (c0 c1 c2 : Cache) (slot : ℕ) (ss : List ℕ) →
    slot ≡ length c0.slots →
    c1 ≡ appended (0 ∷ []) c0 →
    c2 ≡ appended ss c1 →
    slot < length c2.slots
set_ok c0 c1 c2 slot ss p r s =
    omega (arith, p, ap (λ (c : Cache). length c.slots) s, ap (λ (c : Cache). length c.slots) r, length-append c1.slots ss, length-append c0.slots (0 ∷ []))
