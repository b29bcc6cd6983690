-- The bytes of a delimited value, given to a function.
use Rattle.std.proofs.Common.{◌≡◌, ◌≢◌, ◌∙◌, subst, inl, inr, ℕ, List, [], drop, Result, Ok, Err, refl, sym, ap}
use denote.Param.Members.{Mut}
use denote.Ref.{Bor}
use Rattle.std.specs.Fn.{Called, CalledAt}
use Rattle.std.specs.Prelude.{IsOk}
use Rattle.buffa_bytes.specs.declared.error.DecodeError.{DecodeError}
use Rattle.buffa_bytes.specs.declared.error.DecodeError.TheVariants.{OutOfMemory}
use Rattle.buffa_bytes.specs.Readings.{varint_at, taken, delimited_at, FullOnlyIf}
use Rattle.buffa_bytes.specs.Unread.{IsFrontOf}
use Rattle.buffa_bytes.specs.Delimited.{Lends}
use Rattle.buffa_bytes.proofs.DelimitedLemmas.{after_length}
use Rattle.buffa_bytes.proofs.FullLemmas.{delimited_full}
use Rattle.buffa_bytes.proofs.OwnLemmas.{front_taken, none_taken}

-- a length, and so many bytes at the front of what follows it
pub delimited_front : (n : ℕ) (bs mid part : List ℕ) → varint_at bs ≡ Ok (n, mid) → IsFrontOf part n mid → delimited_at bs ≡ Ok (part, drop n mid)
delimited_front n bs mid part v f = after_length n bs mid v ∙ front_taken n part mid f

module _ {F T : Type 0} (g : Mut F (Bor (List ℕ) × Unit {0}) (Result T DecodeError)) where
  -- they lie at the front
  pub lends_front : (f f' : F) (r : Result T DecodeError) (x : Bor (List ℕ)) (n : ℕ) (bs mid left : List ℕ) → varint_at bs ≡ Ok (n, mid) → IsFrontOf x.now n mid → left ≡ drop n mid → Called g f (x, tt) r f' →
      Lends g f (delimited_at bs) r f' left
  lends_front f f' r x n bs mid left v at is c = rw (delimited_front n bs mid x.now v at) (inl (record { shown = x; shows = refl; called = c }, is))

  -- memory ran out before they were put together
  lends_full : (f : F) (r : Result T DecodeError) (n : ℕ) (bs mid left : List ℕ) (t : Result (List ℕ × List ℕ) DecodeError) → r ≡ Err OutOfMemory → delimited_at bs ≡ t → varint_at bs ≡ Ok (n, mid) → IsOk t → n ≢ 0 →
      Lends g f t r f left
  lends_full f r n bs mid left (Ok p) is at v ok some = inr (is, refl, λ none. some (none_taken n bs mid p.1 v (at ∙ ap (λ z. Ok (z, p.1)) none)))
  lends_full f r n bs mid left (Err e) is at v ok some = absurd (let o = ok in cc)

  -- none are there, or memory ran out
  pub lends_refused : (f : F) (r : Result T DecodeError) (n : ℕ) (bs mid left : List ℕ) (d e : DecodeError) → r ≡ Err d → d ≡ e → varint_at bs ≡ Ok (n, mid) → (e ≢ OutOfMemory → taken n mid ≡ Err e) →
      (e ≡ OutOfMemory → IsOk (taken n mid)) → n ≢ 0 → Lends g f (delimited_at bs) r f left
  lends_refused f r n bs mid left d OutOfMemory is same v why full some =
      let at = after_length n bs mid v in rw at (lends_full f r n bs mid left (taken n mid) (is ∙ ap (λ z. Err z) same) at v (full refl) some)
  lends_refused f r n bs mid left d _ is same v why full some = rw (after_length n bs mid v, why (λ q. cc)) (is ∙ ap (λ z. Err z) same, refl)

  -- memory ran out only where so many bytes were there
  lent_whole : (f f' : F) (r : Result T DecodeError) (bs left : List ℕ) (t : Result (List ℕ × List ℕ) DecodeError) → delimited_at bs ≡ t → Lends g f t r f' left → r ≡ Err OutOfMemory → IsOk (delimited_at bs)
  lent_whole f f' r bs left (Ok p) is h full = rw is refl
  lent_whole f f' r bs left (Err e) is h full = absurd (delimited_full bs (let q = sym h.0 ∙ full in cc))

  pub lent_full : (f f' : F) (r : Result T DecodeError) (bs left : List ℕ) → Lends g f (delimited_at bs) r f' left → FullOnlyIf r (IsOk (delimited_at bs))
  lent_full f f' (Ok x) bs left h = tt
  lent_full f f' (Err e) bs left h = λ full. lent_whole f f' (Err e) bs left (delimited_at bs) refl h (ap (λ z. Err z) full)

  -- for no bytes memory is not asked
  pub lent_none : (f f' : F) (r : Result T DecodeError) (t : Result (List ℕ × List ℕ) DecodeError) (rest left : List ℕ) → Lends g f t r f' left → (CalledAt g f [] r f' → IsOk r) → t ≡ Ok ([], rest) → IsOk r
  lent_none f f' r t rest left h given is = elim (subst (λ z. Lends g f z r f' left) is h) [ inl c ↦ given c.0 | inr n ↦ absurd (n.2 refl) ]
