-- What a message owes follows from what each of its fields does.
use Rattle.std.proofs.Common.{◌≡◌, ◌⊎◌, inl, inr, ℕ, ◌<◌, List, [], ◌∷◌, ◌++◌, length, Some, None, Result, Ok, Err, refl, sym, ap, subst, ◌∙◌, arith, append_assoc, append-nil, length-append}
use Rattle.std.specs.Option.{option_and_then}
use Rattle.buffa_bytes.specs.Field.{IsTag, Payload, SomeField}
use Rattle.buffa_bytes.specs.Join.{Join}
use Rattle.buffa_bytes.specs.Join.Join.{none, more}
use Rattle.buffa_bytes.specs.Readings.{tag_at, ◌>>=◌, Gives}
use Rattle.buffa_wire.specs.BudgetLeft.{BudgetLeft, nothing}
use Rattle.buffa_wire.specs.Message.{IsFieldMerged, IsJudged}
use Rattle.buffa_bytes.specs.declared.wire_type.WireType.{WireType}
use Rattle.buffa_bytes.specs.declared.error.DecodeError.{DecodeError}
use Rattle.buffa_bytes.proofs.StepLemmas.{Agrees, agree_bind, agree_err, agree_ok, agree_weaker}
use Rattle.buffa_bytes.proofs.FieldLemmas.{tag_complete, tag_some, tag_sound}
use Rattle.buffa_wire.proofs.MessageLemmas.{NoLimit, tag_no_limit}
use Rattle.buffa_bytes.specs.Scan.{parse_all}
use Rattle.buffa_bytes.proofs.SequenceLemmas.{Falls, along_err, along_none, along_ok, ok_same, parse_leads}
use Rattle.buffa_wire.specs.ByField.{FieldReader, merged_by, next_at, value_of}

pub some_of : {A : Type 0} (r : Result A DecodeError) (w : A) → value_of r ≡ Some w → r ≡ Ok w
some_of (Ok x) w h = cc
some_of (Err e) w h = cc

-- ---- what one field owes
-- its reading takes a payload of the grammar, or tells a fault that is none of a budget's
abbrev pub IsSound : {X : Type 0} → ℕ → FieldReader X → Type 0
IsSound {X} d field = (v : X) (n : ℕ) (w : WireType) (bs : List ℕ) → Agrees (field v n w bs) (λ x. (p : List ℕ) × Payload d n w p × (bs ≡ p ++ x.1)) NoLimit

-- a payload is read the same whatever follows it
abbrev pub Same : {X : Type 0} → (List ℕ → Result (X × List ℕ) DecodeError) → List ℕ → Type 0
Same {X} read p = ((u : X) × ((x : List ℕ) → read (p ++ x) ≡ Ok (u, x))) ⊎ ((e : DecodeError) × ((x : List ℕ) → read (p ++ x) ≡ Err e))

abbrev pub IsSame : {X : Type 0} → ℕ → FieldReader X → Type 0
IsSame {X} d field = (v : X) (n : ℕ) (w : WireType) (p : List ℕ) → Payload d n w p → Same (field v n w) p

-- ---- what the message then owes
module _ {X : Type 0} (d : ℕ) (field : FieldReader X) (sound : IsSound d field) (same : IsSame d field) where
  next_sound : (v : X) (bs : List ℕ) → Agrees (next_at field v bs) (λ x. (f : List ℕ) × SomeField d f × (bs ≡ f ++ x.1) × (0 < length f)) NoLimit
  next_sound v bs = agree_bind (tag_sound bs)
      (λ t u. agree_weaker (sound v t.0 t.1 t.2) (λ x p. (
        u.0 ++ p.0,
        (t.0, t.1, (u.0, p.0, u.1, p.1, refl)),
        u.2 ∙ ap (λ z. u.0 ++ z) p.2 ∙ sym (append_assoc u.0 p.0 x.1),
        omega (arith, tag_some u.0 t.0 t.1 u.1, length-append u.0 p.0),
      )) (λ e h. h))
      (λ e h. tag_no_limit bs e h)

  falls : Falls (next_at field)
  falls v bs x h = let u = agree_ok (next_at field v bs) x (next_sound v bs) h in omega (arith, u.3, ap length u.2, length-append u.0 x.1)

  -- what is merged is a join of fields
  pub fields : (v w : X) (b : List ℕ) → merged_by field v b ≡ Some w → Join (SomeField d) b
  fields v w b h = parse_leads (next_at field) (λ _ bs r. (u : X) → r ≡ Ok u → Join (SomeField d) bs)
      (λ v u is. none) (λ v b bs e is u bad. cc)
      (λ v b bs x r is again u end. let p = agree_ok (next_at field v (b ∷ bs)) x (next_sound v (b ∷ bs)) is in subst (λ z. Join (SomeField d) z) (sym p.2) (more p.0 x.1 p.1 (again u end)))
      falls v b w (some_of (parse_all (next_at field) v b) w h)

  -- no bytes change nothing
  pub empty : (v : X) → merged_by field v [] ≡ Some v
  empty v = ap value_of (along_none (next_at field) falls v)

  module _ (v : X) (n : ℕ) (w : WireType) (t : List ℕ) (tag : IsTag t n w) where
    here : (bs : List ℕ) → next_at field v (t ++ bs) ≡ field v n w bs
    here bs = rw (tag_complete t n w bs tag) refl

    some : (bs : List ℕ) → 0 < length (t ++ bs)
    some bs = omega (arith, tag_some t n w tag, length-append t bs)

    -- a field is merged, and then what follows it
    pub read : (u : X) (bs rest : List ℕ) → field v n w bs ≡ Ok (u, rest) → merged_by field v (t ++ bs) ≡ merged_by field u rest
    read u bs rest h = ap value_of (along_ok (next_at field) falls v u (t ++ bs) rest (some bs) (here bs ∙ h))

    -- a field is refused, and so is all
    pub refused : (bs : List ℕ) (e : DecodeError) → field v n w bs ≡ Err e → merged_by field v (t ++ bs) ≡ None
    refused bs e h = ap value_of (along_err (next_at field) falls v (t ++ bs) e (some bs) (here bs ∙ h))

    refused_by : (bs rest p : List ℕ) (e : DecodeError) → field v n w bs ≡ Err e → bs ≡ p ++ rest → Same (field v n w) p → merged_by field v (t ++ p) ≡ None
    refused_by bs rest p e h is (inl (u, k)) = let bad = sym (k rest) ∙ ap (field v n w) (sym is) ∙ h in cc
    refused_by bs rest p e h is (inr (f, k)) = ap (λ z. merged_by field v (t ++ z)) (sym (append-nil p)) ∙ refused (p ++ []) f (k [])

    -- a field is refused, and so is what a refusal speaks of
    pub judged : (bs p : List ℕ) (e : DecodeError) → field v n w bs ≡ Err e → IsJudged d n w bs p → merged_by field v (t ++ p) ≡ None
    judged bs p e h (inl (rest, payload, is)) = refused_by bs rest p e h is (same v n w p payload)
    judged bs p e h (inr (is, off)) = ap (λ z. merged_by field v (t ++ z)) is ∙ refused bs e h

    -- a field alone
    pub read_last : (u : X) (p : List ℕ) → field v n w (p ++ []) ≡ Ok (u, []) → merged_by field v (t ++ p) ≡ Some u
    read_last u p h = ap (λ z. merged_by field v (t ++ z)) (sym (append-nil p)) ∙ read u (p ++ []) [] h ∙ empty u

    then_rest : (p r : List ℕ) → Same (field v n w) p → merged_by field v (t ++ (p ++ r)) ≡ option_and_then (λ u. merged_by field u r) (merged_by field v (t ++ p))
    then_rest p r (inl (u, k)) = read u (p ++ r) r (k r) ∙ sym (ap (option_and_then (λ z. merged_by field z r)) (read_last u p (k [])))
    then_rest p r (inr (e, k)) =
        let alone : merged_by field v (t ++ p) ≡ None = ap (λ z. merged_by field v (t ++ z)) (sym (append-nil p)) ∙ refused (p ++ []) e (k []) in
        refused (p ++ r) e (k r) ∙ sym (ap (option_and_then (λ z. merged_by field z r)) alone)

    taken_by : (u : X) (bs rest p : List ℕ) → field v n w bs ≡ Ok (u, rest) → bs ≡ p ++ rest → Same (field v n w) p → merged_by field v (t ++ p) ≡ Some u
    taken_by u bs rest p h is (inl (x, k)) =
        let both : (let r : Result (X × List ℕ) DecodeError = Ok (x, rest) in r ≡ Ok (u, rest)) = sym (k rest) ∙ ap (field v n w) (sym is) ∙ h in
        let first : x ≡ u = ap (λ z. z.0) (ok_same both) in
        read_last x p (k []) ∙ ap (λ z. Some z) first
    taken_by u bs rest p h is (inr (e, k)) = let bad = sym (k rest) ∙ ap (field v n w) (sym is) ∙ h in cc

  -- a field, and what follows it
  pub next : (v : X) (f r : List ℕ) → SomeField d f → merged_by field v (f ++ r) ≡ option_and_then (λ w. merged_by field w r) (merged_by field v f)
  next v f r (n, w, (t, p, tag, payload, is)) =
      ap (merged_by field v) (ap (λ z. z ++ r) is ∙ append_assoc t p r) ∙ then_rest v n w t tag p r (same v n w p payload)
      ∙ sym (ap (λ z. option_and_then (λ u. merged_by field u r) (merged_by field v z)) is)

  -- one field, whose tag was read, is taken
  pub taken : (v u : X) (n : ℕ) (w : WireType) (bs rest : List ℕ) → field v n w bs ≡ Ok (u, rest) →
      (p : List ℕ) × Payload d n w p × (bs ≡ p ++ rest) × ((t : List ℕ) → IsTag t n w → merged_by field v (t ++ p) ≡ Some u)
  taken v u n w bs rest h =
      let q = agree_ok (field v n w bs) (u, rest) (sound v n w bs) h in
      (q.0, q.1, q.2, λ t tag. taken_by v n w t tag u bs rest q.0 h q.2 (same v n w q.0 q.1))

  -- where messages cost nothing
  pub free : (r : Result (Unit {0}) DecodeError) (old new : X) (n : ℕ) (w : WireType) (bs rest : List ℕ) (left : BudgetLeft) → Gives (λ _. (new, rest)) r (field old n w bs) →
      IsFieldMerged (λ _. merged_by field) (λ _ _. nothing) d old n w bs left r new left rest
  free (Ok x) old new n w bs rest left h = let q = taken old new n w bs rest h in (q.0, q.1, q.2, λ t tag. (q.3 t tag, (omega arith, omega arith)))
  free (Err e) old new n w bs rest left h =
      λ t p tag j. ((omega arith, omega arith, omega arith, omega arith), λ ne. inr (judged old n w t tag bs p e h j, agree_err (field old n w bs) e (sound old n w bs) h))

-- ---- two readers that make the same of each field make the same of all
module _ {X : Type 0} (d : ℕ) (f g : FieldReader X) (f_sound : IsSound d f) (f_same : IsSame d f) (g_sound : IsSound d g) (g_same : IsSame d g)
    (alike : (v : X) (n : ℕ) (w : WireType) (bs : List ℕ) → value_of (f v n w bs) ≡ value_of (g v n w bs)) where
  next_alike : (v : X) (r : Result (ℕ × WireType × List ℕ) DecodeError) → value_of (r >>= (λ t. f v t.0 t.1 t.2)) ≡ value_of (r >>= (λ t. g v t.0 t.1 t.2))
  next_alike v (Ok t) = alike v t.0 t.1 t.2
  next_alike v (Err e) = refl

  ends_alike : (v : X) (bs : List ℕ) → 0 < length bs → (r : Result (X × List ℕ) DecodeError) → next_at g v bs ≡ r → value_of r ≡ None → merged_by g v bs ≡ None
  ends_alike v bs some (Ok x) is h = cc
  ends_alike v bs some (Err e) is h = ap value_of (along_err (next_at g) (falls d g g_sound g_same) v bs e some is)

  pub merged_alike : (v : X) (bs : List ℕ) → merged_by f v bs ≡ merged_by g v bs
  merged_alike v bs = parse_leads (next_at f) (λ v bs r. value_of r ≡ merged_by g v bs)
      (λ v. sym (empty d g g_sound g_same v))
      (λ v b bs e is. sym (ends_alike v (b ∷ bs) (omega arith) (next_at g v (b ∷ bs)) refl (sym (next_alike v (tag_at (b ∷ bs))) ∙ ap value_of is)))
      (λ v b bs x r is q.
      let there : next_at g v (b ∷ bs) ≡ Ok (x.0, x.1) = some_of (next_at g v (b ∷ bs)) x (sym (next_alike v (tag_at (b ∷ bs))) ∙ ap value_of is) in
      q ∙ sym (ap value_of (along_ok (next_at g) (falls d g g_sound g_same) v x.0 (b ∷ bs) x.1 (omega arith) there)))
      (falls d f f_sound f_same) v bs
