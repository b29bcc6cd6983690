-- What is proved of fields of one value that are taken, or refused.
use Rattle.std.proofs.Common.{◌≡◌, ◌≢◌, inl, inr, ℕ, Bool, true, false, List, [], ◌∷◌, ◌++◌, None, Result, Ok, Err, IsOk, refl, sym, ap, subst, ◌∙◌, arith, append-nil}
use Rattle.buffa_bytes.proofs.FieldLemmas.{same_refl, same_false}
use Rattle.buffa_bytes.proofs.StepLemmas.{agree_err, agree_ok}
use Rattle.buffa_bytes.specs.PayloadValue.{PayloadValue, HasPayloadValue, payload_value_at}
use Rattle.buffa_bytes.specs.Field.{Payload}
use Rattle.buffa_bytes.specs.Readings.{check_wire, same_wire}
use Rattle.buffa_bytes.specs.declared.error.DecodeError.{DecodeError}
use Rattle.buffa_bytes.specs.declared.error.DecodeError.TheVariants.{OutOfMemory, WireTypeMismatch}
use Rattle.buffa_bytes.specs.declared.wire_type.WireType.{WireType}
use Rattle.buffa_bytes.proofs.WireLemmas.{checked_other}
use Rattle.buffa_map.proofs.EntryLemmas.{value_complete, value_sound}
use Rattle.buffa_map.specs.Codec.{Reading, RefusesValue, Spends, Tells, ValueFault, value_at}
use Rattle.buffa_wire.proofs.KeepLemmas.{payload_value_no_limit}
use Rattle.buffa_wire.proofs.MessageLemmas.{NoLimit, as_no_limit}
use Rattle.buffa_wire.proofs.SpentLemmas.{PaysAtMost_nothing}
use Rattle.buffa_wire.specs.BudgetLeft.{BudgetLeft, nothing, IsLimit}
use Rattle.buffa_wire.specs.Takes.{IsTaken, Charge, Taker, Untaken}
use Rattle.buffa_fields.specs.facts.ValueFacts.{payload_value_payload, open_level}
use Rattle.buffa_fields.specs.Values.{all_of, field_value_at, free, value_taken}

-- ---- a field is refused before anything is spent for it, where no payload would be taken
module _ {X : Type 0} (takes : Taker X) (charge : Charge) (d n : ℕ) (w : WireType) (old new : X) (bs rest : List ℕ) (before after : BudgetLeft) (e : DecodeError) where
  pub refused_free : (f : DecodeError) → e ≡ f → NoLimit f → f ≢ OutOfMemory → after ≡ before → Untaken takes d old n w bs →
      IsTaken takes charge d old n w bs before (let r : Result (Unit {0}) DecodeError = Err e in r) new after rest
  refused_free f is unlimited some kept none = (PaysAtMost_nothing before after (charge d n w bs) kept, λ ne. inr (none, as_no_limit e f is unlimited), λ full end. some (sym is ∙ full))

  -- it is of another wire type
  pub wire_refused : (WIRE : WireType) → check_wire n WIRE w ≡ Err e → after ≡ before → (w ≢ WIRE → (p : List ℕ) → takes d old n w p ≡ None) →
      IsTaken takes charge d old n w bs before (let r : Result (Unit {0}) DecodeError = Err e in r) new after rest
  wire_refused WIRE reported kept none =
      let other = checked_other n WIRE w e reported in
      refused_free (WireTypeMismatch n WIRE w) other.1 (λ l. l) (λ full. cc) kept (λ p more payload split. none other.0 p)

module _ {V : Type 0} (codec : Reading V) (plain : codec.nested ≡ false)
    (no_limit : (d : ℕ) (old : V) (c : PayloadValue) (x : DecodeError) → codec.reads d old c ≡ Err x → IsLimit x → ⊥)
    (d : ℕ) (v : V) (n : ℕ) (w : WireType) (bs : List ℕ) (before : BudgetLeft) where
  -- ---- a payload is taken
  all_is : (p p1 : List ℕ) (c : PayloadValue) (x : V × Bool) → HasPayloadValue codec.wire p1 c → codec.reads d v c ≡ Ok x → p ≡ p1 → value_at codec d v p ≡ Ok (x, [])
  all_is p p1 c x h r e = ap (value_at codec d v) (e ∙ sym (append-nil p1)) ∙ value_complete codec d v p1 [] c x (open_level codec d plain) h r

  pub value_ok : (x : V) (known : Bool) (rest : List ℕ) (after : BudgetLeft) → w ≡ codec.wire → after ≡ before → value_at codec d v bs ≡ Ok ((x, known), rest) →
      IsTaken (value_taken codec) free d v n w bs before (let r : Result (Unit {0}) DecodeError = Ok tt in r) x after rest
  value_ok x known rest after wire kept h =
      let u = agree_ok (value_at codec d v bs) ((x, known), rest) (value_sound codec d v bs) h in
      let same : same_wire codec.wire w ≡ true = ap (same_wire codec.wire) wire ∙ same_refl codec.wire in
      let is : value_at codec d v u.1 ≡ Ok ((x, known), []) = all_is u.1 u.1 u.2 (x, known) u.3 u.4 refl in
      let b = ap (λ (z : BudgetLeft). z.unknown) kept in
      let m = ap (λ (z : BudgetLeft). z.memory) kept in
      (u.1, subst (λ z. Payload d n z u.1) (sym wire) (payload_value_payload d n codec.wire u.1 u.2 u.3), u.5, rw (same, is) refl, (omega (arith, b), omega (arith, m)))

  -- ---- or refused
  pub wire_err : (e : DecodeError) → check_wire n codec.wire w ≡ Err e → IsTaken (value_taken codec) free d v n w bs before (let r : Result (Unit {0}) DecodeError = Err e in r) v before bs
  wire_err e reported = wire_refused (value_taken codec) free d n w v v bs bs before before e codec.wire reported refl (λ other p. rw (same_false codec.wire w other) refl)

  pub none_of : (e : DecodeError) (p more : List ℕ) → bs ≡ p ++ more → value_at codec d v bs ≡ Err e → (r : Result ((V × Bool) × List ℕ) DecodeError) → value_at codec d v p ≡ r → all_of r ≡ None
  none_of e p more split h (Ok (x, [])) is =
      let u = agree_ok (value_at codec d v p) (x, []) (value_sound codec d v p) is in
      let again : value_at codec d v (p ++ more) ≡ Ok (x, more) = ap (λ (z : List ℕ). value_at codec d v (z ++ more)) (u.5 ∙ append-nil u.1) ∙ value_complete codec d v u.1 more u.2 x (open_level codec d plain) u.3 u.4 in
      let bad = sym again ∙ ap (value_at codec d v) (sym split) ∙ h in cc
  none_of e p more split h (Ok (x, b ∷ r)) is = refl
  none_of e p more split h (Err f) is = refl

  pub fault_no_limit : (e : DecodeError) → ValueFault codec d v bs e → NoLimit e
  fault_no_limit e (inl h) = let k = open_level codec d plain in cc
  fault_no_limit e (inr (inl (o, h))) = payload_value_no_limit codec.wire bs e h
  fault_no_limit e (inr (inr (o, c, rest, x, t, h, tells))) = as_no_limit e x (plainly codec.nested plain tells) (no_limit d v c x h)
    where
      plainly : (b : Bool) → b ≡ false → Tells b x e → e ≡ x
      plainly false k t = t
      plainly true k t = cc

  pub value_err : (e : DecodeError) (x : V) (rest : List ℕ) (after : BudgetLeft) → w ≡ codec.wire → after ≡ before → (e ≢ OutOfMemory → value_at codec d v bs ≡ Err e) → (e ≡ OutOfMemory → IsOk (payload_value_at codec.wire bs)) →
      IsTaken (value_taken codec) free d v n w bs before (let r : Result (Unit {0}) DecodeError = Err e in r) x after rest
  value_err e x rest after wire kept h full = (
    PaysAtMost_nothing before after nothing kept,
    λ ne. inr (
      (λ p more payload split. rw (ap (same_wire codec.wire) wire ∙ same_refl codec.wire) (none_of e p more split (h ne) (value_at codec d v p) refl)),
      fault_no_limit e (agree_err (value_at codec d v bs) e (value_sound codec d v bs) (h ne)),
    ),
    λ no end. let there = subst (λ z. IsOk (payload_value_at z bs)) (sym wire ∙ end) (full no) in cc,
  )

-- ---- a refused field
module _ {V : Type 0} (codec : Reading V) (d : ℕ) (v : V) (n : ℕ) (w : WireType) (bs : List ℕ) where
  pub wire_reported : (e : DecodeError) → check_wire n codec.wire w ≡ Err e → field_value_at codec d v n w bs ≡ Err e
  wire_reported e h = rw h refl

  pub value_reported : (e : DecodeError) → check_wire n codec.wire w ≡ Ok tt → value_at codec d v bs ≡ Err e → field_value_at codec d v n w bs ≡ Err e
  value_reported e h k = rw (h, k) refl

pub kept_by : {T : Type 0} (b : Bool) (r : Result T DecodeError) (left charge over : BudgetLeft) → b ≡ false → Spends b r left charge over → over ≡ left
kept_by false r left charge over h s = s
kept_by true r left charge over h s = cc

pub refused_plain : {V : Type 0} (b : Bool) (codec : Reading V) (d : ℕ) (old : V) (bs : List ℕ) (left : BudgetLeft) (e : DecodeError) → b ≡ false → RefusesValue b codec d old bs left e → value_at codec d old bs ≡ Err e
refused_plain false codec d old bs left e h r = r
refused_plain true codec d old bs left e h r = cc
