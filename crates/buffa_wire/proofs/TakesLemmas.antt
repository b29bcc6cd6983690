-- What is proved of any fields, taken payload by payload.
use Rattle.std.proofs.Common.{◌≡◌, ◌≢◌, inl, inr, ℕ, ◌-◌, Bool, List, [], ◌∷◌, ◌++◌, length, take, Option, Some, None, Result, Ok, Err, refl, sym, ap, subst, ◌∙◌, arith, append_assoc, append-nil, length-append}
use Rattle.std.specs.Option.{option_and_then, option_map}
use Rattle.std.proofs.Math.Seq.{take-append_seam}
use Rattle.buffa_bytes.proofs.FieldLemmas.{payload_complete, payload_sound}
use Rattle.buffa_bytes.proofs.FullLemmas.{payload_full}
use Rattle.buffa_bytes.proofs.StepLemmas.{Agrees, agree_bind, agree_err, agree_ok}
use Rattle.buffa_bytes.specs.declared.wire_type.WireType.{WireType}
use Rattle.buffa_bytes.specs.declared.wire_type.WireType.TheVariants.{EndGroup}
use Rattle.buffa_bytes.specs.declared.error.DecodeError.{DecodeError}
use Rattle.buffa_bytes.specs.declared.error.DecodeError.TheVariants.{UnexpectedEof}
use Rattle.buffa_wire.proofs.MessageLemmas.{NoLimit, payload_no_limit}
use Rattle.buffa_wire.specs.BudgetLeft.{BudgetLeft, nothing, plus}
use Rattle.buffa_bytes.specs.Field.{IsTag, Payload, PayloadFault, SomeField}
use Rattle.buffa_bytes.specs.Join.{Join}
use Rattle.buffa_wire.specs.Message.{IsFieldMerged}
use Rattle.buffa_bytes.specs.Readings.{skip_at, tag_at, FullOnlyIf, Gives}
use Rattle.buffa_wire.proofs.CostLemmas.{IsPaid, cost_empty, cost_free, cost_next as costs_next, cost_no_payload, cost_no_tag, field_alone, paid}
use Rattle.buffa_wire.proofs.ByFieldLemmas.{IsSame, IsSound, Same, empty, fields, merged_alike, next, read, read_last, refused}
use Rattle.buffa_wire.specs.ByField.{FieldCharge, FieldReader, cost_by, merged_by, value_of}
use Rattle.buffa_wire.specs.Takes.{IsTaken, Leads, Charge, Piece, ReadsBack, Stays, Taker, Untaken, answer, cost_of, costs_nothing, framed, front_of, joined_fields, merged_of, taken_by}

-- ---- the payload is cut
front_is : (p x : List ℕ) → front_of (p ++ x) x ≡ p
front_is p x =
    let e : length (p ++ x) - length x ≡ length p = omega (arith, length-append p x) in
    ap (λ (k : ℕ). take k (p ++ x)) e ∙ take-append_seam p x

module _ {X : Type 0} (takes : Taker X) (d : ℕ) where
  -- a whole payload at the front
  pub framed_at : (v : X) (n : ℕ) (w : WireType) (p x : List ℕ) → Payload d n w p → framed takes d v n w (p ++ x) ≡ answer x (takes d v n w p)
  framed_at v n w p x h = rw (payload_complete d n w p x h) (ap (λ (z : List ℕ). answer x (takes d v n w z)) (front_is p x))

  answered : (v : X) (n : ℕ) (w : WireType) (bs p rest : List ℕ) → Payload d n w p → bs ≡ p ++ rest → (o : Option X) →
      Agrees (answer rest o) (λ x. (p : List ℕ) × Payload d n w p × (bs ≡ p ++ x.1)) NoLimit
  answered v n w bs p rest h e (Some x) = record { holds = (p, h, e) }
  answered v n w bs p rest h e None = record { holds = λ l. l }

  pub framed_sound : IsSound d (framed takes d)
  framed_sound v n w bs = agree_bind (payload_sound d n w bs)
      (λ rest u. answered v n w bs u.0 rest u.1 u.2 (takes d v n w (front_of bs rest)))
      (λ e h. payload_no_limit d n w bs e h)

  same_of : (v : X) (n : ℕ) (w : WireType) (p : List ℕ) (o : Option X) → takes d v n w p ≡ o → Payload d n w p → Same (framed takes d v n w) p
  same_of v n w p (Some u) e h = inl (u, λ x. framed_at v n w p x h ∙ ap (answer x) e)
  same_of v n w p None e h = inr (UnexpectedEof, λ x. framed_at v n w p x h ∙ ap (answer x) e)

  pub framed_same : IsSame d (framed takes d)
  framed_same v n w p h = same_of v n w p (takes d v n w p) refl h

  -- ---- what the message owes
  pub merged_of_none : (v : X) → merged_of takes d v [] ≡ Some v
  unfolding merged_of
  merged_of_none v = empty d (framed takes d) framed_sound framed_same v

  pub merged_of_fields : (v w : X) (b : List ℕ) → merged_of takes d v b ≡ Some w → Join (SomeField d) b
  unfolding merged_of
  merged_of_fields v w b h = fields d (framed takes d) framed_sound framed_same v w b h

  pub merged_of_next : (v : X) (f r : List ℕ) → SomeField d f → merged_of takes d v (f ++ r) ≡ option_and_then (λ w. merged_of takes d w r) (merged_of takes d v f)
  unfolding merged_of
  merged_of_next v f r h = next d (framed takes d) framed_sound framed_same v f r h

  -- one field is what its payload makes of the value
  one_of : (v : X) (n : ℕ) (w : WireType) (t p : List ℕ) → IsTag t n w → Payload d n w p → (o : Option X) → takes d v n w p ≡ o → merged_by (framed takes d) v (t ++ p) ≡ o
  one_of v n w t p tag h (Some u) e = read_last d (framed takes d) framed_sound framed_same v n w t tag u p (framed_at v n w p [] h ∙ ap (answer []) e)
  one_of v n w t p tag h None e =
      ap (λ z. merged_by (framed takes d) v (t ++ z)) (sym (append-nil p))
      ∙ refused d (framed takes d) framed_sound framed_same v n w t tag (p ++ []) UnexpectedEof (framed_at v n w p [] h ∙ ap (answer []) e)

  pub merged_of_one : (v : X) (n : ℕ) (w : WireType) (t p : List ℕ) → IsTag t n w → Payload d n w p → merged_of takes d v (t ++ p) ≡ takes d v n w p
  unfolding merged_of
  merged_of_one v n w t p tag h = one_of v n w t p tag h (takes d v n w p) refl

  -- ---- what a call owes
  pub framed_err : (v : X) (n : ℕ) (w : WireType) (bs : List ℕ) (e : DecodeError) → NoLimit e → Untaken takes d v n w bs →
      (r : Result (List ℕ) DecodeError) → skip_at d n w bs ≡ r → (x : DecodeError) × (framed takes d v n w bs ≡ Err x) × NoLimit e
  framed_err v n w bs e k h (Err x) is = (x, rw is refl, k)
  framed_err v n w bs e k h (Ok rest) is =
      let u = agree_ok (skip_at d n w bs) rest (payload_sound d n w bs) is in
      (UnexpectedEof, ap (framed takes d v n w) u.2 ∙ framed_at v n w u.0 rest u.1 ∙ ap (answer rest) (h u.0 rest u.1 u.2), k)

  module _ (charge : Charge) (stays : Stays charge) where
    paid_of : (r : Result (Unit {0}) DecodeError) (old new : X) (n : ℕ) (w : WireType) (bs rest : List ℕ) (before after : BudgetLeft) →
        IsTaken takes charge d old n w bs before r new after rest → IsPaid (charge d) d (stays d) (framed takes d) framed_sound framed_same r old new n w bs rest before after
    paid_of (Ok x) old new n w bs rest before after (p, h, e, t, k) = (ap (framed takes d old n w) e ∙ framed_at old n w p rest h ∙ ap (answer rest) t, k)
    paid_of (Err e) old new n w bs rest before after (k, h, full) = (
      k,
      λ ne. elim (h ne) [
        | inl few ↦ inl few
        | inr bad ↦ inr (let u = framed_err old n w bs e bad.1 bad.0 (skip_at d n w bs) refl in u)
      ],
    )

    pub taken_merges : (r : Result (Unit {0}) DecodeError) (old new : X) (n : ℕ) (w : WireType) (bs rest : List ℕ) (before after : BudgetLeft) →
        IsTaken takes charge d old n w bs before r new after rest → IsFieldMerged (merged_of takes) (cost_of charge) d old n w bs before r new after rest
    unfolding merged_of cost_of
    taken_merges r old new n w bs rest before after h =
        paid (charge d) d (stays d) (framed takes d) framed_sound framed_same r old new n w bs rest before after (paid_of r old new n w bs rest before after h)

pub cost_of_none : (charge : Charge) (d : ℕ) → cost_of charge d [] ≡ nothing
unfolding cost_of
cost_of_none charge d = cost_empty (charge d) d

pub cost_of_no_tag : (charge : Charge) (d : ℕ) (bs : List ℕ) (e : DecodeError) → tag_at bs ≡ Err e → cost_of charge d bs ≡ nothing
unfolding cost_of
cost_of_no_tag charge d bs e h = cost_no_tag (charge d) d bs e h

pub cost_of_no_payload : (charge : Charge) (d : ℕ) (t bs : List ℕ) (n : ℕ) (w : WireType) (e : DecodeError) → IsTag t n w → PayloadFault d n w bs e → cost_of charge d (t ++ bs) ≡ charge d n w bs
unfolding cost_of
cost_of_no_payload charge d t bs n w e tag h = cost_no_payload (charge d) d t bs n w e tag h

pub cost_of_next : (charge : Charge) → Stays charge → (d : ℕ) (f r : List ℕ) → SomeField d f → cost_of charge d (f ++ r) ≡ plus (cost_of charge d f) (cost_of charge d r)
unfolding cost_of
cost_of_next charge stays d f r h = costs_next (charge d) d (stays d) f r h

pub cost_of_one : (charge : Charge) → Stays charge → (d n : ℕ) (w : WireType) (t p : List ℕ) → IsTag t n w → Payload d n w p → cost_of charge d (t ++ p) ≡ charge d n w p
unfolding cost_of
cost_of_one charge stays d n w t p tag h = field_alone (charge d) d (stays d) t p n w tag h

-- fields that cost nothing each cost nothing together
pub cost_of_free : (charge : Charge) (d : ℕ) → ((n : ℕ) (w : WireType) (bs : List ℕ) → charge d n w bs ≡ nothing) → (bs : List ℕ) → cost_of charge d bs ≡ nothing
unfolding cost_of
cost_of_free charge d free bs = ap (λ (f : FieldCharge). cost_by f d bs) (λ i n w b. free n w b i) ∙ cost_free d bs

-- ---- fields that are passed over
pub skipped : {X : Type 0} (takes : Taker X) (d : ℕ) (v : X) (n : ℕ) (w : WireType) (bs rest : List ℕ) (before : BudgetLeft) (r : Result (Unit {0}) DecodeError) →
    ((p : List ℕ) → takes d v n w p ≡ Some v) → Gives (λ _. rest) r (skip_at d n w bs) → IsTaken takes (λ d n w bs. nothing) d v n w bs before r v before rest
skipped takes d v n w bs rest before (Ok x) all h =
    let u = agree_ok (skip_at d n w bs) rest (payload_sound d n w bs) h in
    (u.0, u.1, u.2, all u.0, (omega arith, omega arith))
skipped takes d v n w bs rest before (Err e) all h = (
  (omega arith, omega arith, omega arith, omega arith),
  λ ne. inr (
    (λ p x payload is. let k = payload_complete d n w p x payload in let j = ap (skip_at d n w) (sym is) ∙ h in cc),
    payload_no_limit d n w bs e (agree_err (skip_at d n w bs) e (payload_sound d n w bs) h),
  ),
  λ full end. let k = ap (λ (z : WireType). skip_at d n z bs) (sym end) ∙ h in cc,
)

-- an end tag takes no memory
pub taken_full : {X : Type 0} (takes : Taker X) (charge : Charge) (d : ℕ) (old new : X) (n : ℕ) (w : WireType) (bs rest : List ℕ) (before after : BudgetLeft) (r : Result (Unit {0}) DecodeError) →
    IsTaken takes charge d old n w bs before r new after rest → FullOnlyIf r (w ≢ EndGroup)
taken_full takes charge d old new n w bs rest before after (Ok _) h = tt
taken_full takes charge d old new n w bs rest before after (Err e) h = h.2

-- memory that runs out only where P holds runs out only where Q does, if P says so
pub full_weaker : {T : Type 0} (P Q : Type 0) (r : Result T DecodeError) → FullOnlyIf r P → (P → Q) → FullOnlyIf r Q
full_weaker P Q (Ok x) h k = tt
full_weaker P Q (Err e) h k = λ full. k (h full)

-- a payload that is passed over takes no memory
pub skipped_full : (d n : ℕ) (w : WireType) (bs rest : List ℕ) (r : Result (Unit {0}) DecodeError) → Gives (λ _. rest) r (skip_at d n w bs) → FullOnlyIf r ⊥
skipped_full d n w bs rest (Ok x) h = tt
skipped_full d n w bs rest (Err e) h = λ full. payload_full d n w bs (h ∙ ap (λ z. Err z) full)

-- ---- an encoding of fields reads back
module _ {X : Type 0} (takes : Taker X) (d : ℕ) (P : ℕ → Bool) where
  led : (s : X) (fs : List Piece) (t : X) → Leads takes P d s fs t → merged_of takes d s (joined_fields fs) ≡ Some t
  unfolding merged_of
  led s [] t h = merged_of_none takes d s ∙ ap (λ x. Some x) h
  led s (f ∷ fs) t (is, tag, payload, u, h, l) =
      ap (merged_of takes d s) (append_assoc f.tag f.payload (joined_fields fs))
      ∙ read d (framed takes d) (framed_sound takes d) (framed_same takes d) s f.number f.wire f.tag tag u (f.payload ++ joined_fields fs) (joined_fields fs)
      (framed_at takes d s f.number f.wire f.payload (joined_fields fs) payload ∙ ap (answer (joined_fields fs)) h)
      ∙ led u fs t l

  pub back : (s : X) (encoding : List ℕ) (t : X) → ReadsBack takes P d s encoding t → merged_of takes d s encoding ≡ Some t
  back s encoding t h = ap (merged_of takes d s) h.spelled ∙ led s h.pieces t h.leads

-- ---- fields that a reader reads, as payloads
module _ {X : Type 0} (field : ℕ → FieldReader X) (sound : (d : ℕ) → IsSound d (field d)) (same : (d : ℕ) → IsSame d (field d)) where
  abbrev by_reader : Taker X
  by_reader d = taken_by (field d)

  -- the payload alone
  alone : (d : ℕ) (v : X) (n : ℕ) (w : WireType) (p : List ℕ) (r : Result (X × List ℕ) DecodeError) → field d v n w (p ++ []) ≡ r → by_reader d v n w p ≡ option_map (λ x. x.0) (value_of r)
  alone d v n w p r h = ap (taken_by (field d) v n w) (sym (append-nil p)) ∙ ap (λ z. option_map (λ x. x.0) (value_of z)) h

  whole_alike : (d : ℕ) (v : X) (n : ℕ) (w : WireType) (p rest : List ℕ) → Payload d n w p → Same (field d v n w) p → value_of (field d v n w (p ++ rest)) ≡ value_of (framed by_reader d v n w (p ++ rest))
  whole_alike d v n w p rest h (inl (u, k)) = ap value_of (k rest ∙ sym (framed_at by_reader d v n w p rest h ∙ ap (answer rest) (alone d v n w p (Ok (u, [])) (k []))))
  whole_alike d v n w p rest h (inr (e, k)) = ap value_of (k rest) ∙ sym (ap value_of (framed_at by_reader d v n w p rest h ∙ ap (answer rest) (alone d v n w p (Err e) (k []))))

  none_read : (d : ℕ) (v : X) (n : ℕ) (w : WireType) (bs : List ℕ) (e : DecodeError) → skip_at d n w bs ≡ Err e → (r : Result (X × List ℕ) DecodeError) → field d v n w bs ≡ r → value_of r ≡ None
  none_read d v n w bs e no_payload (Err f) is = refl
  none_read d v n w bs e no_payload (Ok x) is =
      let q = agree_ok (field d v n w bs) x (sound d v n w bs) is in
      let both = sym (ap (skip_at d n w) q.2 ∙ payload_complete d n w q.0 x.1 q.1) ∙ no_payload in cc

  field_alike : (d : ℕ) (v : X) (n : ℕ) (w : WireType) (bs : List ℕ) (r : Result (List ℕ) DecodeError) → skip_at d n w bs ≡ r → value_of (field d v n w bs) ≡ value_of (framed by_reader d v n w bs)
  field_alike d v n w bs (Ok rest) is =
      let u = agree_ok (skip_at d n w bs) rest (payload_sound d n w bs) is in
      subst (λ z. value_of (field d v n w z) ≡ value_of (framed by_reader d v n w z)) (sym u.2) (whole_alike d v n w u.0 rest u.1 (same d v n w u.0 u.1))
  field_alike d v n w bs (Err e) is =
      let none : framed by_reader d v n w bs ≡ Err e = rw is refl in
      none_read d v n w bs e is (field d v n w bs) refl ∙ sym (ap value_of none)

  -- all bytes mean what their payloads do
  pub merged_by_is : (d : ℕ) (v : X) (b : List ℕ) → merged_by (field d) v b ≡ merged_of (λ d. taken_by (field d)) d v b
  unfolding merged_of
  merged_by_is d v b = merged_alike d (field d) (framed by_reader d) (sound d) (same d) (framed_sound by_reader d) (framed_same by_reader d)
      (λ v n w bs. field_alike d v n w bs (skip_at d n w bs) refl) v b

-- ---- what fields cost, as payloads
pub cost_by_is : (charge : Charge) (d : ℕ) (b : List ℕ) → cost_by (charge d) d b ≡ cost_of charge d b
unfolding cost_of
cost_by_is charge d b = refl

pub nothing_is : (d : ℕ) (b : List ℕ) → nothing ≡ cost_of costs_nothing d b
unfolding cost_of
nothing_is d b = sym (cost_free d b)
