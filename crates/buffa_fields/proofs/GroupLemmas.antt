-- What is proved of messages as groups: of what is taken.
use Rattle.std.proofs.Common.{◌≡◌, ◌≢◌, ◌⊎◌, inl, inr, ℕ, suc, ◌-◌, List, ◌++◌, Option, None, Result, Ok, Err, refl, sym, ap, subst, ◌∙◌, arith, append_assoc}
use Rattle.std.proofs.lemmas.Bool.{ne_eqb}
use Rattle.std.proofs.lemmas.List.{append_cancel_right}
use Rattle.buffa_bytes.proofs.FieldLemmas.{group_is, same_false, one_payload, payload_complete, payload_sound, tag_complete, tag_sound}
use Rattle.buffa_bytes.proofs.StepLemmas.{agree_err, agree_ok}
use Rattle.buffa_bytes.specs.declared.error.DecodeError.{DecodeError}
use Rattle.buffa_bytes.specs.declared.error.DecodeError.TheVariants.{InvalidEndGroup, OutOfMemory, RecursionLimitExceeded}
use Rattle.buffa_bytes.specs.declared.wire_type.WireType.{WireType}
use Rattle.buffa_bytes.specs.declared.wire_type.WireType.TheVariants.{StartGroup, EndGroup}
use Rattle.buffa_bytes.specs.Field.{Group, IsTag, Payload, SomeField}
use Rattle.buffa_bytes.specs.Join.{Join}
use Rattle.buffa_bytes.specs.Join.Join.{none, more}
use Rattle.buffa_bytes.specs.Readings.{group_at, skip_at, tag_at}
use Rattle.buffa_wire.proofs.MessageLemmas.{NoLimit, as_no_limit, tag_no_limit}
use Rattle.buffa_wire.proofs.ByPayloadLemmas.{ByPayload, judged_all}
use Rattle.buffa_wire.specs.BudgetLeft.{BudgetLeft, Lacks, Pays, PaysAtMost}
use Rattle.buffa_wire.specs.Message.{BeginsField, IsFieldMerged, IsJudged, MergeFault}
use Rattle.buffa_fields.specs.Groups.{group_body, group_cost, group_merged}
use Rattle.buffa_fields.specs.Refusals.{GroupFirstFault}
use Rattle.buffa_wire.specs.Takes.{IsTaken, Charge, Untaken, Taker}
use Rattle.buffa_fields.specs.facts.GroupFacts.{body_field, body_is, body_past, body_stays, body_whole, turn}
use Rattle.buffa_wire.proofs.MergeLoopLemmas.{CameTo, costs, stopped}
use Rattle.buffa_fields.proofs.ValueLemmas.{refused_free}

-- ---- the body of a group
module _ (d : ℕ) where
  -- no payload follows the tag
  body_cut : (bs : List ℕ) (t : ℕ × WireType × List ℕ) (e : DecodeError) → tag_at bs ≡ Ok t → t.1 ≢ EndGroup → skip_at d t.0 t.1 t.2 ≡ Err e → group_body d bs ≡ bs
  body_cut bs t e tag other h = turn d bs (Ok t) tag ∙ rw (same_false EndGroup t.1 other, h) refl

  -- fields at the front of a group are passed
  group_past : (n : ℕ) (f x : List ℕ) → Join (SomeField d) f → group_at (suc d) n (f ++ x) ≡ group_at (suc d) n x
  group_past n _ x none = refl
  group_past n _ x (more f r (m, w, (t, p, tag, payload, is)) j) =
      ap (group_at (suc d) n) (ap (λ (z : List ℕ). (z ++ r) ++ x) is ∙ simp append_assoc)
      ∙ group_is d n (t ++ (p ++ (r ++ x)))
      ∙ rw (tag_complete t m w (p ++ (r ++ x)) tag, same_false EndGroup w (λ end. subst (λ v. Payload d m v p) end payload), payload_complete d m w p (r ++ x) payload) refl
      ∙ group_past n r x j

-- ---- the loop over its fields, one level down
module _ {X : Type 0} {T : Taker X} {N : Charge} {merged : ℕ → X → List ℕ → Option X} {cost : ℕ → List ℕ → BudgetLeft} (by : ByPayload T N merged cost) {k : ℕ} (n : ℕ) (some : k ≢ 0)
    {old : X} {bs : List ℕ} {start : BudgetLeft} {now : X} {rest : List ℕ} {left : BudgetLeft} (came : CameTo merged cost (k - 1) old bs start now rest left) where
  abbrev d : ℕ
  d = k - 1

  abbrev TakenAt : ℕ → Result (Unit {0}) DecodeError → X → BudgetLeft → List ℕ → Type 0
  TakenAt z r new after more_bs = IsTaken (group_merged merged) (group_cost cost) z old n StartGroup bs start r new after more_bs

  abbrev TakenAs : Result (Unit {0}) DecodeError → X → BudgetLeft → List ℕ → Type 0
  TakenAs = TakenAt k

  one_up : (r : Result (Unit {0}) DecodeError) (new : X) (after : BudgetLeft) (more_bs : List ℕ) → TakenAt (suc d) r new after more_bs → TakenAs r new after more_bs
  one_up r new after more_bs h = let e : suc d ≡ k = omega (arith, some) in subst (λ z. TakenAt z r new after more_bs) e h

  charge_is : group_cost cost (suc d) n StartGroup bs ≡ cost d (group_body d bs)
  unfolding group_cost
  charge_is = let e : suc d - 1 ≡ d = omega arith in rw e refl

  takes : (p : List ℕ) → group_merged merged (suc d) old n StartGroup p ≡ merged d old (group_body d p)
  unfolding group_merged
  takes p = let e : suc d - 1 ≡ d = omega arith in rw e refl

  -- as far it came in the body
  in_body : CameTo merged cost d old (group_body d bs) start now (group_body d rest) left
  in_body = record { front = came.front; fields = came.fields; split = ap (group_body d) came.split ∙ body_past d came.front rest came.fields; means = came.means; pays = came.pays }

  -- the body means nothing
  untaken : merged d old (group_body d bs) ≡ None → Untaken (group_merged merged) (suc d) old n StartGroup bs
  untaken nothing_by_meaning p more_bs payload split =
      takes p ∙ ap (merged d old) (sym (body_stays d n p more_bs payload) ∙ ap (group_body d) (sym split)) ∙ nothing_by_meaning

  -- there is no such group
  unread : (e : DecodeError) → group_at (suc d) n bs ≡ Err e → Untaken (group_merged merged) (suc d) old n StartGroup bs
  unread e h p more_bs payload split = let two = sym (payload_complete (suc d) n StartGroup p more_bs payload) ∙ ap (group_at (suc d) n) (sym split) ∙ h in cc

  -- the end tag is reached
  pub ended : (m : ℕ) (w : WireType) (x : List ℕ) → tag_at rest ≡ Ok (m, w, x) → w ≡ EndGroup → m ≡ n → TakenAs (Ok tt) now left x
  unfolding Group
  ended m w x tag end same =
      let t = agree_ok (tag_at rest) (n, EndGroup, x) (tag_sound rest) (tag ∙ (λ i. Ok (same i, end i, x))) in
      let f = came.front in
      let whole : bs ≡ f ++ (t.0 ++ x) = came.split ∙ ap (λ (z : List ℕ). f ++ z) t.2 in
      let all : group_body d bs ≡ f = ap (group_body d) whole ∙ body_whole d f t.0 x n came.fields t.1 in
      one_up (Ok tt) now left x (
        f ++ t.0,
        (f, t.0, came.fields, t.1, refl),
        whole ∙ sym (append_assoc f t.0 x),
        takes (f ++ t.0) ∙ ap (merged d old) (body_is d f t.0 n came.fields t.1) ∙ came.means,
        subst (λ z. Pays start z left) (sym (charge_is ∙ ap (cost d) all)) came.pays,
      )

  -- the bytes are no group
  no_group : (e : DecodeError) → NoLimit e → group_at (suc d) n rest ≡ Err e → (new : X) (x : List ℕ) → TakenAs (Err e) new left x
  no_group e unlimited h new x =
      let all = costs by in_body in
      let unknown = ap (λ (z : BudgetLeft). z.unknown) all in
      let memory = ap (λ (z : BudgetLeft). z.memory) all in
      one_up (Err e) new left x (
        subst (λ z. PaysAtMost start z left) (sym charge_is) (omega (arith, in_body.pays.0), omega (arith, in_body.pays.0, unknown), omega (arith, in_body.pays.1), omega (arith, in_body.pays.1, memory)),
        λ ne. inr (unread e (ap (group_at (suc d) n) came.split ∙ group_past d n came.front rest came.fields ∙ h), unlimited),
        λ full end. cc,
      )

  -- where no field begins the group, all its bytes are left
  begun : (f whole : List ℕ) → Join (SomeField d) f → whole ≡ f ++ rest → (whole ≡ rest) ⊎ BeginsField whole
  begun _ whole none is = inl is
  begun _ whole (more f r (m, w, (t, p, tag, payload, is)) j) all = inr (
    m,
    w,
    p ++ (r ++ rest),
    ap tag_at (all ∙ append_assoc f r rest ∙ ap (λ (z : List ℕ). z ++ (r ++ rest)) is ∙ append_assoc t p (r ++ rest)) ∙ tag_complete t m w (p ++ (r ++ rest)) tag,
    λ end. subst (λ v. Payload d m v p) end payload,
  )

  -- so that tells why it isn't merged
  tells : (e : DecodeError) → (bs ≡ rest → GroupFirstFault (suc d) n bs e) → GroupFirstFault k n bs e
  tells e h =
      let up : suc d ≡ k = omega (arith, some) in
      subst (λ z. GroupFirstFault z n bs e) up (elim (begun came.front bs came.fields came.split) [
        | inl same ↦ h same
        | inr begins_it ↦ inl begins_it
      ])

  pub tells_no_tag : (e : DecodeError) → tag_at rest ≡ Err e → GroupFirstFault k n bs e
  tells_no_tag e h = tells e (λ same. inr (inl (ap tag_at same ∙ h)))

  pub tells_other_end : (e : DecodeError) (m : ℕ) (w : WireType) (x : List ℕ) → tag_at rest ≡ Ok (m, w, x) → w ≡ EndGroup → m ≢ n → e ≡ InvalidEndGroup m → GroupFirstFault k n bs e
  tells_other_end e m w x tag end other is = tells e (λ same. inr (inr (m, x, ap tag_at same ∙ tag ∙ (λ i. Ok (m, end i, x)), other, is)))

  pub tells_field : (e : DecodeError) → BeginsField bs → GroupFirstFault k n bs e
  tells_field e there = tells e (λ _. inl there)

  -- no tag comes next
  pub no_group_tag : (e : DecodeError) → tag_at rest ≡ Err e → (new : X) (x : List ℕ) → TakenAs (Err e) new left x
  no_group_tag e h new x = no_group e (tag_no_limit rest e (agree_err (tag_at rest) e (tag_sound rest) h)) (group_is d n rest ∙ rw h refl) new x

  -- another group's end tag does
  pub other_end : (e : DecodeError) (m : ℕ) (w : WireType) (y : List ℕ) → tag_at rest ≡ Ok (m, w, y) → w ≡ EndGroup → m ≢ n → e ≡ InvalidEndGroup m → (new : X) (x : List ℕ) → TakenAs (Err e) new left x
  other_end e m w y tag end other is new x =
      no_group e (as_no_limit e (InvalidEndGroup m) is (λ l. l)) (group_is d n rest ∙ rw (tag, end, ne_eqb m n other) (ap (λ z. Err z) (sym is))) new x

  module _ (m : ℕ) (w : WireType) (x : List ℕ) (tag : tag_at rest ≡ Ok (m, w, x)) (other : w ≢ EndGroup) where
    -- what of the body follows the tag: a refusal that speaks of it speaks of all that follows
    abbrev Within : List ℕ → List ℕ → Type 0
    Within t z = (group_body d rest ≡ t ++ z) × ((q : List ℕ) → IsJudged d m w z q → IsJudged d m w x q)

    within : (t : List ℕ) → IsTag t m w → rest ≡ t ++ x → (r : Result (List ℕ) DecodeError) → skip_at d m w x ≡ r → (z : List ℕ) × Within t z
    within t at cut (Err e) h = (x, (body_cut d rest (m, w, x) e tag other h ∙ cut, λ q j. j))
    within t at cut (Ok y) h =
        let p = agree_ok (skip_at d m w x) y (payload_sound d m w x) h in (
          p.0 ++ group_body d y,
          (
            ap (group_body d) (cut ∙ ap (λ (z : List ℕ). t ++ z) p.2) ∙ body_field d t p.0 y m w at p.1,
            λ q j. elim j [
              | inl (r, payload, is) ↦
                  let same = one_payload d m w (p.0 ++ group_body d y) r (group_body d y) (q, payload, is) (p.0, p.1, refl) in
                  let one : q ≡ p.0 = append_cancel_right q p.0 (group_body d y) (ap (λ (z : List ℕ). q ++ z) (sym same) ∙ sym is) in
                  inl (y, payload, p.2 ∙ ap (λ (z : List ℕ). z ++ y) (sym one))
              | inr (is, off) ↦ absurd (off (group_body d y) (p.0, p.1, refl))
            ],
          ),
        )

    -- a field was refused
    pub field_refused : (e : DecodeError) (new : X) (y : List ℕ) (over : BudgetLeft) → IsFieldMerged merged cost d now m w x left (let r : Result (Unit {0}) DecodeError = Err e in r) new over y →
        TakenAs (Err e) new over y
    field_refused e new y over h =
        let t = agree_ok (tag_at rest) (m, w, x) (tag_sound rest) tag in
        let z = within t.0 t.1 t.2 (skip_at d m w x) refl in
        let judged = judged_all by d now m w z.0 left over e (λ s q is j. h s q is (z.1.1 q j)) t.0 t.1 in
        let here : PaysAtMost left (cost d (group_body d rest)) over × (e ≢ OutOfMemory → MergeFault (merged d now (group_body d rest)) (cost d (group_body d rest)) left e) =
        subst (λ (b : List ℕ). PaysAtMost left (cost d b) over × (e ≢ OutOfMemory → MergeFault (merged d now b) (cost d b) left e)) (sym z.1.0) judged in
        let all = stopped by in_body e over here in
        one_up (Err e) new over y (
          subst (λ c. PaysAtMost start c over) (sym charge_is) all.0,
          λ ne. elim (all.1 ne) [
            | inl few ↦ inl (subst (λ c. Lacks start c) (sym charge_is) few)
            | inr bad ↦ inr (untaken bad.0, bad.1)
          ],
          λ full end. cc,
        )

-- no level is left
pub no_level : {X : Type 0} (merged : ℕ → X → List ℕ → Option X) (cost : ℕ → List ℕ → BudgetLeft) (k n : ℕ) (old new : X) (bs rest : List ℕ) (start after : BudgetLeft) (e : DecodeError) → k ≡ 0 → e ≡ RecursionLimitExceeded → after ≡ start →
    IsTaken (group_merged merged) (group_cost cost) k old n StartGroup bs start (let r : Result (Unit {0}) DecodeError = Err e in r) new after rest
unfolding group_merged
no_level merged cost k n old new bs rest start after e bottom is kept =
    refused_free (group_merged merged) (group_cost cost) k n StartGroup old new bs rest start after e RecursionLimitExceeded is (λ l. l) (λ full. cc) kept (λ p more payload split. rw bottom refl)
