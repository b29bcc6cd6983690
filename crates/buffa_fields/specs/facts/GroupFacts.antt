-- What is proved of messages as groups.
use Rattle.std.proofs.Common.{◌≡◌, ℕ, zero, suc, ◌-◌, ◌≤◌, List, [], ◌++◌, length, take, Option, Some, Result, Ok, Err, refl, sym, ap, subst, ◌∙◌, arith, append_assoc, append-nil, length-append}
use Rattle.std.proofs.Math.Seq.{take-append_seam}
use Rattle.buffa_bytes.proofs.FieldLemmas.{same_false, payload_complete, skip_falls, tag_complete, tag_falls}
use Rattle.buffa_bytes.proofs.ScanLemmas.{Shortens, if_short, scan_step}
use Rattle.buffa_bytes.specs.declared.error.DecodeError.{DecodeError}
use Rattle.buffa_bytes.specs.declared.wire_type.WireType.{WireType}
use Rattle.buffa_bytes.specs.declared.wire_type.WireType.TheVariants.{StartGroup, EndGroup}
use Rattle.buffa_bytes.specs.Field.{Group, IsTag, Payload, SomeField}
use Rattle.buffa_bytes.specs.Join.{Join}
use Rattle.buffa_bytes.specs.Join.Join.{none, more}
use Rattle.buffa_bytes.specs.Number.{IsNumber}
use Rattle.buffa_bytes.specs.Readings.{same_wire, skip_at, tag_at}
use Rattle.buffa_bytes.specs.Scan.{step_then}
use Rattle.buffa_bytes.specs.Values.{tag_encoding}
use Rattle.buffa_wire.specs.BudgetLeft.{BudgetLeft}
use Rattle.buffa_wire.specs.Encoding.{records_encoding}
use Rattle.buffa_wire.specs.Parse.{Fits}
use Rattle.buffa_wire.specs.ReadableFacts.{Readable, readable_fits}
use Rattle.buffa_wire.specs.Records.{FieldData, records_of}
use Rattle.buffa_bytes.proofs.FieldLemmas.{is_tag}
use Rattle.buffa_fields.specs.Groups.{body_behind, body_step, group_body, group_merged}
use Rattle.buffa_wire.specs.Takes.{front_of}
use Rattle.buffa_wire.specs.Message.{cost_in}

-- ---- the body of a group
module _ (d : ℕ) where
  behind_short : (bs : List ℕ) (t : ℕ × WireType × List ℕ) → tag_at bs ≡ Ok t → (r : Result (List ℕ) DecodeError) → skip_at d t.0 t.1 t.2 ≡ r → Shortens (body_behind bs r) bs
  behind_short bs t e (Ok rest) s = omega (arith, tag_falls bs t e, skip_falls d t.0 t.1 t.2 rest s)
  behind_short bs t e (Err x) s = tt

  step_short : (bs : List ℕ) (r : Result (ℕ × WireType × List ℕ) DecodeError) → tag_at bs ≡ r → Shortens (body_step d bs r) bs
  step_short bs (Ok t) e = if_short (same_wire EndGroup t.1) [] (body_behind bs (skip_at d t.0 t.1 t.2)) bs (λ _. behind_short bs t e (skip_at d t.0 t.1 t.2) refl)
  step_short bs (Err x) e = tt

  pub turn : (bs : List ℕ) (r : Result (ℕ × WireType × List ℕ) DecodeError) → tag_at bs ≡ r → group_body d bs ≡ step_then (λ _. group_body d) (body_step d bs r)
  unfolding group_body
  turn bs r e =
      scan_step (λ _ rest. body_step d rest (tag_at rest)) [] (λ _ rest. step_short rest (tag_at rest) refl) tt bs
      ∙ ap (λ z. step_then (λ _. group_body d) (body_step d bs z)) e

  pub body_end : (t x : List ℕ) (n : ℕ) → IsTag t n EndGroup → group_body d (t ++ x) ≡ []
  body_end t x n tag = turn (t ++ x) (Ok (n, EndGroup, x)) (tag_complete t n EndGroup x tag)

  front_is : (t p x : List ℕ) → front_of (t ++ (p ++ x)) x ≡ t ++ p
  front_is t p x =
      let e : length (t ++ (p ++ x)) - length x ≡ length (t ++ p) = omega (arith, length-append t (p ++ x), length-append p x, length-append t p) in
      ap (λ (k : ℕ). take k (t ++ (p ++ x))) e ∙ ap (λ (z : List ℕ). take (length (t ++ p)) z) (sym (append_assoc t p x)) ∙ take-append_seam (t ++ p) x

  -- a field, and then more
  pub body_field : (t p x : List ℕ) (n : ℕ) (w : WireType) → IsTag t n w → Payload d n w p → group_body d (t ++ (p ++ x)) ≡ t ++ (p ++ group_body d x)
  body_field t p x n w tag payload =
      turn (t ++ (p ++ x)) (Ok (n, w, p ++ x)) (tag_complete t n w (p ++ x) tag)
      ∙ rw (same_false EndGroup w (λ end. subst (λ v. Payload d n v p) end payload), payload_complete d n w p x payload) refl
      ∙ ap (λ (z : List ℕ). z ++ group_body d x) (front_is t p x) ∙ append_assoc t p (group_body d x)

  -- fields, and then more
  pub body_past : (f x : List ℕ) → Join (SomeField d) f → group_body d (f ++ x) ≡ f ++ group_body d x
  body_past _ x none = refl
  body_past _ x (more f r (n, w, (t, p, tag, payload, is)) j) =
      ap (group_body d) (ap (λ (z : List ℕ). (z ++ r) ++ x) is ∙ simp append_assoc) ∙ body_field t p (r ++ x) n w tag payload
      ∙ ap (λ (z : List ℕ). t ++ (p ++ z)) (body_past r x j)
      ∙ sym (ap (λ (z : List ℕ). (z ++ r) ++ group_body d x) is ∙ simp append_assoc)

  pub body_whole : (b t x : List ℕ) (n : ℕ) → Join (SomeField d) b → IsTag t n EndGroup → group_body d (b ++ (t ++ x)) ≡ b
  body_whole b t x n j tag = body_past b (t ++ x) j ∙ ap (λ (z : List ℕ). b ++ z) (body_end t x n tag) ∙ append-nil b

  pub body_is : (b t : List ℕ) (n : ℕ) → Join (SomeField d) b → IsTag t n EndGroup → group_body d (b ++ t) ≡ b
  body_is b t n j tag = ap (λ (z : List ℕ). group_body d (b ++ z)) (sym (append-nil t)) ∙ body_whole b t [] n j tag

  -- what follows a group changes nothing
  pub body_stays : (n : ℕ) (p x : List ℕ) → Payload (suc d) n StartGroup p → group_body d (p ++ x) ≡ group_body d p
  unfolding Group
  body_stays n p x (b, t, j, tag, is) =
      ap (group_body d) (ap (λ (z : List ℕ). z ++ x) is ∙ append_assoc b t x) ∙ body_whole b t x n j tag
      ∙ sym (ap (group_body d) is ∙ body_is b t n j tag)

-- ---- costs
-- what the body of a group costs one level down
pub inside_stays : (cost : ℕ → List ℕ → BudgetLeft) (d n : ℕ) (p x : List ℕ) → Payload d n StartGroup p → cost_in cost d (group_body (d - 1) (p ++ x)) ≡ cost_in cost d (group_body (d - 1) p)
inside_stays cost zero n p x h = refl
inside_stays cost (suc d) n p x h = let e : suc d - 1 ≡ d = omega arith in rw e (ap (cost d) (body_stays d n p x h))

-- ---- it reads back
module _ {X : Type 0} (merged : ℕ → X → List ℕ → Option X) (blank : X) (encoding : X → List ℕ) (records : X → List (ℕ × FieldData)) (level : X → ℕ) (Normal : X → Type 0)
    (as_records : (v : X) → encoding v ≡ records_encoding (records v)) (whole : (d : ℕ) (v u : X) (b : List ℕ) → merged d v b ≡ Some u → Join (SomeField d) b)
    (back : (d : ℕ) (v : X) → Fits (records_of (records v)) → Normal v → level v ≤ d → merged d blank (encoding v) ≡ Some v) (n : ℕ) (number : IsNumber n) where
  pub group_again : (d : ℕ) (v : X) → Readable (records_of (records v)) → Normal v → suc (level v) ≤ d →
      Payload d n StartGroup (records_encoding (records v) ++ tag_encoding n EndGroup) × (group_merged merged d blank n StartGroup (records_encoding (records v) ++ tag_encoding n EndGroup) ≡ Some v)
  unfolding group_merged Group
  group_again zero v fits normal low = absurd (omega arith)
  group_again (suc d) v fits normal low =
      let is : merged d blank (records_encoding (records v)) ≡ Some v = ap (merged d blank) (sym (as_records v)) ∙ back d v (readable_fits (records_of (records v)) fits) normal (omega (arith, low)) in
      let j = whole d blank v (records_encoding (records v)) is in
      let end = is_tag n EndGroup number in
      let e : suc d - 1 ≡ d = omega arith in (
        (records_encoding (records v), tag_encoding n EndGroup, j, end, refl),
        rw e (ap (merged d blank) (body_is d (records_encoding (records v)) (tag_encoding n EndGroup) n j end) ∙ is),
      )
