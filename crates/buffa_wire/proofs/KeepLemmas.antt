-- A field whose payload is one of the grammar is kept as one record, and of the unknown fields left as many are spent
-- as it has fields.
use Rattle.std.proofs.Common.{◌≡◌, ◌≢◌, ◌⊎◌, ◌↔◌, inl, inr, ℕ, zero, suc, ◌+◌, ◌-◌, ◌<◌, ◌≤◌, Bool, true, false, List, [], ◌++◌, length, Result, Ok, Err, refl, ap, sym, subst, ◌∙◌, arith, append-nil, length-append, if◌then◌else◌}
use Rattle.std.proofs.lemmas.Bool.{cases_lt}
use Rattle.buffa_bytes.proofs.FaultLemmas.{IsOfBytes, as_of_bytes, payload_value_fault, tag_fault}
use Rattle.buffa_bytes.proofs.FieldLemmas.{tag_some}
use Rattle.buffa_bytes.proofs.StepLemmas.{agree_err, agree_ok}
use Rattle.buffa_bytes.specs.PayloadValue.{PayloadValueFault}
use Rattle.buffa_bytes.specs.Field.{Payload}
use Rattle.buffa_bytes.specs.declared.wire_type.WireType.{WireType}
use Rattle.buffa_bytes.specs.declared.wire_type.WireType.TheVariants as wire
use Rattle.buffa_bytes.specs.declared.error.DecodeError.{DecodeError}
use Rattle.buffa_bytes.specs.declared.error.DecodeError.TheVariants as error
use Rattle.buffa_wire.proofs.JoinLemmas.{record_of_payload}
use Rattle.buffa_wire.proofs.LoopLemmas.{field_is_read, field_refused, field_taken}
use Rattle.buffa_wire.proofs.MessageLemmas.{NoLimit, no_limit}
use Rattle.buffa_bytes.proofs.SequenceLemmas.{ok_same}
use Rattle.buffa_wire.specs.BudgetLeft.{unknown_fields, IsLimit}
use Rattle.buffa_wire.specs.KeptField.{had_enough, keep_charge, kept_record_at, least, more_left}
use Rattle.buffa_wire.specs.Parse.{FieldFault, FieldFaultOf, GroupRecordsFault, InsideFault, IsPayload, NextFault, Parse, RecordsFault, TakesRecords, field_count, fields_inside}
use Rattle.buffa_wire.specs.RecordReading.{field_at}
use Rattle.buffa_wire.specs.Records.{FieldData, Records, bytes, fixed32, fixed64, group, no_records, one, varint}
use Rattle.buffa_wire.specs.Encoding.{wire_of}

-- ---- each record has a byte at least
mutual
  records_short : (rs : Records) (d : ℕ) (b : List ℕ) → Parse d b rs → field_count rs ≤ length b
  records_short no_records d b h = omega arith
  records_short (one n x rs) d b (f, r, (t, p, tag, payload, is), next, all) =
      omega (arith, inside_short x d n p payload, records_short rs d r next, tag_some t n (wire_of x) tag, ap length is, length-append t p, ap length all, length-append f r)

  inside_short : (x : FieldData) (d n : ℕ) (p : List ℕ) → IsPayload d n x p → fields_inside x ≤ length p
  inside_short (varint v) d n p h = omega arith
  inside_short (fixed32 v) d n p h = omega arith
  inside_short (fixed64 v) d n p h = omega arith
  inside_short (bytes v) d n p h = omega arith
  inside_short (group rs) d n p (o, b, t, h, tag, is) = omega (arith, records_short rs (d - 1) b h, ap length is, length-append b t)

-- ---- a fault is the bytes', or a limit's, and then no more unknown fields are left than there are bytes
pub payload_value_no_limit : (w : WireType) (bs : List ℕ) (e : DecodeError) → PayloadValueFault w bs e → NoLimit e
payload_value_no_limit w bs e h = no_limit e (payload_value_fault w bs e h)

abbrev pub IsReported : DecodeError → Type 0 → Type 0
IsReported e P = IsOfBytes e ⊎ ((e ≡ error.UnknownFieldLimitExceeded) × P)

reported_so : (e : DecodeError) (P Q : Type 0) → IsReported e P → (P → Q) → IsReported e Q
reported_so e P Q (inl h) f = inl h
reported_so e P Q (inr h) f = inr (h.0, f h.1)

module _ (G : ℕ → ℕ → List ℕ → DecodeError → Type 0) (g : (s n : ℕ) (bs : List ℕ) (e : DecodeError) → G s n bs e → IsReported e (s < length bs)) where
  in_group : (s n : ℕ) (w : WireType) (bs : List ℕ) (e : DecodeError) → InsideFault G s n w bs e → IsReported e (s < length bs)
  in_group s n wire.StartGroup bs e h = g s n bs e h
  in_group s n wire.Varint bs e h = inl (payload_value_fault wire.Varint bs e h)
  in_group s n wire.Fixed64 bs e h = inl (payload_value_fault wire.Fixed64 bs e h)
  in_group s n wire.LengthDelimited bs e h = inl (payload_value_fault wire.LengthDelimited bs e h)
  in_group s n wire.EndGroup bs e h = inl (payload_value_fault wire.EndGroup bs e h)
  in_group s n wire.Fixed32 bs e h = inl (payload_value_fault wire.Fixed32 bs e h)

  in_field : (s n : ℕ) (w : WireType) (bs : List ℕ) (e : DecodeError) → FieldFaultOf G s n w bs e → IsReported e (s ≤ length bs)
  in_field s n w bs e (inl (_, h)) = inl (as_of_bytes e (error.InvalidEndGroup n) h tt)
  in_field s n w bs e (inr (inl (_, none, is))) = inr (is, omega (arith, none))
  in_field s n w bs e (inr (inr (_, some, h))) = reported_so e (s - 1 < length bs) (s ≤ length bs) (in_group (s - 1) n w bs e h) (λ few. omega (arith, some, few))

  in_next : (Ends : ℕ → Type 0) (s : ℕ) (bs : List ℕ) (e : DecodeError) → NextFault Ends G s bs e → IsReported e (s < length bs)
  in_next Ends s bs e (inl bad) = inl (tag_fault bs e bad)
  in_next Ends s bs e (inr (m, w, after, (t, tag, cut), _, bad)) =
      reported_so e (s ≤ length after) (s < length bs) (in_field s m w after e bad) (λ few. omega (arith, few, ap length cut, length-append t after, tag_some t m w tag))

-- it stands behind fields, each of which has a byte at least
behind_fields : (d s left : ℕ) (bs rest : List ℕ) (rs : Records) → TakesRecords d s bs rs left rest → left < length rest → s < length bs
behind_fields d s left bs rest rs (b, parse, sum, split) few = omega (arith, few, records_short rs d b parse, sum, ap length split, length-append b rest)

group_reported : (d s n : ℕ) (bs : List ℕ) (e : DecodeError) → GroupRecordsFault d s n bs e → IsReported e (s < length bs)
unfolding GroupRecordsFault
group_reported zero s n bs e h = inl (as_of_bytes e error.RecursionLimitExceeded h tt)
group_reported (suc d) s n bs e (rs, left, rest, taken, h) =
    reported_so e (left < length rest) (s < length bs) (in_next (GroupRecordsFault d) (group_reported d) (λ m. m ≡ n) left rest e h) (behind_fields d s left bs rest rs taken)

pub field_reported : (d s n : ℕ) (w : WireType) (bs : List ℕ) (e : DecodeError) → FieldFault d s n w bs e → IsReported e (s ≤ length bs)
field_reported d s n w bs e h = in_field (GroupRecordsFault d) (group_reported d) s n w bs e h

pub records_told : (d s : ℕ) (bs : List ℕ) (e : DecodeError) → RecordsFault d s bs e → IsReported e (s < length bs)
records_told d s bs e (rs, left, rest, taken, some, h) =
    reported_so e (left < length rest) (s < length bs) (in_next (GroupRecordsFault d) (group_reported d) (λ m. ⊥) left rest e h) (behind_fields d s left bs rest rs taken)

-- a fault other than that no unknown field is left is none of a budget's
pub other_limit : (d s n : ℕ) (w : WireType) (bs : List ℕ) (e : DecodeError) → FieldFault d s n w bs e → e ≢ error.UnknownFieldLimitExceeded → NoLimit e
other_limit d s n w bs e h ne = elim (field_reported d s n w bs e h) [ inl b ↦ no_limit e b | inr k ↦ absurd (ne k.0) ]

pub field_short : (d s n : ℕ) (w : WireType) (bs : List ℕ) (e : DecodeError) → FieldFault d s n w bs e → IsLimit e → s ≤ length bs
field_short d s n w bs e h l = elim (field_reported d s n w bs e h) [ inl b ↦ absurd (no_limit e b l) | inr k ↦ k.1 ]

-- ---- more unknown fields left
-- what isn't told for want of them is told with more of them, too
module _ (k : ℕ) (G : ℕ → ℕ → List ℕ → DecodeError → Type 0)
    (g : (s n : ℕ) (bs : List ℕ) (e : DecodeError) → G s n bs e → e ≢ error.UnknownFieldLimitExceeded → G (s + k) n bs e) where
  more_inside : (s n : ℕ) (w : WireType) (bs : List ℕ) (e : DecodeError) → InsideFault G s n w bs e → e ≢ error.UnknownFieldLimitExceeded → InsideFault G (s + k) n w bs e
  more_inside s n wire.StartGroup bs e h ne = g s n bs e h ne
  more_inside s n wire.Varint bs e h ne = h
  more_inside s n wire.Fixed64 bs e h ne = h
  more_inside s n wire.LengthDelimited bs e h ne = h
  more_inside s n wire.EndGroup bs e h ne = h
  more_inside s n wire.Fixed32 bs e h ne = h

  more_after_tag : (s n : ℕ) (w : WireType) (bs : List ℕ) (e : DecodeError) → FieldFaultOf G s n w bs e → e ≢ error.UnknownFieldLimitExceeded → FieldFaultOf G (s + k) n w bs e
  more_after_tag s n w bs e (inl h) ne = inl h
  more_after_tag s n w bs e (inr (inl (_, _, is))) ne = absurd (ne is)
  more_after_tag s n w bs e (inr (inr (o, some, h))) ne =
      let one : s - 1 + k ≡ s + k - 1 = omega (arith, some) in
      inr (inr (o, omega (arith, some), subst (λ z. InsideFault G z n w bs e) one (more_inside (s - 1) n w bs e h ne)))

  more_next : (Ends : ℕ → Type 0) (s : ℕ) (bs : List ℕ) (e : DecodeError) → NextFault Ends G s bs e → e ≢ error.UnknownFieldLimitExceeded → NextFault Ends G (s + k) bs e
  more_next Ends s bs e (inl bad) ne = inl bad
  more_next Ends s bs e (inr (m, w, after, tag, off, bad)) ne = inr (m, w, after, tag, off, more_after_tag s m w after e bad ne)

more_in_group : (k d s n : ℕ) (bs : List ℕ) (e : DecodeError) → GroupRecordsFault d s n bs e → e ≢ error.UnknownFieldLimitExceeded → GroupRecordsFault d (s + k) n bs e
unfolding GroupRecordsFault
more_in_group k zero s n bs e h ne = h
more_in_group k (suc d) s n bs e (rs, left, rest, (b, parse, sum, split), h) ne =
    (rs, left + k, rest, (b, parse, omega (arith, sum), split), more_next k (GroupRecordsFault d) (more_in_group k d) (λ m. m ≡ n) left rest e h ne)

-- ---- one field
-- a field whose record is x is read where enough unknown fields are left
pub enough_unknown : (d s n : ℕ) (w : WireType) (bs p rest : List ℕ) (x : FieldData) → IsPayload d n x p → wire_of x ≡ w → bs ≡ p ++ rest → 1 + fields_inside x ≤ s → field_at d s n w bs ≡ Ok (x, s - (1 + fields_inside x), rest)
enough_unknown d s n w bs p rest x payload same is h = field_taken d s n w bs x (s - (1 + fields_inside x)) rest (p, payload, same, omega (arith, h), is)

pub all_fields : (d n : ℕ) (w : WireType) (bs p rest : List ℕ) (x : FieldData) → IsPayload d n x p → wire_of x ≡ w → bs ≡ p ++ rest → kept_record_at d n w bs ≡ Ok (x, suc (length bs) - (1 + fields_inside x), rest)
all_fields d n w bs p rest x payload same is =
    enough_unknown d (suc (length bs)) n w bs p rest x payload same is (omega (arith, inside_short x d n p payload, ap length is, length-append p rest))

abbrev pub short_of_unknown : Result (FieldData × ℕ × List ℕ) DecodeError
short_of_unknown = Err error.UnknownFieldLimitExceeded

-- with more unknown fields left the same is told, and so many more are left then
module _ (d n : ℕ) (w : WireType) (bs : List ℕ) where
  with_more : (s k : ℕ) (r : Result (FieldData × ℕ × List ℕ) DecodeError) → field_at d s n w bs ≡ r → r ≢ short_of_unknown → field_at d (s + k) n w bs ≡ more_left k r
  with_more s k (Ok (x, left, rest)) is ne =
      let u = agree_ok (field_at d s n w bs) (x, left, rest) (field_is_read d s n w bs) is in
      field_taken d (s + k) n w bs x (left + k) rest (u.0, u.1, u.2, omega (arith, u.3), u.4)
  with_more s k (Err e) is ne =
      let other : e ≢ error.UnknownFieldLimitExceeded = λ same. ne (ap (λ z. Err z) same) in
      field_refused d (s + k) n w bs e (more_after_tag k (GroupRecordsFault d) (more_in_group k d) s n w bs e (agree_err (field_at d s n w bs) e (field_is_read d s n w bs) is) other)

  pub more_unknown : (s k : ℕ) → field_at d s n w bs ≢ short_of_unknown → field_at d (s + k) n w bs ≡ more_left k (field_at d s n w bs)
  more_unknown s k ne = with_more s k (field_at d s n w bs) refl ne

-- ---- what it costs
here_or_later : (p : ℕ → Bool) (b : Bool) (k : ℕ) → p 0 ≡ b → p (suc k) ≡ true → p (if b then 0 else suc k) ≡ true
here_or_later p true k is h = is
here_or_later p false k is h = h

least_holds : (p : ℕ → Bool) (k : ℕ) → p k ≡ true → p (least p k) ≡ true
unfolding least
least_holds p zero h = h
least_holds p (suc k) h = here_or_later p (p 0) (least (λ i. p (suc i)) k) refl (least_holds (λ i. p (suc i)) k h)

before : (p : ℕ → Bool) (b : Bool) (k : ℕ) → p 0 ≡ b → ((i : ℕ) → i < k → p (suc i) ≡ false) → (i : ℕ) → i < (if b then 0 else suc k) → p i ≡ false
before p true k is none i few = absurd (omega (arith, few))
before p false k is none zero few = is
before p false k is none (suc i) few = none i (omega (arith, few))

least_first : (p : ℕ → Bool) (k i : ℕ) → i < least p k → p i ≡ false
unfolding least
least_first p zero i few = absurd (omega (arith, few))
least_first p (suc k) i few = before p (p 0) (least (λ j. p (suc j)) k) refl (least_first (λ j. p (suc j)) k) i few

is_short : (r : Result (FieldData × ℕ × List ℕ) DecodeError) → had_enough r ≡ false → r ≡ short_of_unknown
is_short (Ok x) h = cc
is_short (Err error.UnknownFieldLimitExceeded) h = refl
is_short (Err _) h = cc

is_enough : (r : Result (FieldData × ℕ × List ℕ) DecodeError) → r ≢ short_of_unknown → had_enough r ≡ true
is_enough (Ok x) ne = refl
is_enough (Err error.UnknownFieldLimitExceeded) ne = absurd (ne refl)
is_enough (Err _) ne = refl

short_before : (r : Result (FieldData × ℕ × List ℕ) DecodeError) (k : ℕ) → more_left k r ≡ short_of_unknown → r ≡ short_of_unknown
short_before (Ok x) k h = cc
short_before (Err e) k h = h

fewer_left : (r : Result (FieldData × ℕ × List ℕ) DecodeError) (k left : ℕ) (x : FieldData) (rest : List ℕ) → more_left k r ≡ Ok (x, left, rest) → k ≤ left
fewer_left (Ok y) k left x rest h = let same : y.1 + k ≡ left = ap (λ z. z.1) (ok_same h) in omega (arith, same)
fewer_left (Err e) k left x rest h = cc

module _ (d n : ℕ) (w : WireType) (bs : List ℕ) where
  all_suffice : field_at d (suc (length bs)) n w bs ≢ short_of_unknown
  all_suffice is =
      let k = field_short d (suc (length bs)) n w bs error.UnknownFieldLimitExceeded (agree_err (field_at d (suc (length bs)) n w bs) error.UnknownFieldLimitExceeded (field_is_read d (suc (length bs)) n w bs) is) tt in
      omega (arith, k)

  -- with fewer it is refused for want of them
  pub fewer_refused : (s : ℕ) → s < (keep_charge d n w bs).unknown → field_at d s n w bs ≡ Err error.UnknownFieldLimitExceeded
  fewer_refused s few = is_short (field_at d s n w bs) (least_first (λ k. had_enough (field_at d k n w bs)) (suc (length bs)) s few)

  charge_suffices : field_at d (keep_charge d n w bs).unknown n w bs ≢ short_of_unknown
  charge_suffices is =
      let p : ℕ → Bool = λ k. had_enough (field_at d k n w bs) in
      let holds = least_holds p (suc (length bs)) (is_enough (field_at d (suc (length bs)) n w bs) all_suffice) in
      let bad = sym holds ∙ ap had_enough is in
      cc

  -- with so many or more it isn't
  pub enough_reads : (s : ℕ) → (keep_charge d n w bs).unknown ≤ s → field_at d s n w bs ≢ Err error.UnknownFieldLimitExceeded
  enough_reads s many is =
      let charge = (keep_charge d n w bs).unknown in
      let all : charge + (s - charge) ≡ s = omega (arith, many) in
      charge_suffices (short_before (field_at d charge n w bs) (s - charge) (sym (more_unknown d n w bs charge (s - charge) charge_suffices) ∙ ap (λ z. field_at d z n w bs) all ∙ is))

  -- so that it is refused for want of them exactly there
  pub limit_reported : (s : ℕ) → (field_at d s n w bs ≡ Err error.UnknownFieldLimitExceeded) ↔ (s < (keep_charge d n w bs).unknown)
  limit_reported s = (λ is. elim (cases_lt s (keep_charge d n w bs).unknown) [ inl few ↦ few | inr many ↦ absurd (enough_reads s many is) ], fewer_refused s)

  module _ (p rest : List ℕ) (x : FieldData) (payload : IsPayload d n x p) (same : wire_of x ≡ w) (is : bs ≡ p ++ rest) where
    fields_suffice : field_at d (1 + fields_inside x) n w bs ≡ Ok (x, (1 + fields_inside x) - (1 + fields_inside x), rest)
    fields_suffice = enough_unknown d (1 + fields_inside x) n w bs p rest x payload same is (omega arith)

    no_more : (keep_charge d n w bs).unknown ≤ 1 + fields_inside x
    no_more = elim (cases_lt (1 + fields_inside x) (keep_charge d n w bs).unknown) [
      | inl few ↦ let bad = sym (fewer_refused (1 + fields_inside x) few) ∙ fields_suffice in cc
      | inr many ↦ many
    ]

    no_fewer : 1 + fields_inside x ≤ (keep_charge d n w bs).unknown
    no_fewer =
        let charge = (keep_charge d n w bs).unknown in
        let k = (1 + fields_inside x) - charge in
        let all : charge + k ≡ 1 + fields_inside x = omega (arith, no_more) in
        let left = fewer_left (field_at d charge n w bs) k ((1 + fields_inside x) - (1 + fields_inside x)) x rest (sym (more_unknown d n w bs charge k charge_suffices) ∙ ap (λ z. field_at d z n w bs) all ∙ fields_suffice) in
        omega (arith, left, no_more)

    pub charged_for : keep_charge d n w bs ≡ unknown_fields (1 + fields_inside x)
    charged_for = let one : (keep_charge d n w bs).unknown ≡ 1 + fields_inside x = omega (arith, no_more, no_fewer) in ap unknown_fields one

pub keep_stays : (d n : ℕ) (w : WireType) (p x : List ℕ) → Payload d n w p → keep_charge d n w (p ++ x) ≡ keep_charge d n w p
keep_stays d n w p r h =
    let x = record_of_payload d n w p h in
    charged_for d n w (p ++ r) p r x.0 x.1 x.2 refl ∙ sym (charged_for d n w p p [] x.0 x.1 x.2 (sym (append-nil p)))
