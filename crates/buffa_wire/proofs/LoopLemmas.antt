-- The loops that read fields, step by step.
use Rattle.std.proofs.Common.{◌≡◌, ◌≢◌, ℕ, zero, suc, ◌+◌, ◌-◌, ◌<◌, ◌≤◌, List, [], ◌∷◌, ◌++◌, length, Result, Ok, Err, refl, sym, ap, subst, ◌∙◌, arith, length-append, append-nil}
use Rattle.buffa_bytes.specs.declared.wire_type.WireType.{WireType}
use Rattle.buffa_bytes.specs.declared.wire_type.WireType.TheVariants as wire
use Rattle.buffa_bytes.specs.declared.error.DecodeError.{DecodeError}
use Rattle.buffa_bytes.specs.declared.error.DecodeError.TheVariants.{RecursionLimitExceeded, UnknownFieldLimitExceeded, InvalidEndGroup}
use Rattle.buffa_bytes.specs.Readings.{tag_at, ◌>>=◌}
use Rattle.buffa_bytes.specs.Scan.{step_then}
use Rattle.buffa_bytes.proofs.StepLemmas.{Agrees, agree_ok, agree_bind}
use Rattle.buffa_wire.specs.Records.{FieldData, group, records_of}
use Rattle.buffa_wire.specs.Encoding.{wire_of}
use Rattle.buffa_wire.specs.Parse.{Parse, GroupRecordsFault, TakesField, FieldFault, RecordsFault, field_count}
use Rattle.buffa_wire.specs.RecordReading.{field_at, field_by, group_records_at, group_records_behind, list_at, payload_by, plain_at, record_next, record_step, records_at, records_behind, GroupReader}
use Rattle.buffa_wire.proofs.ReadLemmas.{Group, closes_no, closes_yes, field_complete, field_faulty, field_sound, group_complete, group_faulty, group_sound, group_turn, next_falls, records_complete_in, records_faulty_in, records_sound_in}
use Rattle.buffa_bytes.proofs.SequenceLemmas.{Falls, along_err, along_none, along_ok}
use Rattle.buffa_bytes.proofs.FieldLemmas.{same_false}
use Rattle.std.proofs.lemmas.Bool.{eq-eqb, ne_eqb}
use Rattle.buffa_wire.proofs.RecordLemmas.{list-records, records-list}

-- ---- a field
pub field_is_read : (d s n : ℕ) (w : WireType) (bs : List ℕ) → Agrees (field_at d s n w bs) (λ v. TakesField d s n w bs v.0 v.1 v.2) (FieldFault d s n w bs)
field_is_read d = field_sound d (group_records_at d) (GroupRecordsFault d) (group_sound d)

pub field_falls : (d s n : ℕ) (w : WireType) (bs : List ℕ) (x : FieldData × ℕ × List ℕ) → field_at d s n w bs ≡ Ok x → length x.2 ≤ length bs
field_falls d s n w bs x e = let a = agree_ok (field_at d s n w bs) x (field_is_read d s n w bs) e in omega (arith, ap length a.4, length-append a.0 x.2)

-- ---- the loop over the fields of a group
pub group_limit : (d s n : ℕ) (bs : List ℕ) → d ≡ 0 → group_records_at d s n bs ≡ Err RecursionLimitExceeded
unfolding group_records_at
group_limit d s n bs e = rw e refl

pub group_begins : (d s left n : ℕ) (bs : List ℕ) (rs : List (ℕ × FieldData)) → d ≢ 0 → rs ≡ [] → left ≡ s → group_records_behind (group_records_at (d - 1)) n (rs, left) bs ≡ group_records_at d s n bs
unfolding group_records_at
group_begins zero s left n bs rs o e f = absurd (o refl)
group_begins (suc d) s left n bs rs o e f = let k : suc d - 1 ≡ d = omega arith in rw (k, e, f) refl

module _ (d s n : ℕ) (bs : List ℕ) (rs : List (ℕ × FieldData)) (all : Result Group DecodeError) (read : group_records_behind (group_records_at d) n (rs, s) bs ≡ all) where
  turn : all ≡ step_then (group_records_behind (group_records_at d) n) (record_step (group_records_at d) n (rs, s) (tag_at bs))
  turn = sym read ∙ group_turn d (group_records_at d) (GroupRecordsFault d) n (group_sound d) (rs, s) bs

  pub group_tag_err : (e : DecodeError) → tag_at bs ≡ Err e → all ≡ Err e
  group_tag_err e t = turn ∙ rw t refl

  module _ (t : ℕ × WireType × List ℕ) (tag : tag_at bs ≡ Ok t) where
    pub group_end : t.1 ≡ wire.EndGroup → t.0 ≡ n → all ≡ Ok (records_of rs, s, t.2)
    group_end w m = turn ∙ rw (tag, closes_yes t.1 t.0 n w m) refl

    pub group_other : t.1 ≡ wire.EndGroup → t.0 ≢ n → all ≡ Err (InvalidEndGroup t.0)
    unfolding field_by
    group_other w m = turn ∙ rw (tag, closes_no t.1 t.0 n (λ e. m), w) refl

    pub group_field_err : t.1 ≢ wire.EndGroup → (e : DecodeError) → field_at d s t.0 t.1 t.2 ≡ Err e → all ≡ Err e
    group_field_err w e f = turn ∙ rw (tag, closes_no t.1 t.0 n (λ q. absurd (w q)), f) refl

    pub group_next : t.1 ≢ wire.EndGroup → (x : FieldData × ℕ × List ℕ) (m : ℕ) (next : List (ℕ × FieldData)) → field_at d s t.0 t.1 t.2 ≡ Ok x → m ≡ t.0 → next ≡ rs ++ (m, x.0) ∷ [] →
        group_records_behind (group_records_at d) n (next, x.1) x.2 ≡ all
    group_next w x m next f k e =
        ap (λ z. group_records_behind (group_records_at d) n (z, x.1) x.2) (e ∙ ap (λ z. rs ++ (z, x.0) ∷ []) k)
        ∙ sym (turn ∙ rw (tag, closes_no t.1 t.0 n (λ q. absurd (w q)), f) refl)

-- ---- a field after its tag, case by case
pub field_end : (d s n : ℕ) (w : WireType) (bs : List ℕ) → w ≡ wire.EndGroup → field_at d s n w bs ≡ Err (InvalidEndGroup n)
unfolding field_by
field_end d s n w bs e = rw e refl

pub field_no_unknown : (d s n : ℕ) (w : WireType) (bs : List ℕ) → w ≢ wire.EndGroup → s ≡ 0 → field_at d s n w bs ≡ Err UnknownFieldLimitExceeded
unfolding field_by
field_no_unknown d s n w bs o e = rw (same_false wire.EndGroup w o, eq-eqb s 0 e) refl

field_paid : (d s left n : ℕ) (w : WireType) (bs : List ℕ) → w ≢ wire.EndGroup → left + 1 ≡ s → field_at d s n w bs ≡ payload_by (group_records_at d) left n w bs
unfolding field_by
field_paid d s left n w bs o e = let k : s - 1 ≡ left = omega arith in rw (same_false wire.EndGroup w o, ne_eqb s 0 (λ z. absurd (omega arith)), k) refl

pub field_group_ok : (d s left n : ℕ) (w : WireType) (bs : List ℕ) (x : Group) → w ≡ wire.StartGroup → left + 1 ≡ s → group_records_at d left n bs ≡ Ok x → field_at d s n w bs ≡ Ok (group x.0, x.1, x.2)
field_group_ok d s left n w bs x g e f = rw g (field_paid d s left n wire.StartGroup bs (λ q. cc) e ∙ rw f refl)

pub field_group_err : (d s left n : ℕ) (w : WireType) (bs : List ℕ) (e : DecodeError) → w ≡ wire.StartGroup → left + 1 ≡ s → group_records_at d left n bs ≡ Err e → field_at d s n w bs ≡ Err e
field_group_err d s left n w bs x g e f = rw g (field_paid d s left n wire.StartGroup bs (λ q. cc) e ∙ rw f refl)

payload_is_plain : (inner : GroupReader) (s n : ℕ) (w : WireType) (bs : List ℕ) → w ≢ wire.StartGroup → payload_by inner s n w bs ≡ (plain_at w bs >>= (λ v. Ok (v.0, s, v.1)))
payload_is_plain inner s n wire.StartGroup bs o = absurd (o refl)
payload_is_plain inner s n wire.Varint bs o = refl
payload_is_plain inner s n wire.Fixed64 bs o = refl
payload_is_plain inner s n wire.LengthDelimited bs o = refl
payload_is_plain inner s n wire.EndGroup bs o = refl
payload_is_plain inner s n wire.Fixed32 bs o = refl

pub field_plain_ok : (d s left n : ℕ) (w : WireType) (bs : List ℕ) (x : FieldData × List ℕ) → w ≢ wire.EndGroup → w ≢ wire.StartGroup → left + 1 ≡ s → plain_at w bs ≡ Ok x → field_at d s n w bs ≡ Ok (x.0, left, x.1)
field_plain_ok d s left n w bs x o g e f = field_paid d s left n w bs o e ∙ payload_is_plain (group_records_at d) left n w bs g ∙ rw f refl

pub field_plain_err : (d s left n : ℕ) (w : WireType) (bs : List ℕ) (e : DecodeError) → w ≢ wire.EndGroup → w ≢ wire.StartGroup → left + 1 ≡ s → plain_at w bs ≡ Err e → field_at d s n w bs ≡ Err e
field_plain_err d s left n w bs x o g e f = field_paid d s left n w bs o e ∙ payload_is_plain (group_records_at d) left n w bs g ∙ rw f refl

-- ---- fields to the end of the bytes
falls : (d : ℕ) → Falls (record_next (group_records_at d))
falls d = next_falls d (group_records_at d) (GroupRecordsFault d) (group_sound d)

pub list_begins : (d s left : ℕ) (bs : List ℕ) (rs : List (ℕ × FieldData)) → rs ≡ [] → left ≡ s → records_behind (group_records_at d) (rs, left) bs ≡ records_at d s bs
list_begins d s left bs rs e f = rw (e, f) refl

pub list_ends : (d s left : ℕ) (all bs : List ℕ) (rs : List (ℕ × FieldData)) → records_behind (group_records_at d) (rs, left) bs ≡ records_at d s all → length bs ≡ 0 → list_at d s all ≡ Ok rs
list_ends d s left all [] rs h e = rw (sym h, along_none (record_next (group_records_at d)) (falls d) (rs, left)) (ap (λ z. Ok z) (list-records rs))
list_ends d s left all (b ∷ bs) rs h e = absurd (omega arith)

module _ (d s left : ℕ) (all bs : List ℕ) (rs : List (ℕ × FieldData)) (read : records_behind (group_records_at d) (rs, left) bs ≡ records_at d s all) (some : 0 < length bs) where
  refused : (e : DecodeError) → record_next (group_records_at d) (rs, left) bs ≡ Err e → list_at d s all ≡ Err e
  refused e h = rw (sym read, along_err (record_next (group_records_at d)) (falls d) (rs, left) bs e some h) refl

  pub list_tag_err : (e : DecodeError) → tag_at bs ≡ Err e → list_at d s all ≡ Err e
  list_tag_err e t = refused e (rw t refl)

  pub list_field_err : (t : ℕ × WireType × List ℕ) → tag_at bs ≡ Ok t → (e : DecodeError) → field_at d left t.0 t.1 t.2 ≡ Err e → list_at d s all ≡ Err e
  list_field_err t g e f = refused e (rw (g, f) refl)

  pub list_next : (t : ℕ × WireType × List ℕ) → tag_at bs ≡ Ok t → (x : FieldData × ℕ × List ℕ) (m : ℕ) (next : List (ℕ × FieldData)) → field_at d left t.0 t.1 t.2 ≡ Ok x → m ≡ t.0 → next ≡ rs ++ (m, x.0) ∷ [] →
      records_behind (group_records_at d) (next, x.1) x.2 ≡ records_at d s all
  list_next t g x m next f k e =
      let one : record_next (group_records_at d) (rs, left) bs ≡ Ok ((rs ++ (t.0, x.0) ∷ [], x.1), x.2) = rw (g, f) refl in
      ap (λ z. records_behind (group_records_at d) (z, x.1) x.2) (e ∙ ap (λ z. rs ++ (z, x.0) ∷ []) k)
      ∙ rw (← along_ok (record_next (group_records_at d)) (falls d) (rs, left) (rs ++ (t.0, x.0) ∷ [], x.1) bs x.2 some one) read

-- ---- what is read, and the grammar
pub field_taken : (d s n : ℕ) (w : WireType) (bs : List ℕ) (x : FieldData) (left : ℕ) (rest : List ℕ) → TakesField d s n w bs x left rest → field_at d s n w bs ≡ Ok (x, left, rest)
field_taken d s n w bs x left rest (p, payload, same, e, is) =
    subst (λ v. field_at d s n v bs ≡ Ok (x, left, rest)) same
    (ap (field_at d s n (wire_of x)) is ∙ field_complete d (group_records_at d) (GroupRecordsFault d) (group_complete d) s n x left p rest payload e)

pub field_refused : (d s n : ℕ) (w : WireType) (bs : List ℕ) (e : DecodeError) → FieldFault d s n w bs e → field_at d s n w bs ≡ Err e
field_refused d = field_faulty d (group_records_at d) (GroupRecordsFault d) (group_faulty d)

pub list_is_read : (d s : ℕ) (bs : List ℕ) → Agrees (list_at d s bs) (λ rs. Parse d bs (records_of rs) × (field_count (records_of rs) ≤ s)) (RecordsFault d s bs)
list_is_read d s bs = agree_bind (records_sound_in d (group_records_at d) (GroupRecordsFault d) (group_sound d) (group_complete d) (group_faulty d) s bs)
    (λ v x. let is : x.0.0 ≡ bs = sym (x.0.3 ∙ ap (λ z. x.0.0 ++ z) x.1 ∙ append-nil x.0.0) in
    let back = records-list v.0 in
    record { holds = (subst (λ z. Parse d bs z) (sym back) (subst (λ z. Parse d z v.0) is x.0.1), subst (λ z. field_count z ≤ s) (sym back) (omega (arith, x.0.2))) })
    (λ e x. x)

pub list_taken : (d s : ℕ) (bs : List ℕ) (rs : List (ℕ × FieldData)) → Parse d bs (records_of rs) → field_count (records_of rs) ≤ s → list_at d s bs ≡ Ok rs
list_taken d s bs rs h l =
    rw (records_complete_in d (group_records_at d) (GroupRecordsFault d) (group_sound d) (group_complete d) (group_faulty d) s (s - field_count (records_of rs)) (records_of rs) bs h (omega arith)) (ap (λ z. Ok z) (list-records rs))

pub list_refused : (d s : ℕ) (bs : List ℕ) (e : DecodeError) → RecordsFault d s bs e → list_at d s bs ≡ Err e
list_refused d s bs e (rs, left, rest, h, o, x) =
    rw (records_faulty_in d (group_records_at d) (GroupRecordsFault d) (group_sound d) (group_complete d) (group_faulty d) s left rs bs rest e h o x) refl
