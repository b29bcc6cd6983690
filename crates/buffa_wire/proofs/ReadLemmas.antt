-- What is read of records, and their grammar.
use Rattle.std.proofs.Common.{◌≡◌, ◌≢◌, inl, inr, ℕ, zero, suc, ◌+◌, ◌-◌, ◌==◌, ◌<◌, ◌&&◌, true, false, true≢false, List, [], ◌∷◌, ◌++◌, length, Result, Ok, Err, refl, sym, ap, subst, ◌∙◌, arith, append_assoc, append-nil, length-append}
use Rattle.std.specs.Int.{from_le_bytes, w32, w64}
use Rattle.std.proofs.lemmas.Bool.{eqb-true, eqb-false, eq-eqb, ne_eqb}
use Rattle.buffa_bytes.specs.declared.wire_type.WireType.{WireType}
use Rattle.buffa_bytes.specs.declared.wire_type.WireType.TheVariants as wire
use Rattle.buffa_bytes.specs.declared.error.DecodeError.{DecodeError}
use Rattle.buffa_bytes.specs.declared.error.DecodeError.TheVariants.{UnexpectedEof}
use Rattle.buffa_bytes.specs.Field.{IsTag, TakesTag}
use Rattle.buffa_bytes.specs.PayloadValue.{PayloadValueFault}
use Rattle.buffa_bytes.specs.Readings.{same_wire, tag_at, ◌>>=◌}
use Rattle.buffa_bytes.specs.Scan.{parsed, scan, step_then, ParsesEach, ParsesTo, join}
use Rattle.buffa_bytes.specs.Scan.Scanned.{ends, goes}
use Rattle.buffa_bytes.proofs.StepLemmas.{Agrees, agree_bind, agree_err, agree_if, agree_ok, agree_weaker}
use Rattle.buffa_bytes.proofs.ListLemmas.{cut_twice}
use Rattle.buffa_bytes.proofs.VarintLemmas.{varint_sound, varint_complete, varint_faulty}
use Rattle.buffa_bytes.proofs.DelimitedLemmas.{taken_sound, taken_complete, taken_faulty, delimited_sound, delimited_complete, delimited_faulty}
use Rattle.buffa_bytes.proofs.FieldLemmas.{tag_sound, tag_complete, tag_faulty, tag_read, tag_some, takes_tag_as, same_false, same_differs, same_true}
use Rattle.buffa_wire.specs.Records.{FieldData, varint, fixed32, fixed64, bytes, group, Records, no_records, one, list_of, records_of}
use Rattle.buffa_wire.specs.Encoding.{wire_of}
use Rattle.buffa_wire.specs.Parse.{FieldOf, Parse, IsPayload, field_count, fields_inside, TakesField, TakesRecords, InsideFault, FieldFaultOf, NextFault, GroupRecordsFault}
use Rattle.buffa_wire.specs.RecordReading.{GroupReader, HaveRead, field_by, group_records_at, group_records_behind, payload_by, plain_at, record_next, record_step, record_then, records_behind}
use Rattle.buffa_wire.proofs.JoinLemmas.{one_deeper}
use Rattle.buffa_wire.proofs.RecordLemmas.{records-list}
use Rattle.buffa_bytes.proofs.SequenceLemmas.{Answers, Ends, Falls, Meets, UpTo, along_complete, along_faulty, along_sound, answer, has_byte, if_meets, not_nil, parsed_meets, upto_agrees, upto_complete, upto_sound, upto_turn}

-- ---- wire types
pub payload_no_end : (x : FieldData) → wire_of x ≢ wire.EndGroup
payload_no_end (varint v) e = cc
payload_no_end (fixed32 v) e = cc
payload_no_end (fixed64 v) e = cc
payload_no_end (bytes v) e = cc
payload_no_end (group v) e = cc

closes_true : (w : WireType) (m n : ℕ) → (same_wire wire.EndGroup w && (m == n)) ≡ true → (w ≡ wire.EndGroup) × (m ≡ n)
closes_true wire.EndGroup m n e = (refl, eqb-true m n e)
closes_true wire.Varint m n e = cc
closes_true wire.Fixed64 m n e = cc
closes_true wire.LengthDelimited m n e = cc
closes_true wire.StartGroup m n e = cc
closes_true wire.Fixed32 m n e = cc

closes_false : (w : WireType) (m n : ℕ) → (same_wire wire.EndGroup w && (m == n)) ≡ false → w ≡ wire.EndGroup → m ≡ n → ⊥
closes_false w m n e p q =
    let k : (same_wire wire.EndGroup wire.EndGroup && (m == n)) ≡ false = subst (λ v. (same_wire wire.EndGroup v && (m == n)) ≡ false) p e in
    true≢false (sym (eq-eqb m n q) ∙ k)

pub closes_no : (w : WireType) (m n : ℕ) → (w ≡ wire.EndGroup → m ≡ n → ⊥) → (same_wire wire.EndGroup w && (m == n)) ≡ false
closes_no wire.EndGroup m n h = ne_eqb m n (h refl)
closes_no wire.Varint m n h = refl
closes_no wire.Fixed64 m n h = refl
closes_no wire.LengthDelimited m n h = refl
closes_no wire.StartGroup m n h = refl
closes_no wire.Fixed32 m n h = refl

pub closes_yes : (w : WireType) (m n : ℕ) → w ≡ wire.EndGroup → m ≡ n → (same_wire wire.EndGroup w && (m == n)) ≡ true
closes_yes w m n e q = rw (e, eq-eqb m n q) refl

abbrev pub Group : Type 0
Group = Records × ℕ × List ℕ

-- a payload, with the unknown fields that are left
abbrev with_left : ℕ → Result (FieldData × List ℕ) DecodeError → Result (FieldData × ℕ × List ℕ) DecodeError
with_left s r = r >>= (λ v. Ok (v.0, s, v.1))

module _ (d : ℕ) (inner : GroupReader) (F : ℕ → ℕ → List ℕ → DecodeError → Type 0) where
  -- the rest of group n begins bs
  abbrev pub TakesGroup : ℕ → ℕ → List ℕ → Group → Type 0
  TakesGroup s n bs v = (p : List ℕ) × IsPayload d n (group v.0) p × (field_count v.0 + v.1 ≡ s) × (bs ≡ p ++ v.2)

  -- a reader of groups answers as the grammar says
  abbrev pub Sound : Type 0
  Sound = (s n : ℕ) (bs : List ℕ) → Agrees (inner s n bs) (λ v. TakesGroup s n bs v) (F s n bs)

  abbrev pub Complete : Type 0
  Complete = (s n : ℕ) (rs : Records) (left : ℕ) (p rest : List ℕ) → IsPayload d n (group rs) p → field_count rs + left ≡ s → inner s n (p ++ rest) ≡ Ok (rs, left, rest)

  abbrev pub Faults : Type 0
  Faults = (s n : ℕ) (bs : List ℕ) (e : DecodeError) → F s n bs e → inner s n bs ≡ Err e

  -- ---- payloads
  abbrev TakesPlain : ℕ → WireType → List ℕ → FieldData × List ℕ → Type 0
  TakesPlain n w bs v = (p : List ℕ) × IsPayload d n v.0 p × (wire_of v.0 ≡ w) × (fields_inside v.0 ≡ 0) × (bs ≡ p ++ v.1)

  plain_sound : (n : ℕ) (w : WireType) (bs : List ℕ) → Agrees (plain_at w bs) (λ v. TakesPlain n w bs v) (PayloadValueFault w bs)
  plain_sound n wire.Varint bs = agree_bind (varint_sound bs) (λ v a. record { holds = (a.0, a.1, refl, refl, a.2) }) (λ e f. f)
  plain_sound n wire.Fixed64 bs = agree_bind (agree_bind (taken_sound 8 bs) (λ v a. record { holds = (v.0, a.0, refl, a.1) }) (λ e f. f))
      (λ v (a : (p : List ℕ) × (length p ≡ 8) × (v.0 ≡ from_le_bytes w64 p) × (bs ≡ p ++ v.1)). record { holds = (a.0, (a.1, a.2), refl, refl, a.3) }) (λ e f. f)
  plain_sound n wire.LengthDelimited bs = agree_bind (delimited_sound bs)
      (λ v a. record { holds = (a.0 ++ v.0, (a.0, a.1, refl), refl, refl, a.2 ∙ sym (append_assoc a.0 v.0 v.1)) }) (λ e f. f)
  plain_sound n wire.StartGroup bs = record { holds = refl }
  plain_sound n wire.EndGroup bs = record { holds = refl }
  plain_sound n wire.Fixed32 bs = agree_bind (agree_bind (taken_sound 4 bs) (λ v a. record { holds = (v.0, a.0, refl, a.1) }) (λ e f. f))
      (λ v (a : (p : List ℕ) × (length p ≡ 4) × (v.0 ≡ from_le_bytes w32 p) × (bs ≡ p ++ v.1)). record { holds = (a.0, (a.1, a.2), refl, refl, a.3) }) (λ e f. f)

  abbrev TakesPayload : ℕ → ℕ → WireType → List ℕ → FieldData × ℕ × List ℕ → Type 0
  TakesPayload s n w bs v = (p : List ℕ) × IsPayload d n v.0 p × (wire_of v.0 ≡ w) × (fields_inside v.0 + v.1 ≡ s) × (bs ≡ p ++ v.2)

  plain_after : (s n : ℕ) (w : WireType) (bs : List ℕ) → Agrees (plain_at w bs >>= (λ v. Ok (v.0, s, v.1))) (λ v. TakesPayload s n w bs v) (PayloadValueFault w bs)
  plain_after s n w bs = agree_bind (plain_sound n w bs) (λ v a. record { holds = (a.0, a.1, a.2, omega (arith, a.3), a.4) }) (λ e f. f)

  payload_sound : Sound → (s n : ℕ) (w : WireType) (bs : List ℕ) → Agrees (payload_by inner s n w bs) (λ v. TakesPayload s n w bs v) (InsideFault F s n w bs)
  payload_sound h s n wire.Varint bs = plain_after s n wire.Varint bs
  payload_sound h s n wire.Fixed64 bs = plain_after s n wire.Fixed64 bs
  payload_sound h s n wire.LengthDelimited bs = plain_after s n wire.LengthDelimited bs
  payload_sound h s n wire.StartGroup bs = agree_bind (h s n bs) (λ v a. record { holds = (a.0, a.1, refl, a.2, a.3) }) (λ e f. f)
  payload_sound h s n wire.EndGroup bs = plain_after s n wire.EndGroup bs
  payload_sound h s n wire.Fixed32 bs = plain_after s n wire.Fixed32 bs

  plain_complete : (n : ℕ) (x : FieldData) (p rest : List ℕ) → wire_of x ≢ wire.StartGroup → IsPayload d n x p → plain_at (wire_of x) (p ++ rest) ≡ Ok (x, rest)
  plain_complete n (varint v) p rest o h = rw (varint_complete p v rest h) refl
  plain_complete n (fixed32 v) p rest o h = rw (taken_complete 4 p rest h.0) (ap (λ z. Ok (fixed32 z, rest)) (sym h.1))
  plain_complete n (fixed64 v) p rest o h = rw (taken_complete 8 p rest h.0) (ap (λ z. Ok (fixed64 z, rest)) (sym h.1))
  plain_complete n (bytes v) p rest o (t, h, e) = rw (e, append_assoc t v rest, delimited_complete t v rest h) refl
  plain_complete n (group v) p rest o h = absurd (o refl)

  payload_complete : Complete → (s n : ℕ) (x : FieldData) (left : ℕ) (p rest : List ℕ) → IsPayload d n x p → fields_inside x + left ≡ s → payload_by inner s n (wire_of x) (p ++ rest) ≡ Ok (x, left, rest)
  payload_complete c s n (varint v) left p rest h e = let k : s ≡ left = omega arith in rw (plain_complete n (varint v) p rest (λ w. cc) h, k) refl
  payload_complete c s n (fixed32 v) left p rest h e = let k : s ≡ left = omega arith in rw (plain_complete n (fixed32 v) p rest (λ w. cc) h, k) refl
  payload_complete c s n (fixed64 v) left p rest h e = let k : s ≡ left = omega arith in rw (plain_complete n (fixed64 v) p rest (λ w. cc) h, k) refl
  payload_complete c s n (bytes v) left p rest h e = let k : s ≡ left = omega arith in rw (plain_complete n (bytes v) p rest (λ w. cc) h, k) refl
  payload_complete c s n (group v) left p rest h e = rw (c s n v left p rest h e) refl

  plain_faulty : (s : ℕ) (w : WireType) (bs : List ℕ) (e : DecodeError) → PayloadValueFault w bs e → with_left s (plain_at w bs) ≡ Err e
  plain_faulty s wire.Varint bs e h = rw (varint_faulty bs e h) refl
  plain_faulty s wire.Fixed64 bs e h = rw (taken_faulty 8 bs h.0) (ap (λ x. Err x) (sym h.1))
  plain_faulty s wire.LengthDelimited bs e h = rw (delimited_faulty bs e h) refl
  plain_faulty s wire.StartGroup bs e h = ap (λ x. Err x) (sym h)
  plain_faulty s wire.EndGroup bs e h = ap (λ x. Err x) (sym h)
  plain_faulty s wire.Fixed32 bs e h = rw (taken_faulty 4 bs h.0) (ap (λ x. Err x) (sym h.1))

  payload_faulty : Faults → (s n : ℕ) (w : WireType) (bs : List ℕ) (e : DecodeError) → InsideFault F s n w bs e → payload_by inner s n w bs ≡ Err e
  payload_faulty c s n wire.Varint bs e h = plain_faulty s wire.Varint bs e h
  payload_faulty c s n wire.Fixed64 bs e h = plain_faulty s wire.Fixed64 bs e h
  payload_faulty c s n wire.LengthDelimited bs e h = plain_faulty s wire.LengthDelimited bs e h
  payload_faulty c s n wire.StartGroup bs e h = rw (c s n bs e h) refl
  payload_faulty c s n wire.EndGroup bs e h = plain_faulty s wire.EndGroup bs e h
  payload_faulty c s n wire.Fixed32 bs e h = plain_faulty s wire.Fixed32 bs e h

  -- ---- a field after its tag
  pub field_sound : Sound → (s n : ℕ) (w : WireType) (bs : List ℕ) → Agrees (field_by inner s n w bs) (λ v. TakesField d s n w bs v.0 v.1 v.2) (FieldFaultOf F s n w bs)
  unfolding field_by
  field_sound h s n w bs = agree_if (same_wire wire.EndGroup w)
      (λ e. record { holds = inl (sym (same_true wire.EndGroup w e), refl) })
      (λ e. agree_if (s == 0)
      (λ z. record { holds = inr (inl (same_differs wire.EndGroup w e, eqb-true s 0 z, refl)) })
      (λ z. let k = eqb-false s 0 z in agree_weaker (payload_sound h (s - 1) n w bs)
      (λ v a. (a.0, a.1, a.2, omega (arith, a.3, k), a.4))
      (λ x f. inr (inr (same_differs wire.EndGroup w e, omega arith, f)))))

  pub field_complete : Complete → (s n : ℕ) (x : FieldData) (left : ℕ) (p rest : List ℕ) → IsPayload d n x p → 1 + fields_inside x + left ≡ s → field_by inner s n (wire_of x) (p ++ rest) ≡ Ok (x, left, rest)
  unfolding field_by
  field_complete c s n x left p rest h e =
      rw (same_false wire.EndGroup (wire_of x) (payload_no_end x), ne_eqb s 0 (λ z. absurd (omega arith))) (payload_complete c (s - 1) n x left p rest h (omega arith))

  pub field_faulty : Faults → (s n : ℕ) (w : WireType) (bs : List ℕ) (e : DecodeError) → FieldFaultOf F s n w bs e → field_by inner s n w bs ≡ Err e
  unfolding field_by
  field_faulty c s n w bs e (inl h) = rw h.0 (ap (λ x. Err x) (sym h.1))
  field_faulty c s n w bs e (inr (inl h)) = rw (same_false wire.EndGroup w h.0, eq-eqb s 0 h.1) (ap (λ x. Err x) (sym h.2))
  field_faulty c s n w bs e (inr (inr h)) = rw (same_false wire.EndGroup w h.0, ne_eqb s 0 (λ z. absurd (omega (arith, h.1)))) (payload_faulty c (s - 1) n w bs e h.2)

  -- ---- fields, one after another
  -- a field, whose record is put behind the others
  abbrev Step : HaveRead → List ℕ → HaveRead → Type 0
  Step s p t = (n : ℕ) × (x : FieldData) × FieldOf (IsPayload d n x) n (wire_of x) p × (t.0 ≡ s.0 ++ (n, x) ∷ []) × (1 + fields_inside x + t.1 ≡ s.1)

  some : (s t : HaveRead) (p : List ℕ) → Step s p t → 0 < length p
  some s t p (n, x, (g, q, tag, payload, is), e, left) = omega (arith, tag_some g n (wire_of x) tag, ap length is, length-append g q)

  -- fields that lead from some records to others are those that were added
  records_of_pieces : (ps : List (List ℕ)) (s t : HaveRead) → ParsesEach Step s ps t → (rs : Records) × Parse d (join ps) rs × (t.0 ≡ s.0 ++ list_of rs) × (field_count rs + t.1 ≡ s.1)
  records_of_pieces [] s t h = (no_records, refl, sym (ap (λ z. z.0) h) ∙ sym (append-nil s.0), omega (arith, ap (λ z. z.1) h))
  records_of_pieces (p ∷ ps) s t (u, (n, x, field, e, left), h) =
      let i = records_of_pieces ps u t h in
      (one n x i.0, (p, join ps, field, i.1, refl), i.2 ∙ ap (λ z. z ++ list_of i.0) e ∙ append_assoc s.0 ((n, x) ∷ []) (list_of i.0), omega (arith, i.3, left))

  -- and records are such fields
  pieces_of_records : (rs : Records) (b : List ℕ) (s : HaveRead) (left : ℕ) → Parse d b rs → field_count rs + left ≡ s.1 → (ps : List (List ℕ)) × (b ≡ join ps) × ParsesEach Step s ps (s.0 ++ list_of rs, left)
  pieces_of_records no_records b s left h e = let same : s.1 ≡ left = omega (arith, e) in ([], h, (λ i. (sym (append-nil s.0) i, same i)))
  pieces_of_records (one n x rs) b s left (f, rest, field, more, is) e =
      let u : HaveRead = (s.0 ++ (n, x) ∷ [], field_count rs + left) in
      let i = pieces_of_records rs rest u left more refl in
      (f ∷ i.0, is ∙ ap (λ z. f ++ z) i.1, (u, (n, x, field, refl, omega (arith, e)), subst (λ z. ParsesEach Step u i.0 (z, left)) (append_assoc s.0 ((n, x) ∷ []) (list_of rs)) i.2))

  -- the same of those that begin the bytes
  reached : (s : ℕ) (bs rest : List ℕ) (t : HaveRead) → ParsesTo Step ([], s) bs t rest → TakesRecords d s bs (records_of t.0) t.1 rest
  reached s bs rest t (ps, is, w) =
      let i = records_of_pieces ps ([], s) t w in
      let same : records_of t.0 ≡ i.0 = ap records_of i.2 ∙ records-list i.0 in
      (join ps, subst (λ z. Parse d (join ps) z) (sym same) i.1, subst (λ z. field_count z + t.1 ≡ s) (sym same) i.3, is)

  reaches : (s left : ℕ) (bs rest : List ℕ) (rs : Records) → TakesRecords d s bs rs left rest → ParsesTo Step ([], s) bs (list_of rs, left) rest
  reaches s left bs rest rs (b, h, e, is) = let i = pieces_of_records rs b ([], s) left h e in (i.0, is ∙ ap (λ z. z ++ rest) i.1, i.2)

  -- ---- the field after its tag
  then_sound : Sound → (s : HaveRead) (bs : List ℕ) (t : ℕ × WireType × List ℕ) → TakesTag bs t.0 t.1 t.2 → Agrees (record_then inner s t) (λ y. (p : List ℕ) × Step s p y.0 × (bs ≡ p ++ y.1)) (FieldFaultOf F s.1 t.0 t.1 t.2)
  then_sound h s bs t u = agree_bind (field_sound h s.1 t.0 t.1 t.2)
      (λ x a. record { holds = (u.0 ++ a.0, (t.0, x.0, (u.0, a.0, subst (λ v. IsTag u.0 t.0 v) (sym a.2) u.1, a.1, refl), refl, a.3), cut_twice bs u.0 a.0 t.2 x.2 u.2 a.4) }) (λ e f. f)

  then_complete : Complete → (s t : HaveRead) (n : ℕ) (x : FieldData) (q rest : List ℕ) → IsPayload d n x q → t.0 ≡ s.0 ++ (n, x) ∷ [] → 1 + fields_inside x + t.1 ≡ s.1 → record_then inner s (n, wire_of x, q ++ rest) ≡ Ok (t, rest)
  then_complete c s t n x q rest payload e left = rw (field_complete c s.1 n x t.1 q rest payload left) (ap (λ z. Ok ((z, t.1), rest)) (sym e))

  then_faulty : Faults → (s : HaveRead) (n : ℕ) (w : WireType) (rest : List ℕ) (e : DecodeError) → FieldFaultOf F s.1 n w rest e → record_then inner s (n, w, rest) ≡ Err e
  then_faulty k s n w rest e f = rw (field_faulty k s.1 n w rest e f) refl

  -- ---- up to the end tag of group n
  module _ (n : ℕ) where
    abbrev GroupEnds : HaveRead → List ℕ → Group → Type 0
    GroupEnds t rest v = (v.0 ≡ records_of t.0) × (v.1 ≡ t.1) × TakesTag rest n wire.EndGroup v.2

    abbrev GroupStops : HaveRead → List ℕ → DecodeError → Type 0
    GroupStops t rest e = NextFault (λ m. m ≡ n) F t.1 rest e

    module _ (h : Sound) where
      meets : (s : HaveRead) (bs : List ℕ) (r : Result (ℕ × WireType × List ℕ) DecodeError) → tag_at bs ≡ r → Meets Step (Ends GroupEnds GroupStops) (record_step inner n s r) s bs
      meets s bs (Ok t) e =
          let u = agree_ok (tag_at bs) t (tag_sound bs) e in
          if_meets Step (Ends GroupEnds GroupStops) (same_wire wire.EndGroup t.1 && (t.0 == n)) (Ok (records_of s.0, s.1, t.2)) (parsed (record_then inner s t)) s bs
          (λ last. let c = closes_true t.1 t.0 n last in (refl, refl, takes_tag_as bs t.2 t.0 n t.1 wire.EndGroup u c.1 c.0))
          (λ other. parsed_meets Step GroupEnds GroupStops (record_then inner s t) s bs (agree_weaker (then_sound h s bs t u) (λ x p. p) (λ e f. inr (t.0, t.1, t.2, u, closes_false t.1 t.0 n other, f))))
      meets s bs (Err x) e = inl (agree_err (tag_at bs) x (tag_sound bs) e)

      pub group_turn : (s : HaveRead) (bs : List ℕ) → group_records_behind inner n s bs ≡ step_then (group_records_behind inner n) (record_step inner n s (tag_at bs))
      unfolding group_records_behind
      group_turn s bs = upto_turn Step (Ends GroupEnds GroupStops) some (λ t rest. record_step inner n t (tag_at rest)) (Err UnexpectedEof) (λ t rest. meets t rest (tag_at rest) refl) s bs

      group_reported : (s : HaveRead) (bs : List ℕ) → Agrees (group_records_behind inner n s bs) (UpTo Step GroupEnds s bs) (UpTo Step GroupStops s bs)
      unfolding group_records_behind
      group_reported s bs =
          let all = upto_sound Step (Ends GroupEnds GroupStops) some (λ t rest. record_step inner n t (tag_at rest)) (Err UnexpectedEof) (λ t rest. meets t rest (tag_at rest) refl) s bs in
          upto_agrees Step GroupEnds GroupStops (scan (λ t rest. record_step inner n t (tag_at rest)) (Err UnexpectedEof) s bs) s bs all

      group_read : (s : ℕ) (bs : List ℕ) → Agrees (group_records_behind inner n ([], s) bs) (λ v. (mid : List ℕ) × TakesRecords d s bs v.0 v.1 mid × TakesTag mid n wire.EndGroup v.2)
          (λ e. (rs : Records) × (left : ℕ) × (rest : List ℕ) × TakesRecords d s bs rs left rest × NextFault (λ m. m ≡ n) F left rest e)
      group_read s bs = agree_weaker (group_reported ([], s) bs)
          (λ v (t, mid, w, (a, b, u)). (mid, subst (λ z. TakesRecords d s bs z v.1 mid) (sym a) (subst (λ z. TakesRecords d s bs (records_of t.0) z mid) (sym b) (reached s bs mid t w)), u))
          (λ e (t, rest, w, f). (records_of t.0, t.1, rest, reached s bs rest t w, f))

      group_goes : Complete → (s t : HaveRead) (p rest : List ℕ) → Step s p t → record_step inner n s (tag_at (p ++ rest)) ≡ goes t rest (λ r. r)
      group_goes c s t p rest (m, x, (g, q, tag, payload, is), e, left) =
          rw (is, append_assoc g q rest, tag_complete g m (wire_of x) (q ++ rest) tag, closes_no (wire_of x) m n (λ w. absurd (payload_no_end x w)), then_complete c s t m x q rest payload e left) refl

      group_passed : Complete → (s t : HaveRead) (bs rest : List ℕ) (r : Result Group DecodeError) → ParsesTo Step s bs t rest → record_step inner n t (tag_at rest) ≡ ends r → group_records_behind inner n s bs ≡ r
      unfolding group_records_behind
      group_passed c s t bs rest r w e =
          upto_complete Step (Ends GroupEnds GroupStops) some (λ t rest. record_step inner n t (tag_at rest)) (Err UnexpectedEof) (λ t rest. meets t rest (tag_at rest) refl) (group_goes c) s bs r (t, rest, w, e)

      group_whole : Complete → (s left : ℕ) (rs : Records) (bs mid rest : List ℕ) → TakesRecords d s bs rs left mid → TakesTag mid n wire.EndGroup rest → group_records_behind inner n ([], s) bs ≡ Ok (rs, left, rest)
      group_whole c s left rs bs mid rest h u =
          group_passed c ([], s) (list_of rs, left) bs mid (Ok (rs, left, rest)) (reaches s left bs mid rs h) (rw (tag_read mid rest n wire.EndGroup u, closes_yes wire.EndGroup n n refl refl, records-list rs) refl)

      group_stops : Complete → Faults → (s left : ℕ) (rs : Records) (bs rest : List ℕ) (e : DecodeError) → TakesRecords d s bs rs left rest → NextFault (λ m. m ≡ n) F left rest e → group_records_behind inner n ([], s) bs ≡ Err e
      group_stops c k s left rs bs rest e h (inl f) = group_passed c ([], s) (list_of rs, left) bs rest (Err e) (reaches s left bs rest rs h) (rw (tag_faulty rest e f) refl)
      group_stops c k s left rs bs rest e h (inr (m, w, after, u, o, f)) =
          group_passed c ([], s) (list_of rs, left) bs rest (Err e) (reaches s left bs rest rs h) (rw (tag_read rest after m w u, closes_no w m n o, then_faulty k (list_of rs, left) m w after e f) refl)

  -- ---- to the end of the bytes
  abbrev Stops : HaveRead → List ℕ → DecodeError → Type 0
  Stops s bs e = NextFault (λ m. ⊥) F s.1 bs e

  next_sound : Sound → (s : HaveRead) (bs : List ℕ) → Agrees (record_next inner s bs) (λ x. (p : List ℕ) × Step s p x.0 × (bs ≡ p ++ x.1)) (Stops s bs)
  next_sound h s bs = agree_bind (tag_sound bs) (λ t u. agree_weaker (then_sound h s bs t u) (λ x p. p) (λ e f. inr (t.0, t.1, t.2, u, (λ p q. q), f))) (λ e f. inl f)

  next_complete : Complete → (s t : HaveRead) (p rest : List ℕ) → Step s p t → record_next inner s (p ++ rest) ≡ Ok (t, rest)
  next_complete c s t p rest (n, x, (g, q, tag, payload, is), e, left) =
      rw (is, append_assoc g q rest, tag_complete g n (wire_of x) (q ++ rest) tag) (then_complete c s t n x q rest payload e left)

  next_faulty : Faults → (s : HaveRead) (bs : List ℕ) (e : DecodeError) → Stops s bs e → record_next inner s bs ≡ Err e
  next_faulty k s bs e (inl f) = rw (tag_faulty bs e f) refl
  next_faulty k s bs e (inr (n, w, rest, u, o, f)) = rw (tag_read bs rest n w u) (then_faulty k s n w rest e f)

  pub next_falls : Sound → Falls (record_next inner)
  next_falls h s bs x e = let u = agree_ok (record_next inner s bs) x (next_sound h s bs) e in omega (arith, some s x.0 u.0 u.1, ap length u.2, length-append u.0 x.1)

  module _ (h : Sound) (c : Complete) (k : Faults) where
    reported : (s : HaveRead) (bs : List ℕ) (e : DecodeError) → Stops s bs e → Answers (Unit {0}) (record_next inner s bs) e
    reported s bs e f = answer (next_faulty k s bs e f)

    pub records_sound_in : (s : ℕ) (bs : List ℕ) → Agrees (records_behind inner ([], s) bs) (λ v. TakesRecords d s bs v.0 v.1 v.2 × (v.2 ≡ []))
        (λ e. (rs : Records) × (left : ℕ) × (rest : List ℕ) × TakesRecords d s bs rs left rest × (0 < length rest) × NextFault (λ m. ⊥) F left rest e)
    records_sound_in s bs = agree_bind (along_sound Step (record_next inner) Stops (next_sound h) (next_complete c) (Unit {0}) reported some ([], s) bs)
        (λ t w. record { holds = (reached s bs [] t w, refl) }) (λ e (t, rest, w, o, f). (records_of t.0, t.1, rest, reached s bs rest t w, has_byte rest o, f))

    pub records_complete_in : (s left : ℕ) (rs : Records) (bs : List ℕ) → Parse d bs rs → field_count rs + left ≡ s → records_behind inner ([], s) bs ≡ Ok (rs, left, [])
    records_complete_in s left rs bs x q =
        rw (along_complete Step (record_next inner) Stops (next_sound h) (next_complete c) (Unit {0}) reported some ([], s) (list_of rs, left) bs (reaches s left bs [] rs (bs, x, q, sym (append-nil bs))))
        (ap (λ z. Ok (z, left, [])) (records-list rs))

    pub records_faulty_in : (s left : ℕ) (rs : Records) (bs rest : List ℕ) (e : DecodeError) → TakesRecords d s bs rs left rest → 0 < length rest → NextFault (λ m. ⊥) F left rest e → records_behind inner ([], s) bs ≡ Err e
    records_faulty_in s left rs bs rest e t o x =
        let q = along_faulty Step (record_next inner) Stops (next_sound h) (next_complete c) (Unit {0}) reported some ([], s) bs e ((list_of rs, left), rest, reaches s left bs rest rs t, not_nil rest o, x) in
        rw q.1 (ap (λ z. Err z) (sym (q.2 tt)))

-- ---- groups nested at most d deep
pub group_sound : (d : ℕ) → Sound d (group_records_at d) (GroupRecordsFault d)
unfolding group_records_at GroupRecordsFault
group_sound zero s n bs = record { holds = refl }
group_sound (suc d) s n bs = agree_weaker (group_read d (group_records_at d) (GroupRecordsFault d) n (group_sound d) s bs)
    (λ v (mid, (b, h, e, is), (t, tag, split)).
    (b ++ t, (omega arith, b, t, subst (λ k. Parse k b v.0) (sym (one_deeper d)) h, tag, refl), e, is ∙ ap (λ z. b ++ z) split ∙ sym (append_assoc b t v.2)))
    (λ e f. f)

pub group_complete : (d : ℕ) → Complete d (group_records_at d) (GroupRecordsFault d)
unfolding group_records_at
group_complete zero s n rs left p rest (o, b, t, h, tag, is) e = absurd (omega arith)
group_complete (suc d) s n rs left p rest (o, b, t, h, tag, is) e =
    group_whole d (group_records_at d) (GroupRecordsFault d) n (group_sound d) (group_complete d) s left rs (p ++ rest) (t ++ rest) rest
    (b, subst (λ k. Parse k b rs) (one_deeper d) h, e, ap (λ z. z ++ rest) is ∙ append_assoc b t rest) (t, tag, refl)

pub group_faulty : (d : ℕ) → Faults d (group_records_at d) (GroupRecordsFault d)
unfolding group_records_at GroupRecordsFault
group_faulty zero s n bs e h = ap (λ x. Err x) (sym h)
group_faulty (suc d) s n bs e (rs, left, rest, h, f) = group_stops d (group_records_at d) (GroupRecordsFault d) n (group_sound d) (group_complete d) (group_faulty d) s left rs bs rest e h f
