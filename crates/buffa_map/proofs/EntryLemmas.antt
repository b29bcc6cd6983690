-- The fields of an entry: what is read of them, and the grammar.
use Rattle.std.proofs.Common.{◌≡◌, ◌⊎◌, inl, inr, ℕ, ◌==◌, ◌<◌, Bool, true, false, List, ◌++◌, length, Result, Ok, Err, refl, sym, ap, subst, ◌∙◌, arith, append_assoc, length-append}
use Rattle.std.proofs.lemmas.Bool.{eqb-true, eqb-false, ne_eqb}
use Rattle.buffa_bytes.proofs.ListLemmas.{cut_twice}
use Rattle.buffa_bytes.specs.Readings.{◌>>=◌}
use Rattle.buffa_bytes.specs.Field.{IsTag, TakesTag}
use Rattle.buffa_bytes.specs.PayloadValue.{PayloadValue, HasPayloadValue, payload_value_at}
use Rattle.buffa_bytes.specs.declared.wire_type.WireType.{WireType}
use Rattle.buffa_bytes.specs.declared.error.DecodeError.{DecodeError}
use Rattle.buffa_bytes.proofs.StepLemmas.{Agrees, agree_bind, agree_if, agree_ok, agree_err, agree_weaker}
use Rattle.buffa_bytes.proofs.FieldLemmas.{tag_as, tag_sound, tag_complete, tag_faulty, tag_some, payload_sound, payload_complete, payload_faulty, tag_read}
use Rattle.buffa_bytes.proofs.PayloadValueLemmas.{payload_value_sound, payload_value_complete, payload_value_taken, payload_value_faulty}
use Rattle.buffa_bytes.proofs.WireLemmas.{check_sound, check_same, check_differs}
use Rattle.buffa_wire.specs.BudgetLeft.{BudgetLeft, Lacks, charge_by, nothing}
use Rattle.buffa_wire.proofs.SpentLemmas.{PaysAtMost_nothing, Pays_nothing}
use Rattle.buffa_bytes.specs.Scan.{ParsesTo}
use Rattle.buffa_map.specs.Codec.{Reading, RefusesValue, Spends, Tells, ValueFault, level, value_at, value_charge}
use Rattle.buffa_map.specs.Entry.{CodecFault, IsCodecField, IsEntryField, EntryFieldFault, IsEntry, FaultOf}
use Rattle.buffa_map.specs.EntryReading.{codec_at, blanks, entry_field_at, entry_of}
use Rattle.buffa_map.specs.declared.map_entry.MapEntry.{MapEntry}
use Rattle.buffa_bytes.proofs.SequenceLemmas.{Answers, answer, answers_as, along_sound, along_complete, along_faulty, ParsesTo-more}

-- ---- budgets
-- what a codec spends, whether its payloads are nested or not
pub spent_in : {T : Type 0} (b : Bool) (r : Result T DecodeError) (left charge over : BudgetLeft) → (b ≡ false → charge ≡ nothing) → Spends b r left charge over → Spends true r left charge over
spent_in false (Ok x) left charge over free h = Pays_nothing left over charge (free refl) h
spent_in false (Err e) left charge over free h = PaysAtMost_nothing left over charge h
spent_in true r left charge over free h = h

-- ---- what a codec makes of a payload
tells_itself : (b : Bool) (x : DecodeError) → Tells b x x
tells_itself false x = refl
tells_itself true x = inl refl

reported_plainly : (b : Bool) (x e : DecodeError) → Tells b x e → b ≡ false → e ≡ x
reported_plainly false x e h k = h
reported_plainly true x e h k = cc

itself : {A : Type 0} (r : Result A DecodeError) → Agrees r (λ x. r ≡ Ok x) (λ e. r ≡ Err e)
itself (Ok x) = record { holds = refl }
itself (Err e) = record { holds = refl }

-- nothing is needed, where nothing is by what may be read
pub charge_by-nothing : {A : Type 0} (r : Result A DecodeError) (f : A → BudgetLeft) → ((x : A) → f x ≡ nothing) → charge_by r f ≡ nothing
charge_by-nothing (Ok x) f h = h x
charge_by-nothing (Err e) f h = refl

module _ {V : Type 0} (codec : Reading V) (d : ℕ) (old : V) where
  -- what a codec makes of the payload at the front
  abbrev pub MakesValue : List ℕ → (V × Bool) × List ℕ → Type 0
  MakesValue bs x = (level codec.nested d ≡ Ok tt) × (p : List ℕ) × (c : PayloadValue) × HasPayloadValue codec.wire p c × (codec.reads d old c ≡ Ok x.0) × (bs ≡ p ++ x.1)

  read_sound : (c : PayloadValue) (rest : List ℕ) (r : Result (V × Bool) DecodeError) → codec.reads d old c ≡ r →
      Agrees (r >>= (λ v. let x : (V × Bool) × List ℕ = (v, rest) in Ok x)) (λ x. (codec.reads d old c ≡ Ok x.0) × (rest ≡ x.1)) (λ e. codec.reads d old c ≡ Err e)
  read_sound c rest (Ok v) h = record { holds = (h, refl) }
  read_sound c rest (Err e) h = record { holds = h }

  pub value_sound : (bs : List ℕ) → Agrees (value_at codec d old bs) (MakesValue bs) (ValueFault codec d old bs)
  value_sound bs = agree_bind (itself (level codec.nested d))
      (λ _ open_level. agree_bind (payload_value_sound codec.wire bs)
      (λ c t. agree_weaker (read_sound c.0 c.1 (codec.reads d old c.0) refl)
      (λ x h. (open_level, t.0, c.0, t.1, h.0, t.2 ∙ ap (λ z. t.0 ++ z) h.1))
      (λ e h. inr (inr (open_level, c.0, c.1, e, t, h, tells_itself codec.nested e))))
      (λ e h. inr (inl (open_level, h))))
      (λ e h. inl h)

  pub value_complete : (p rest : List ℕ) (c : PayloadValue) (x : V × Bool) → level codec.nested d ≡ Ok tt → HasPayloadValue codec.wire p c → codec.reads d old c ≡ Ok x → value_at codec d old (p ++ rest) ≡ Ok (x, rest)
  value_complete p rest c x open_level h k = rw (open_level, payload_value_complete codec.wire p c rest h, k) refl

  pub value_faulty : (bs : List ℕ) (e : DecodeError) → ValueFault codec d old bs e → Answers (codec.nested ≡ false) (value_at codec d old bs) e
  value_faulty bs e (inl h) = answer (rw h refl)
  value_faulty bs e (inr (inl (open_level, h))) = answer (rw (open_level, payload_value_faulty codec.wire bs e h) refl)
  value_faulty bs e (inr (inr (open_level, c, rest, x, t, h, k))) = (x, rw (open_level, payload_value_taken codec.wire bs c rest t, h) refl, reported_plainly codec.nested x e k)

  -- why merging refuses, whether payloads are nested or not
  pub refused_in : (b : Bool) (bs : List ℕ) (left : BudgetLeft) (e : DecodeError) → RefusesValue b codec d old bs left e → Lacks left (value_charge codec d bs) ⊎ ValueFault codec d old bs e
  refused_in false bs left e h = inr (agree_err (value_at codec d old bs) e (value_sound bs) h)
  refused_in true bs left e h = h

  pub value_free : (bs : List ℕ) → ((c : PayloadValue) → codec.cost d c ≡ nothing) → value_charge codec d bs ≡ nothing
  value_free bs h = charge_by-nothing (payload_value_at codec.wire bs) (λ c. codec.cost d c.0) (λ c. h c.0)

module _ {V : Type 0} (codec : Reading V) (d n : ℕ) (old : V) where
  -- what a codec makes of the payload at the front, in a field of wire type w
  abbrev pub MakesAt : WireType → List ℕ → (V × Bool) × List ℕ → Type 0
  MakesAt w bs x = (w ≡ codec.wire) × (level codec.nested d ≡ Ok tt) × (p : List ℕ) × (c : PayloadValue) × HasPayloadValue codec.wire p c × (codec.reads d old c ≡ Ok x.0) × (bs ≡ p ++ x.1)

  pub codec_sound : (w : WireType) (bs : List ℕ) → Agrees (codec_at codec d n old w bs) (MakesAt w bs) (CodecFault codec d n old w bs)
  codec_sound w bs = agree_bind (check_sound n codec.wire w)
      (λ _ same. agree_weaker (value_sound codec d old bs) (λ x m. (same, m.0, m.1, m.2, m.3, m.4, m.5)) (λ e h. inr (same, h)))
      (λ e h. inl h)

  -- behind a tag of the field's number that is such a field
  codec_field : (tag bs : List ℕ) (m : ℕ) (w : WireType) (x : (V × Bool) × List ℕ) (made : MakesAt w bs x) → IsTag tag m w → m ≡ n → IsCodecField codec d n old (tag ++ made.2) x.0.0 x.0.1
  codec_field tag bs m w x made is_tag same =
      (tag, made.2, made.3, tag_as tag m n w codec.wire is_tag same made.0, made.1, made.4, made.5, refl)

  pub codec_complete : (w : WireType) (p rest : List ℕ) (c : PayloadValue) (x : V × Bool) → w ≡ codec.wire → level codec.nested d ≡ Ok tt → HasPayloadValue codec.wire p c → codec.reads d old c ≡ Ok x → codec_at codec d n old w (p ++ rest) ≡ Ok (x, rest)
  codec_complete w p rest c x same open_level h k = rw (check_same n codec.wire w same) (value_complete codec d old p rest c x open_level h k)

  pub codec_faulty : (w : WireType) (bs : List ℕ) (e : DecodeError) → CodecFault codec d n old w bs e → Answers (codec.nested ≡ false) (codec_at codec d n old w bs) e
  codec_faulty w bs e (inl h) = answer (rw (check_differs n codec.wire w h.0) (ap (λ x. Err x) (sym h.1)))
  codec_faulty w bs e (inr (same, h)) = answers_as (λ x k. rw (check_same n codec.wire w same) k) (value_faulty codec d old bs e h)

module _ {K V : Type 0} (key : Reading K) (val : Reading V) (d : ℕ) where
  -- one field at the front of the bytes
  abbrev pub FieldAt : MapEntry K V → List ℕ → MapEntry K V × List ℕ → Type 0
  FieldAt s bs x = (f : List ℕ) × IsEntryField key val d s f x.0 × (bs ≡ f ++ x.1)

  pub field_sound : (s : MapEntry K V) (bs : List ℕ) → Agrees (entry_field_at key val d s bs) (FieldAt s bs) (EntryFieldFault key val d s bs)
  field_sound s bs = agree_bind (tag_sound bs)
      (λ t u. agree_if (t.0 == 1)
      (λ one. let is : t.0 ≡ 1 = eqb-true t.0 1 one in
      agree_bind (codec_sound key d 1 s.key t.1 t.2)
      (λ x m. record {
        holds = (
          u.0 ++ m.2,
          inl (x.0.0, x.0.1, codec_field key d 1 s.key u.0 t.2 t.0 t.1 x m u.1 is, refl),
          cut_twice bs u.0 m.2 t.2 x.1 u.2 m.6,
        );
      })
      (λ e h. inr (inl (t.1, t.2, subst (λ f. TakesTag bs f t.1 t.2) is u, h))))
      (λ not_one. agree_if (t.0 == 2)
      (λ two. let is : t.0 ≡ 2 = eqb-true t.0 2 two in
      agree_bind (codec_sound val d 2 s.value t.1 t.2)
      (λ x m. record {
        holds = (
          u.0 ++ m.2,
          inr (inl (x.0.0, x.0.1, codec_field val d 2 s.value u.0 t.2 t.0 t.1 x m u.1 is, refl)),
          cut_twice bs u.0 m.2 t.2 x.1 u.2 m.6,
        );
      })
      (λ e h. inr (inr (inl (t.1, t.2, subst (λ f. TakesTag bs f t.1 t.2) is u, h)))))
      (λ not_two. agree_bind (payload_sound d t.0 t.1 t.2)
      (λ rest p. record {
        holds = (
          u.0 ++ p.0,
          inr (inr (t.0, t.1, eqb-false t.0 1 not_one, eqb-false t.0 2 not_two, (u.0, p.0, u.1, p.1, refl), refl)),
          cut_twice bs u.0 p.0 t.2 rest u.2 p.2,
        );
      })
      (λ e h. inr (inr (inr (t.0, t.1, t.2, eqb-false t.0 1 not_one, eqb-false t.0 2 not_two, u, h)))))))
      (λ e h. inl h)

  pub field_complete : (s t : MapEntry K V) (f rest : List ℕ) → IsEntryField key val d s f t → entry_field_at key val d s (f ++ rest) ≡ Ok (t, rest)
  field_complete s t f rest (inl (k, known, (tag, p, c, is_tag, o, h, r, e), st)) =
      let split : f ++ rest ≡ tag ++ (p ++ rest) = ap (λ z. z ++ rest) e ∙ append_assoc tag p rest in
      rw (split, tag_complete tag 1 key.wire (p ++ rest) is_tag, codec_complete key d 1 s.key key.wire p rest c (k, known) refl o h r) (ap (λ z. Ok (z, rest)) (sym st))
  field_complete s t f rest (inr (inl (v, known, (tag, p, c, is_tag, o, h, r, e), st))) =
      let split : f ++ rest ≡ tag ++ (p ++ rest) = ap (λ z. z ++ rest) e ∙ append_assoc tag p rest in
      rw (split, tag_complete tag 2 val.wire (p ++ rest) is_tag, codec_complete val d 2 s.value val.wire p rest c (v, known) refl o h r) (ap (λ z. Ok (z, rest)) (sym st))
  field_complete s t f rest (inr (inr (n, w, not_one, not_two, (tag, p, is_tag, h, e), st))) =
      let split : f ++ rest ≡ tag ++ (p ++ rest) = ap (λ z. z ++ rest) e ∙ append_assoc tag p rest in
      rw (split, tag_complete tag n w (p ++ rest) is_tag, ne_eqb n 1 not_one, ne_eqb n 2 not_two, payload_complete d n w p rest h) (ap (λ z. Ok (z, rest)) (sym st))

  -- no payload of a key or a value is nested
  abbrev pub ImplicitField : Type 0
  ImplicitField = (key.nested ≡ false) × (val.nested ≡ false)

  pub field_faulty : (s : MapEntry K V) (bs : List ℕ) (e : DecodeError) → EntryFieldFault key val d s bs e → Answers ImplicitField (entry_field_at key val d s bs) e
  field_faulty s bs e (inl h) = answer (rw (tag_faulty bs e h) refl)
  field_faulty s bs e (inr (inl (w, rest, t, h))) = let q = codec_faulty key d 1 s.key w rest e h in (q.0, rw (tag_read bs rest 1 w t, q.1) refl, λ p. q.2 p.0)
  field_faulty s bs e (inr (inr (inl (w, rest, t, h)))) = let q = codec_faulty val d 2 s.value w rest e h in (q.0, rw (tag_read bs rest 2 w t, q.1) refl, λ p. q.2 p.1)
  field_faulty s bs e (inr (inr (inr (n, w, rest, not_one, not_two, t, h)))) = answer (rw (tag_read bs rest n w t, ne_eqb n 1 not_one, ne_eqb n 2 not_two, payload_faulty d n w rest e h) refl)

  field_some : (s t : MapEntry K V) (f : List ℕ) → IsEntryField key val d s f t → 0 < length f
  field_some s t f (inl (k, known, (tag, p, c, is_tag, o, h, r, e), st)) = omega (arith, tag_some tag 1 key.wire is_tag, ap length e, length-append tag p)
  field_some s t f (inr (inl (v, known, (tag, p, c, is_tag, o, h, r, e), st))) = omega (arith, tag_some tag 2 val.wire is_tag, ap length e, length-append tag p)
  field_some s t f (inr (inr (n, w, not_one, not_two, (tag, p, is_tag, h, e), st))) = omega (arith, tag_some tag n w is_tag, ap length e, length-append tag p)

  pub entry_sound : (e : List ℕ) → Agrees (entry_of key val d e) (IsEntry key val d e) (FaultOf key val d e)
  entry_sound e = along_sound (IsEntryField key val d) (entry_field_at key val d) (EntryFieldFault key val d) field_sound field_complete ImplicitField field_faulty field_some (blanks key val d) e

  pub entry_complete : (e : List ℕ) (s : MapEntry K V) → IsEntry key val d e s → entry_of key val d e ≡ Ok s
  entry_complete e s h = along_complete (IsEntryField key val d) (entry_field_at key val d) (EntryFieldFault key val d) field_sound field_complete ImplicitField field_faulty field_some (blanks key val d) s e h

  pub entry_faulty : (e : List ℕ) (f : DecodeError) → FaultOf key val d e f → Answers ImplicitField (entry_of key val d e) f
  entry_faulty e f h = along_faulty (IsEntryField key val d) (entry_field_at key val d) (EntryFieldFault key val d) field_sound field_complete ImplicitField field_faulty field_some (blanks key val d) e f h

  -- ---- the loop over the fields
  pub field_step : (e : List ℕ) (s t : MapEntry K V) (r x : List ℕ) → ParsesTo (IsEntryField key val d) (blanks key val d) e s r → entry_field_at key val d s r ≡ Ok (t, x) → ParsesTo (IsEntryField key val d) (blanks key val d) e t x
  field_step e s t r x h k =
      let u = agree_ok (entry_field_at key val d s r) (t, x) (field_sound s r) k in
      ParsesTo-more (IsEntryField key val d) e (blanks key val d) s t u.0 r x h u.1 u.2

  pub field_shorter : (s t : MapEntry K V) (r x : List ℕ) → entry_field_at key val d s r ≡ Ok (t, x) → length x < length r
  field_shorter s t r x k =
      let u = agree_ok (entry_field_at key val d s r) (t, x) (field_sound s r) k in
      omega (arith, field_some s t u.0 u.1, ap length u.2, length-append u.0 x)
