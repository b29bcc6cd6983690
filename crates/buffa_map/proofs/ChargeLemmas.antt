-- What fields and entries need of a budget, and how the loop over the fields pays it.
use Rattle.std.proofs.Common.{◌≡◌, ◌≢◌, ◌⊎◌, inl, inr, ℕ, zero, suc, ◌+◌, ◌==◌, ◌<◌, ◌≤◌, Bool, true, false, List, [], ◌∷◌, length, Result, Ok, Err, refl, sym, ap, subst, ◌∙◌, arith, if◌then◌else◌}
use Rattle.std.proofs.lemmas.Bool.{eq-eqb, ne_eqb}
use Rattle.buffa_bytes.specs.Field.{TakesDelimited, TakesTag}
use Rattle.buffa_bytes.specs.Readings.{tag_at, check_wire, delimited_at, skip_at, same_wire}
use Rattle.buffa_wire.specs.BudgetLeft.{BudgetLeft, Lacks, Pays, PaysAtMost, nothing, plus, unknown_fields, IsLimit, costs}
use Rattle.buffa_wire.proofs.MessageLemmas.{NoLimit, length_no_limit, payload_no_limit, tag_no_limit}
use Rattle.buffa_bytes.specs.declared.wire_type.WireType.{WireType}
use Rattle.buffa_bytes.specs.declared.error.DecodeError.{DecodeError}
use Rattle.buffa_bytes.specs.declared.error.DecodeError.TheVariants.{ElementMemoryLimitExceeded, RecursionLimitExceeded, UnknownFieldLimitExceeded}
use Rattle.buffa_bytes.proofs.DelimitedLemmas.{delimited_sound, delimited_taken}
use Rattle.buffa_bytes.proofs.StepLemmas.{agree_ok, agree_err}
use Rattle.buffa_bytes.proofs.FieldLemmas.{tag_falls, tag_sound, same_refl}
use Rattle.buffa_bytes.specs.Scan.{step_then, ParsesTo}
use Rattle.buffa_bytes.proofs.ScanLemmas.{Leads, Shortens, scan_leads, scan_step}
use Rattle.buffa_bytes.specs.PayloadValue.{PayloadValue}
use Rattle.buffa_bytes.proofs.WireLemmas.{check_same}
use Rattle.buffa_map.specs.Codec.{Reading, Tells, ValueFault, level, value_at, value_charge}
use Rattle.buffa_map.specs.Entry.{CodecFault, EntryFault, EntryOf, FaultOf, EntryFieldFault, IsEntry, IsEntryField}
use Rattle.buffa_map.specs.EntryReading.{blanks, codec_charge, entry_field_at, field_charge, inner_charge, charge_at, charge_of}
use Rattle.buffa_map.specs.declared.map_entry.MapEntry.{MapEntry}
use Rattle.buffa_map.proofs.EntryLemmas.{ImplicitField, field_shorter, field_sound, charge_by-nothing, value_free}
use Rattle.buffa_wire.proofs.KeepLemmas.{payload_value_no_limit}

codec_charges : {V : Type 0} (codec : Reading V) (d : ℕ) (w : WireType) (bs : List ℕ) → w ≡ codec.wire → codec_charge codec d w bs ≡ value_charge codec d bs
codec_charges codec d w bs same = rw (same, same_refl codec.wire) refl

if_nothing : (b : Bool) (x : BudgetLeft) → x ≡ nothing → (if b then x else nothing) ≡ nothing
if_nothing true x h = h
if_nothing false x h = refl

if_both : (b : Bool) (x y : BudgetLeft) → x ≡ nothing → y ≡ nothing → (if b then x else y) ≡ nothing
if_both true x y h k = h
if_both false x y h k = k

level_fair : (b : Bool) (d : ℕ) (e : DecodeError) → level b d ≡ Err e → NoLimit e
level_fair false d e h = cc
level_fair true zero RecursionLimitExceeded h = λ l. l
level_fair true zero _ h = cc
level_fair true (suc d) e h = cc

reported_fair : (b : Bool) (x e : DecodeError) → NoLimit x → Tells b x e → NoLimit e
reported_fair false x e n h = subst (λ z. NoLimit z) (sym h) n
reported_fair true x e n (inl h) = subst (λ z. NoLimit z) (sym h) n
reported_fair true x e n (inr h) = h

codec_fair : {V : Type 0} (codec : Reading V) (d n : ℕ) (old : V) → ((c : PayloadValue) (x : DecodeError) → codec.reads d old c ≡ Err x → NoLimit x) → (w : WireType) (bs : List ℕ) (e : DecodeError) → CodecFault codec d n old w bs e → NoLimit e
codec_fair codec d n old fair w bs e (inl h) = subst (λ z. NoLimit z) (sym h.1) (λ l. l)
codec_fair codec d n old fair w bs e (inr (same, inl h)) = level_fair codec.nested d e h
codec_fair codec d n old fair w bs e (inr (same, inr (inl h))) = payload_value_no_limit codec.wire bs e h.1
codec_fair codec d n old fair w bs e (inr (same, inr (inr (o, c, rest, x, t, h, k)))) = reported_fair codec.nested x e (fair c x h) k

module _ {K V : Type 0} (key : Reading K) (val : Reading V) (d : ℕ) where
  -- ---- what the field at the front costs, once its tag is read
  pub charge-key : (bs rest : List ℕ) (n : ℕ) (w : WireType) → tag_at bs ≡ Ok (n, w, rest) → n ≡ 1 → w ≡ key.wire → field_charge key val d bs ≡ value_charge key d rest
  charge-key bs rest n w h one same = rw (h, eq-eqb n 1 one) (codec_charges key d w rest same)

  pub charge-value : (bs rest : List ℕ) (n : ℕ) (w : WireType) → tag_at bs ≡ Ok (n, w, rest) → n ≢ 1 → n ≡ 2 → w ≡ val.wire → field_charge key val d bs ≡ value_charge val d rest
  charge-value bs rest n w h not two same = rw (h, ne_eqb n 1 not, eq-eqb n 2 two) (codec_charges val d w rest same)

  -- ---- why a field isn't merged
  pub field_broken : (s : MapEntry K V) (bs : List ℕ) (e : DecodeError) → entry_field_at key val d s bs ≡ Err e → EntryFieldFault key val d s bs e
  field_broken s bs e h = agree_err (entry_field_at key val d s bs) e (field_sound key val d s bs) h

  pub key_mismatch : (s : MapEntry K V) (bs rest : List ℕ) (n : ℕ) (v w : WireType) (e : DecodeError) → tag_at bs ≡ Ok (n, w, rest) → n ≡ 1 → v ≡ key.wire → check_wire n v w ≡ Err e → EntryFieldFault key val d s bs e
  key_mismatch s bs rest n v w e h one is bad =
      let k : check_wire 1 key.wire w ≡ Err e = subst (λ z. check_wire 1 z w ≡ Err e) is (subst (λ z. check_wire z v w ≡ Err e) one bad) in
      field_broken s bs e (rw (h, eq-eqb n 1 one, k) refl)

  pub value_mismatch : (s : MapEntry K V) (bs rest : List ℕ) (n : ℕ) (v w : WireType) (e : DecodeError) → tag_at bs ≡ Ok (n, w, rest) → n ≢ 1 → n ≡ 2 → v ≡ val.wire → check_wire n v w ≡ Err e → EntryFieldFault key val d s bs e
  value_mismatch s bs rest n v w e h not two is bad =
      let k : check_wire 2 val.wire w ≡ Err e = subst (λ z. check_wire 2 z w ≡ Err e) is (subst (λ z. check_wire z v w ≡ Err e) two bad) in
      field_broken s bs e (rw (h, ne_eqb n 1 not, eq-eqb n 2 two, k) refl)

  pub other_broken : (s : MapEntry K V) (bs rest : List ℕ) (n : ℕ) (w : WireType) (e : DecodeError) → tag_at bs ≡ Ok (n, w, rest) → n ≢ 1 → n ≢ 2 → skip_at d n w rest ≡ Err e → EntryFieldFault key val d s bs e
  other_broken s bs rest n w e h not_one not_two bad = field_broken s bs e (rw (h, ne_eqb n 1 not_one, ne_eqb n 2 not_two, bad) refl)

  -- a value field is merged, and paid
  pub key_merged : (s : MapEntry K V) (bs rest x : List ℕ) (n : ℕ) (w : WireType) (k : K) (known : Bool) (left over : BudgetLeft) → tag_at bs ≡ Ok (n, w, rest) → n ≡ 1 → w ≡ key.wire →
      value_at key d s.key rest ≡ Ok ((k, known), x) → Pays left (value_charge key d rest) over →
      (entry_field_at key val d s bs ≡ Ok (record s { key = k }, x)) × Pays left (field_charge key val d bs) over
  key_merged s bs rest x n w k known left over h one same e paid = (
    rw (h, eq-eqb n 1 one, check_same 1 key.wire w same, e) refl,
    subst (λ z. Pays left z over) (sym (charge-key bs rest n w h one same)) paid,
  )

  pub value_merged : (s : MapEntry K V) (bs rest x : List ℕ) (n : ℕ) (w : WireType) (v : V) (known now : Bool) (left over : BudgetLeft) → tag_at bs ≡ Ok (n, w, rest) → n ≢ 1 → n ≡ 2 → w ≡ val.wire →
      value_at val d s.value rest ≡ Ok ((v, known), x) → known ≡ now → Pays left (value_charge val d rest) over →
      (entry_field_at key val d s bs ≡ Ok (record s { value = v; known = now }, x)) × Pays left (field_charge key val d bs) over
  value_merged s bs rest x n w v known now left over h not two same is k paid = (
    rw (h, ne_eqb n 1 not, eq-eqb n 2 two, check_same 2 val.wire w same, is, k) refl,
    subst (λ z. Pays left z over) (sym (charge-value bs rest n w h not two same)) paid,
  )

  pub key_refused : (s : MapEntry K V) (bs rest : List ℕ) (n : ℕ) (w : WireType) (left : BudgetLeft) (e : DecodeError) → tag_at bs ≡ Ok (n, w, rest) → n ≡ 1 → w ≡ key.wire →
      Lacks left (value_charge key d rest) ⊎ ValueFault key d s.key rest e → Lacks left (field_charge key val d bs) ⊎ EntryFieldFault key val d s bs e
  key_refused s bs rest n w left e h one same (inl few) = inl (subst (λ z. Lacks left z) (sym (charge-key bs rest n w h one same)) few)
  key_refused s bs rest n w left e h one same (inr bad) =
      let u : TakesTag bs n w rest = agree_ok (tag_at bs) (n, w, rest) (tag_sound bs) h in
      inr (inr (inl (w, rest, subst (λ z. TakesTag bs z w rest) one u, inr (same, bad))))

  pub value_refused : (s : MapEntry K V) (bs rest : List ℕ) (n : ℕ) (w : WireType) (left : BudgetLeft) (e : DecodeError) → tag_at bs ≡ Ok (n, w, rest) → n ≢ 1 → n ≡ 2 → w ≡ val.wire →
      Lacks left (value_charge val d rest) ⊎ ValueFault val d s.value rest e → Lacks left (field_charge key val d bs) ⊎ EntryFieldFault key val d s bs e
  value_refused s bs rest n w left e h not two same (inl few) = inl (subst (λ z. Lacks left z) (sym (charge-value bs rest n w h not two same)) few)
  value_refused s bs rest n w left e h not two same (inr bad) =
      let u : TakesTag bs n w rest = agree_ok (tag_at bs) (n, w, rest) (tag_sound bs) h in
      inr (inr (inr (inl (w, rest, subst (λ z. TakesTag bs z w rest) two u, inr (same, bad)))))

  -- ---- what the fields of an entry cost
  short : (s : MapEntry K V) (bs : List ℕ) (r : Result (MapEntry K V × List ℕ) DecodeError) → entry_field_at key val d s bs ≡ r → Shortens (costs (field_charge key val d bs) r) bs
  short s bs (Ok x) e = field_shorter key val d s x.0 bs x.1 e
  short s bs (Err f) e = tt

  turn : (s : MapEntry K V) (bs : List ℕ) (r : Result (MapEntry K V × List ℕ) DecodeError) → entry_field_at key val d s bs ≡ r → charge_at key val d s bs ≡ step_then (charge_at key val d) (costs (field_charge key val d bs) r)
  unfolding charge_at
  turn s bs r e =
      scan_step (λ t rest. costs (field_charge key val d rest) (entry_field_at key val d t rest)) nothing (λ t rest. short t rest (entry_field_at key val d t rest) refl) s bs
      ∙ ap (λ z. step_then (charge_at key val d) (costs (field_charge key val d bs) z)) e

  -- the front field, and those behind it
  pub charge_step : (s t : MapEntry K V) (bs x : List ℕ) → entry_field_at key val d s bs ≡ Ok (t, x) → charge_at key val d s bs ≡ plus (field_charge key val d bs) (charge_at key val d t x)
  charge_step s t bs x h = turn s bs (Ok (t, x)) h

  -- a field that is refused is the last that counts
  pub charge_stop : (s : MapEntry K V) (bs : List ℕ) (f : DecodeError) → entry_field_at key val d s bs ≡ Err f → charge_at key val d s bs ≡ field_charge key val d bs
  charge_stop s bs f h = turn s bs (Err f) h

  front_by : (s : MapEntry K V) (bs : List ℕ) (r : Result (MapEntry K V × List ℕ) DecodeError) → entry_field_at key val d s bs ≡ r → ((field_charge key val d bs).unknown ≤ (charge_at key val d s bs).unknown) × ((field_charge key val d bs).memory ≤ (charge_at key val d s bs).memory)
  front_by s bs (Ok x) e = let q = turn s bs (Ok x) e in (omega (arith, ap (λ z. z.unknown) q), omega (arith, ap (λ z. z.memory) q))
  front_by s bs (Err f) e = let q = turn s bs (Err f) e in (omega (arith, ap (λ z. z.unknown) q), omega (arith, ap (λ z. z.memory) q))

  pub charge_front : (s : MapEntry K V) (bs : List ℕ) → ((field_charge key val d bs).unknown ≤ (charge_at key val d s bs).unknown) × ((field_charge key val d bs).memory ≤ (charge_at key val d s bs).memory)
  charge_front s bs = front_by s bs (entry_field_at key val d s bs) refl

  none_at : (s : MapEntry K V) (r : Result (ℕ × WireType × List ℕ) DecodeError) → tag_at [] ≡ r → charge_at key val d s [] ≡ nothing
  none_at s (Ok t) e = absurd (omega (arith, tag_falls [] t e))
  none_at s (Err f) e = turn s [] (Err f) (rw e refl) ∙ rw e refl

  pub charge_end : (s : MapEntry K V) (bs : List ℕ) → length bs ≡ 0 → charge_at key val d s bs ≡ nothing
  charge_end s [] h = none_at s (tag_at []) refl
  charge_end s (b ∷ bs) h = absurd (omega (arith, h))

  -- ---- the loop over the fields of e: s was said, r is left, and of start now is left
  module _ (e : List ℕ) (s : MapEntry K V) (r : List ℕ) (start now : BudgetLeft) (some : 0 < length r)
      (unknown : now.unknown + (charge_at key val d (blanks key val d) e).unknown ≡ start.unknown + (charge_at key val d s r).unknown)
      (memory : now.memory + (charge_at key val d (blanks key val d) e).memory ≡ start.memory + (charge_at key val d s r).memory) where
    pub fields_fault : (f : DecodeError) → ParsesTo (IsEntryField key val d) (blanks key val d) e s r → Lacks now (field_charge key val d r) ⊎ EntryFieldFault key val d s r f →
        Lacks start (charge_at key val d (blanks key val d) e) ⊎ FaultOf key val d e f
    fields_fault f h (inl (inl few)) = let front = charge_front s r in inl (inl (omega (arith, few, front.0, unknown)))
    fields_fault f h (inl (inr few)) = let front = charge_front s r in inl (inr (omega (arith, few, front.1, memory)))
    fields_fault f h (inr bad) = inr (s, r, h, (λ z. absurd (omega (arith, some, ap length z))), bad)

    pub fields_spent : (over : BudgetLeft) → now.unknown ≤ start.unknown → now.memory ≤ start.memory → PaysAtMost now (field_charge key val d r) over → PaysAtMost start (charge_at key val d (blanks key val d) e) over
    fields_spent over u m h =
        let front = charge_front s r in
        (omega (arith, u, h.0), omega (arith, unknown, front.0, h.1), omega (arith, m, h.2), omega (arith, memory, front.1, h.3))

  -- ---- a length and an entry
  pub inner_is : (bs e rest : List ℕ) → delimited_at bs ≡ Ok (e, rest) → inner_charge key val d bs ≡ charge_at key val d (blanks key val d) e
  inner_is bs e rest h = rw h refl

  pub entry_short : (cost extra : ℕ) (left : BudgetLeft) (bs : List ℕ) (f : DecodeError) → delimited_at bs ≡ Err f → EntryFault key val d cost extra left bs f
  entry_short cost extra left bs f h = inl (agree_err (delimited_at bs) f (delimited_sound bs) h)

  pub entry_charged : (cost extra : ℕ) (left : BudgetLeft) (bs e rest : List ℕ) (f : DecodeError) → delimited_at bs ≡ Ok (e, rest) → left.memory < cost → f ≡ ElementMemoryLimitExceeded → EntryFault key val d cost extra left bs f
  entry_charged cost extra left bs e rest f h l k = let t = agree_ok (delimited_at bs) (e, rest) (delimited_sound bs) h in inr (e, rest, t, inl (l, k))

  pub lacks_after : (cost : ℕ) (left now : BudgetLeft) (e : List ℕ) → now.memory + cost ≡ left.memory → now.unknown ≡ left.unknown → Lacks now (charge_at key val d (blanks key val d) e) → Lacks left (charge_of key val d cost e)
  lacks_after cost left now e m u (inl few) = inl (omega (arith, u, few))
  lacks_after cost left now e m u (inr few) = inr (omega (arith, m, few))

  pub entry_refused : (cost extra : ℕ) (left : BudgetLeft) (bs e rest : List ℕ) (f : DecodeError) → delimited_at bs ≡ Ok (e, rest) → cost ≤ left.memory →
      Lacks left (charge_of key val d cost e) ⊎ FaultOf key val d e f → EntryFault key val d cost extra left bs f
  entry_refused cost extra left bs e rest f h m (inl few) =
      let t = agree_ok (delimited_at bs) (e, rest) (delimited_sound bs) h in inr (e, rest, t, inr (m, inl few))
  entry_refused cost extra left bs e rest f h m (inr bad) =
      let t = agree_ok (delimited_at bs) (e, rest) (delimited_sound bs) h in inr (e, rest, t, inr (m, inr (inl bad)))

  pub entry_without : (cost extra : ℕ) (left : BudgetLeft) (bs e rest : List ℕ) (s : MapEntry K V) (f : DecodeError) → delimited_at bs ≡ Ok (e, rest) → cost ≤ left.memory → IsEntry key val d e s → s.known ≡ false → left.unknown < (charge_of key val d cost e).unknown + extra →
      f ≡ UnknownFieldLimitExceeded → EntryFault key val d cost extra left bs f
  entry_without cost extra left bs e rest s f h l k no_value few is = let t = agree_ok (delimited_at bs) (e, rest) (delimited_sound bs) h in inr (e, rest, t, inr (l, inr (inr (s, k, no_value, few, is))))

  pub entry_found : (bs e rest : List ℕ) (s : MapEntry K V) → delimited_at bs ≡ Ok (e, rest) → IsEntry key val d e s → EntryOf key val d bs e s rest
  entry_found bs e rest s h k = let t = agree_ok (delimited_at bs) (e, rest) (delimited_sound bs) h in (t, k)

  -- where no length and so many bytes begin them, none do
  pub no_length : {P : Type 0} (bs : List ℕ) (f : DecodeError) → delimited_at bs ≡ Err f → (e rest : List ℕ) → TakesDelimited bs e rest → P
  no_length bs f h e rest t = let k = sym h ∙ delimited_taken bs e rest t in cc

  -- ---- a limit is told only where the need isn't left
  module _ (key_fair : (d : ℕ) (old : K) (c : PayloadValue) (x : DecodeError) → key.reads d old c ≡ Err x → NoLimit x) (val_fair : (d : ℕ) (old : V) (c : PayloadValue) (x : DecodeError) → val.reads d old c ≡ Err x → NoLimit x) where
    field_fair : (s : MapEntry K V) (bs : List ℕ) (f : DecodeError) → EntryFieldFault key val d s bs f → NoLimit f
    field_fair s bs f (inl h) = tag_no_limit bs f h
    field_fair s bs f (inr (inl (w, rest, t, h))) = codec_fair key d 1 s.key (key_fair d s.key) w rest f h
    field_fair s bs f (inr (inr (inl (w, rest, t, h)))) = codec_fair val d 2 s.value (val_fair d s.value) w rest f h
    field_fair s bs f (inr (inr (inr (n, w, rest, not_one, not_two, t, h)))) = payload_no_limit d n w rest f h

    pub entry_limited : (cost extra : ℕ) (left : BudgetLeft) (bs : List ℕ) (f : DecodeError) → EntryFault key val d cost extra left bs f → IsLimit f →
        (e : List ℕ) × (rest : List ℕ) × TakesDelimited bs e rest × (Lacks left (charge_of key val d cost e)
        ⊎ ((s : MapEntry K V) × IsEntry key val d e s × (s.known ≡ false) × Lacks left (plus (charge_of key val d cost e) (unknown_fields extra))))
    entry_limited cost extra left bs f (inl h) l = absurd (length_no_limit bs f h l)
    entry_limited cost extra left bs f (inr (e, rest, t, inl h)) l = (e, rest, t, inl (inr (omega (arith, h.0))))
    entry_limited cost extra left bs f (inr (e, rest, t, inr (many, inl (inl few)))) l = (e, rest, t, inl (inl (omega (arith, few))))
    entry_limited cost extra left bs f (inr (e, rest, t, inr (many, inl (inr few)))) l = (e, rest, t, inl (inr (omega (arith, few))))
    entry_limited cost extra left bs f (inr (e, rest, t, inr (many, inr (inl h)))) l = absurd (field_fair h.0 h.1 f h.4 l)
    entry_limited cost extra left bs f (inr (e, rest, t, inr (many, inr (inr h)))) l = (e, rest, t, inr (h.0, h.1, h.2, inl h.3))

  -- ---- where no payload is nested, nothing is needed
  module _ (key_free : key.nested ≡ false → (d : ℕ) (c : PayloadValue) → key.cost d c ≡ nothing) (val_free : val.nested ≡ false → (d : ℕ) (c : PayloadValue) → val.cost d c ≡ nothing) where
    field_free : (bs : List ℕ) → ImplicitField key val d → field_charge key val d bs ≡ nothing
    field_free bs p = charge_by-nothing (tag_at bs) (λ t. if t.0 == 1 then codec_charge key d t.1 t.2 else (if t.0 == 2 then codec_charge val d t.1 t.2 else nothing))
        (λ t. if_both (t.0 == 1) (codec_charge key d t.1 t.2) (if t.0 == 2 then codec_charge val d t.1 t.2 else nothing)
        (if_nothing (same_wire key.wire t.1) (value_charge key d t.2) (value_free key d key.blank t.2 (key_free p.0 d)))
        (if_nothing (t.0 == 2) (codec_charge val d t.1 t.2) (if_nothing (same_wire val.wire t.1) (value_charge val d t.2) (value_free val d val.blank t.2 (val_free p.1 d)))))

    free_step : (charge : BudgetLeft) (s : MapEntry K V) (bs : List ℕ) (r : Result (MapEntry K V × List ℕ) DecodeError) → charge ≡ nothing → Leads (λ _ _ z. z ≡ nothing) (costs charge r) s bs
    free_step charge s bs (Ok x) h = λ more k. rw (h, k) refl
    free_step charge s bs (Err e) h = h

    pub charge_free : (s : MapEntry K V) (bs : List ℕ) → ImplicitField key val d → charge_at key val d s bs ≡ nothing
    unfolding charge_at
    charge_free s bs p =
        scan_leads (λ t rest. costs (field_charge key val d rest) (entry_field_at key val d t rest)) nothing (λ t rest. short t rest (entry_field_at key val d t rest) refl) (λ _ _ z. z ≡ nothing)
        (λ t rest. free_step (field_charge key val d rest) t rest (entry_field_at key val d t rest) (field_free rest p)) s bs
