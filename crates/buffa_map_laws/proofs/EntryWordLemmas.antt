-- Entries and runs in the words of bytes: each piece more, and each fault.
use Rattle.std.proofs.Common.{arith, ◌≡◌, ◌≢◌, ◌⊎◌, inl, inr, ℕ, ◌+◌, ◌<◌, ◌≤◌, Bool, true, false, not, List, [], ◌∷◌, ◌++◌, length, map, None, Result, Ok, Err, refl, sym, ap, subst, ◌∙◌, append_assoc, append-nil, cond, if◌then◌else◌}
use Rattle.std.proofs.lemmas.Bool.{ne_eqb}
use Rattle.std.specs.Cmp.{IsEquivalence}
use Rattle.std.specs.List.{filter}
use Rattle.std.specs.Map.{lookup_entry}
use Rattle.buffa_bytes.proofs.DelimitedLemmas.{delimited_sound, delimited_taken}
use Rattle.buffa_bytes.proofs.FieldLemmas.{same_refl, tag_complete, tag_falls, tag_read, same_false}
use Rattle.buffa_bytes.proofs.PayloadValueLemmas.{payload_value_complete}
use Rattle.buffa_bytes.proofs.FullLemmas.{delimited_full}
use Rattle.buffa_bytes.proofs.UnreadLemmas.{no_delimited_cut, no_number}
use Rattle.buffa_bytes.proofs.SequenceLemmas.{has_byte, not_nil, ok_same}
use Rattle.buffa_bytes.proofs.StepLemmas.{agree_err, agree_ok}
use Rattle.buffa_bytes.proofs.TailLemmas.{tail_dropped}
use Rattle.buffa_bytes.proofs.WireLemmas.{check_differs, check_same}
use Rattle.buffa_bytes.specs.Field.{LengthFault}
use Rattle.buffa_bytes.specs.Readings.{delimited_at, skip_at, tag_at, ◌>>=◌}
use Rattle.buffa_bytes.specs.Unread.{past_no_delimited, past_no_tag, IsTailOf}
use Rattle.buffa_bytes.specs.Scan.{ParsesEach, ParsesTo, join}
use Rattle.buffa_bytes.specs.declared.wire_type.WireType.{WireType}
use Rattle.buffa_bytes.specs.declared.wire_type.WireType.TheVariants.{LengthDelimited}
use Rattle.buffa_bytes.specs.declared.error.DecodeError.{DecodeError}
use Rattle.buffa_bytes.specs.declared.error.DecodeError.TheVariants.{ElementMemoryLimitExceeded, OutOfMemory, UnknownFieldLimitExceeded, WireTypeMismatch}
use Rattle.buffa_wire.specs.BudgetLeft.{BudgetLeft, Pays, nothing, plus, units, unknown_fields}
use Rattle.buffa_wire.specs.Records.{FieldData, bytes}
use Rattle.buffa_map.specs.Codec.{Reading, value_at, value_charge}
use Rattle.buffa_map.specs.Entry.{FaultOf, IsEntry, IsEntryField, EntryFieldTakesMemory, EntryFieldsTakeMemory}
use Rattle.buffa_map.specs.EntryReading.{blanks, entry_field_at, field_charge, inner_charge, charge_at, charge_of}
use Rattle.buffa_map_laws.specs.EntryWords.{EntriesAreFields, EntriesAreMerged, EntriesCharge, FieldTakesMemory, PairsAreLists, RefusedEntriesStay, RulesAreMet, RunsAreEntries}
use Rattle.buffa_map.specs.Merge.{EntryTakesMemory, MergesEntry, ReadsRun, RefusesRun, Rules, State, kept_of_entry, kept_of_run, unknown_cost}
use Rattle.buffa_map.specs.Pairs.{SamePairs, put}
use Rattle.buffa_map.specs.EntryFieldsSpent.{RefusesParts}
use Rattle.buffa_map.specs.Run.{ArePaid, EntryRecord, IsRecord, fold_entries, step, undeclared}
use Rattle.buffa_map.specs.declared.map_entry.MapEntry.{MapEntry}
use Rattle.buffa_map.proofs.EntryLemmas.{field_complete, field_step}
use Rattle.buffa_map_laws.proofs.FrontLemmas.{same_entry}
use Rattle.buffa_map.proofs.MergeLemmas.{bad_parts, is_dropped, is_kept, is_put, no_entry, not_kept}
use Rattle.buffa_map.proofs.ChargeLemmas.{field_broken, inner_is, charge_end, charge_step, charge_stop}
use Rattle.buffa_map.proofs.RunLemmas.{SamePairs-step, extra_kept, none_kept, record_found}
use Rattle.buffa_map.proofs.StepLemmas.{none_reached, stop_entry, stop_mismatch, stop_other, stop_tag}
use Rattle.buffa_map.proofs.TailLemmas.{not_delimited, tail_behind}

module _ {K V : Type 0} (key : Reading K) (val : Reading V) (d : ℕ) where
  -- ---- a field behind an entry
  onto : (e r : List ℕ) (s : MapEntry K V) → IsEntry key val d e s → ParsesTo (IsEntryField key val d) (blanks key val d) (e ++ r) s r
  onto e r s h = (h.0, ap (λ z. z ++ r) (h.1 ∙ append-nil (join h.0)), h.2)

  one_field : (e f : List ℕ) (s t : MapEntry K V) → IsEntry key val d e s → entry_field_at key val d s f ≡ Ok (t, []) → IsEntry key val d (e ++ f) t
  one_field e f s t h k = field_step key val d (e ++ f) s t f [] (onto e f s h) k

  one_fault : (e r : List ℕ) (s : MapEntry K V) (x : DecodeError) → IsEntry key val d e s → r ≢ [] → entry_field_at key val d s r ≡ Err x → FaultOf key val d (e ++ r) x
  one_fault e r s x h some k = (s, r, onto e r s h, some, field_broken key val d s r x k)

tagged : (r p : List ℕ) (n : ℕ) (w : WireType) → tag_at r ≡ Ok (n, w, p) → r ≢ []
tagged r p n w h = not_nil r (omega (arith, tag_falls r (n, w, p) h))

pub entries_are_fields : {K V : Type 0} (key : Reading K) (val : Reading V) → EntriesAreFields key val
entries_are_fields key val = record {
  empty = λ d s. ((λ h. same_entry key val d [] s (blanks key val d) h ([], refl, refl)), (λ e. ([], refl, sym e)));
  key_field = λ d e f p s k known h tag made. one_field key val d e f s (record s { key = k }) h (rw (tag, check_same 1 key.wire key.wire refl, made) refl);
  value_field = λ d e f p s v known h tag made. one_field key val d e f s (record s { value = v; known = known }) h (rw (tag, check_same 2 val.wire val.wire refl, made) refl);
  other_field = λ d n w e f p s h tag not_one not_two passed. one_field key val d e f s s h (rw (tag, ne_eqb n 1 not_one, ne_eqb n 2 not_two, passed) refl);
  no_tag = λ d e r s f h some tag. one_fault key val d e r s f h some (rw tag refl);
  key_wire = λ d w e r p s h tag other. one_fault key val d e r s (WireTypeMismatch 1 key.wire w) h (tagged r p 1 w tag) (rw (tag, check_differs 1 key.wire w other) refl);
  value_wire = λ d w e r p s h tag other. one_fault key val d e r s (WireTypeMismatch 2 val.wire w) h (tagged r p 2 w tag) (rw (tag, check_differs 2 val.wire w other) refl);
  key_fault = λ d e r p s f h tag bad. one_fault key val d e r s f h (tagged r p 1 key.wire tag) (rw (tag, check_same 1 key.wire key.wire refl, bad) refl);
  value_fault = λ d e r p s f h tag bad. one_fault key val d e r s f h (tagged r p 2 val.wire tag) (rw (tag, check_same 2 val.wire val.wire refl, bad) refl);
  other_fault = λ d n w e r p s f h tag not_one not_two bad. one_fault key val d e r s f h (tagged r p n w tag) (rw (tag, ne_eqb n 1 not_one, ne_eqb n 2 not_two, bad) refl);
}

-- ---- what a field behind an entry needs
plus_assoc : (a b c : BudgetLeft) → plus a (plus b c) ≡ plus (plus a b) c
plus_assoc a b c =
    let u : a.unknown + (b.unknown + c.unknown) ≡ (a.unknown + b.unknown) + c.unknown = omega arith in
    let m : a.memory + (b.memory + c.memory) ≡ (a.memory + b.memory) + c.memory = omega arith in
    (λ i. record { unknown = u i; memory = m i })

plus_none : (a : BudgetLeft) → plus a nothing ≡ a
plus_none a =
    let u : a.unknown + 0 ≡ a.unknown = omega arith in
    let m : a.memory + 0 ≡ a.memory = omega arith in
    (λ i. record { unknown = u i; memory = m i })

none_plus : (a : BudgetLeft) → plus nothing a ≡ a
none_plus a =
    let u : 0 + a.unknown ≡ a.unknown = omega arith in
    let m : 0 + a.memory ≡ a.memory = omega arith in
    (λ i. record { unknown = u i; memory = m i })

module _ {K V : Type 0} (key : Reading K) (val : Reading V) (d : ℕ) where
  -- a field costs the same, whatever follows it
  field_cost : (s t : MapEntry K V) (f : List ℕ) → IsEntryField key val d s f t → (b : BudgetLeft) × ((rest : List ℕ) → field_charge key val d (f ++ rest) ≡ b)
  field_cost s t f (inl (k, known, (tag, p, c, is_tag, o, h, r, e), st)) = (
    key.cost d c,
    λ rest.
        let split : f ++ rest ≡ tag ++ (p ++ rest) = ap (λ z. z ++ rest) e ∙ append_assoc tag p rest in
        rw (split, tag_complete tag 1 key.wire (p ++ rest) is_tag, same_refl key.wire, payload_value_complete key.wire p c rest h) refl,
  )
  field_cost s t f (inr (inl (v, known, (tag, p, c, is_tag, o, h, r, e), st))) = (
    val.cost d c,
    λ rest.
        let split : f ++ rest ≡ tag ++ (p ++ rest) = ap (λ z. z ++ rest) e ∙ append_assoc tag p rest in
        rw (split, tag_complete tag 2 val.wire (p ++ rest) is_tag, same_refl val.wire, payload_value_complete val.wire p c rest h) refl,
  )
  field_cost s t f (inr (inr (n, w, not_one, not_two, (tag, p, is_tag, h, e), st))) = (
    nothing,
    λ rest.
        let split : f ++ rest ≡ tag ++ (p ++ rest) = ap (λ z. z ++ rest) e ∙ append_assoc tag p rest in
        rw (split, tag_complete tag n w (p ++ rest) is_tag, ne_eqb n 1 not_one, ne_eqb n 2 not_two) refl,
  )

  charge_behind : (ps : List (List ℕ)) (s t : MapEntry K V) (f : List ℕ) → ParsesEach (IsEntryField key val d) s ps t → charge_at key val d s (join ps ++ f) ≡ plus (charge_at key val d s (join ps)) (charge_at key val d t f)
  charge_behind [] s t f h = rw (h, charge_end key val d t [] refl) (sym (none_plus (charge_at key val d t f)))
  charge_behind (p ∷ ps) s t f (u, h, more) =
      let cost = field_cost s u p h in
      let all = charge_step key val d s u (p ++ (join ps ++ f)) (join ps ++ f) (field_complete key val d s u p (join ps ++ f) h) ∙ ap (λ z. plus z (charge_at key val d u (join ps ++ f))) (cost.1 (join ps ++ f)) in
      let front = charge_step key val d s u (p ++ join ps) (join ps) (field_complete key val d s u p (join ps) h) ∙ ap (λ z. plus z (charge_at key val d u (join ps))) (cost.1 (join ps)) in
      ap (charge_at key val d s) (append_assoc p (join ps) f) ∙ all ∙ ap (λ z. plus cost.0 z) (charge_behind ps u t f more)
      ∙ plus_assoc cost.0 (charge_at key val d u (join ps)) (charge_at key val d t f) ∙ ap (λ z. plus z (charge_at key val d t f)) (sym front)

  -- the field is all that is there, or it is refused
  last_charge : (s : MapEntry K V) (f : List ℕ) (r : Result (MapEntry K V × List ℕ) DecodeError) → entry_field_at key val d s f ≡ r → ((x : MapEntry K V × List ℕ) → r ≡ Ok x → x.1 ≡ []) → charge_at key val d s f ≡ field_charge key val d f
  last_charge s f (Ok x) h whole =
      charge_step key val d s x.0 f x.1 h ∙ ap (λ z. plus (field_charge key val d f) z) (charge_end key val d x.0 x.1 (ap length (whole x refl))) ∙ plus_none (field_charge key val d f)
  last_charge s f (Err e) h whole = charge_stop key val d s f e h

  charge_more : (cost : ℕ) (e f : List ℕ) (s : MapEntry K V) → IsEntry key val d e s → ((x : MapEntry K V × List ℕ) → entry_field_at key val d s f ≡ Ok x → x.1 ≡ []) →
      charge_of key val d cost (e ++ f) ≡ plus (charge_of key val d cost e) (field_charge key val d f)
  charge_more cost e f s (ps, is, each) whole =
      let joined : e ≡ join ps = is ∙ append-nil (join ps) in
      let last = last_charge s f (entry_field_at key val d s f) refl whole in
      ap (λ z. plus (units cost) (charge_at key val d (blanks key val d) (z ++ f))) joined ∙ ap (plus (units cost)) (charge_behind ps (blanks key val d) s f each)
      ∙ plus_assoc (units cost) (charge_at key val d (blanks key val d) (join ps)) (charge_at key val d s f)
      ∙ ap (λ z. plus (plus (units cost) (charge_at key val d (blanks key val d) z)) (charge_at key val d s f)) (sym joined) ∙ ap (plus (charge_of key val d cost e)) last

-- nothing is behind what a payload is read as, nor behind the field
behind_value : {X S : Type 0} (r : Result (X × List ℕ) DecodeError) (g : X → S) (x : S × List ℕ) → (r >>= (λ v. let y : S × List ℕ = (g v.0, v.1) in Ok y)) ≡ Ok x → ((y : X × List ℕ) → r ≡ Ok y → y.1 ≡ []) → x.1 ≡ []
behind_value (Ok y) g x h whole = sym (ap (λ z. z.1) (ok_same h)) ∙ whole y refl
behind_value (Err e) g x h whole = cc

behind_other : {S : Type 0} (r : Result (List ℕ) DecodeError) (s : S) (x : S × List ℕ) → (r >>= (λ rest. let y : S × List ℕ = (s, rest) in Ok y)) ≡ Ok x → ((y : List ℕ) → r ≡ Ok y → y ≡ []) → x.1 ≡ []
behind_other (Ok y) s x h whole = sym (ap (λ z. z.1) (ok_same h)) ∙ whole y refl
behind_other (Err e) s x h whole = cc

module _ {K V : Type 0} (key : Reading K) (val : Reading V) where
  pub entries_charge : EntriesCharge key val
  entries_charge = record {
    empty = λ d cost. ap (plus (units cost)) (charge_end key val d (blanks key val d) [] refl) ∙ plus_none (units cost);
    key_field = λ d cost e f p s h tag whole.
        let is : field_charge key val d f ≡ value_charge key d p = rw (tag, same_refl key.wire) refl in
        charge_more key val d cost e f s h (λ x k. behind_value (value_at key d s.key p) (λ v. record s { key = v.0 }) x (rw (tag, check_same 1 key.wire key.wire refl) at k) whole)
        ∙ ap (plus (charge_of key val d cost e)) is;
    value_field = λ d cost e f p s h tag whole.
        let is : field_charge key val d f ≡ value_charge val d p = rw (tag, same_refl val.wire) refl in
        charge_more key val d cost e f s h (λ x k. behind_value (value_at val d s.value p) (λ v. record s { value = v.0; known = v.1 }) x (rw (tag, check_same 2 val.wire val.wire refl) at k) whole)
        ∙ ap (plus (charge_of key val d cost e)) is;
    other_field = λ d cost n w e f p s h tag not_one not_two whole.
        let is : field_charge key val d f ≡ nothing = rw (tag, ne_eqb n 1 not_one, ne_eqb n 2 not_two) refl in
        charge_more key val d cost e f s h (λ x k. behind_other (skip_at d n w p) s x (rw (tag, ne_eqb n 1 not_one, ne_eqb n 2 not_two) at k) whole)
        ∙ ap (plus (charge_of key val d cost e)) is ∙ plus_none (charge_of key val d cost e);
    key_wire = λ d cost w e f p s h tag other.
        let is : field_charge key val d f ≡ nothing = rw (tag, same_false key.wire w other) refl in
        charge_more key val d cost e f s h (λ x k. let no = rw (tag, check_differs 1 key.wire w other) at k in cc)
        ∙ ap (plus (charge_of key val d cost e)) is ∙ plus_none (charge_of key val d cost e);
    value_wire = λ d cost w e f p s h tag other.
        let is : field_charge key val d f ≡ nothing = rw (tag, same_false val.wire w other) refl in
        charge_more key val d cost e f s h (λ x k. let no = rw (tag, check_differs 2 val.wire w other) at k in cc)
        ∙ ap (plus (charge_of key val d cost e)) is ∙ plus_none (charge_of key val d cost e);
    no_tag = λ d cost e r s f h tag.
        let is : field_charge key val d r ≡ nothing = rw tag refl in
        charge_more key val d cost e r s h (λ x k. let no = rw tag at k in cc)
        ∙ ap (plus (charge_of key val d cost e)) is ∙ plus_none (charge_of key val d cost e);
  }

-- ---- what no length, or no tag, leaves unread
past_delimited_tail : (bs : List ℕ) (f : DecodeError) → LengthFault bs f → IsTailOf (past_no_delimited bs) bs
past_delimited_tail bs f (inl h) = tail_dropped 10 bs (past_no_delimited bs) (no_number bs f h).1
past_delimited_tail bs f (inr (n, rest, t, few, is)) = subst (λ z. IsTailOf z bs) (sym (no_delimited_cut bs n rest t few)) (tail_behind t.0 rest bs t.2)

module _ {K V : Type 0} (r : Rules K V) where
  -- ---- entries
  units_refused : (e : List ℕ) (left : BudgetLeft) → left.memory < r.cost → RefusesParts r.key r.val r.depth r.cost e left left ElementMemoryLimitExceeded
  units_refused e left few = record {
    fault = λ ne. inl (few, refl);
    memory = λ out. cc;
    units = inl refl;
    charged = λ room. absurd (omega (arith, few, room));
    most = omega arith;
    least = omega arith;
  }

  fields_refused : (e : List ℕ) (left over : BudgetLeft) (f : DecodeError) → f ≢ OutOfMemory → FaultOf r.key r.val r.depth e f → Pays left (units r.cost) over → RefusesParts r.key r.val r.depth r.cost e left over f
  fields_refused e left over f ne bad pays = record {
    fault = λ _. inr (omega (arith, pays.1), inr bad);
    memory = λ out. absurd (ne out);
    units = inr (omega (arith, pays.1), omega (arith, pays.1));
    charged = λ room. omega (arith, pays.1);
    most = omega (arith, pays.0);
    least = omega (arith, pays.0);
  }

  entries_are_merged : EntriesAreMerged r
  entries_are_merged = record {
    declared = λ old bs e rest s left is h known pays.
        is_put r old.pairs old.records old.left bs e rest is s left (record { entry = h; pays = pays }) known (put r.same old.pairs s.key s.value) (λ q. refl) (λ keeps. refl);
    kept = λ old bs e rest s left is h known keeps pays.
        let over : BudgetLeft = record { unknown = left.unknown + 1; memory = left.memory } in
        is_kept r old.pairs old.records old.left bs e rest is s over (record { entry = h; pays = (omega (arith, pays.0), omega (arith, pays.1)) }) known (old.records ++ (r.number, bytes e) ∷ []) left (rw keeps refl) (rw keeps refl) refl;
    dropped = λ old bs e rest s left is h known drops pays.
        is_dropped r old.pairs old.records old.left bs e rest is s left (record { entry = h; pays = pays }) known drops;
    no_bytes = λ old bs f h.
        no_entry r old.pairs old.records old.left bs (past_no_delimited bs) f (past_delimited_tail bs f (agree_err (delimited_at bs) f (delimited_sound bs) h)) h
        (λ out. absurd (delimited_full bs (h ∙ ap (λ z. Err z) out))) refl;
    no_units = λ old bs e rest is few. bad_parts r old.pairs old.records old.left bs e rest is old.left ElementMemoryLimitExceeded (units_refused e old.left few);
    fault = λ old bs e rest f left is ne bad pays. bad_parts r old.pairs old.records old.left bs e rest is left f (fields_refused e old.left left f ne bad pays);
    no_field = λ old bs e rest s left is h known keeps pays none.
        not_kept r old.pairs old.records old.left bs e rest is s left (record { entry = h; pays = pays }) known old.records left UnknownFieldLimitExceeded refl (omega arith) (omega arith) refl (λ ne. (keeps, none, refl, refl)) (λ out. cc);
  }

  no_field_takes : (rest : List ℕ) {P : Type 0} → r.key.takes_memory ≡ false → r.val.takes_memory ≡ false → EntryFieldTakesMemory r.key r.val r.depth rest → P
  no_field_takes rest key val (inl (more, tag, (takes, room, whole))) = let no : false ≡ true = sym key ∙ takes in cc
  no_field_takes rest key val (inr (more, tag, (takes, room, whole))) = let no : false ≡ true = sym val ∙ takes in cc

  put_only : (left : BudgetLeft) (bs : List ℕ) → r.key.takes_memory ≡ false → r.val.takes_memory ≡ false → r.keeps_undeclared ≡ false → EntryTakesMemory r left bs →
      (e : List ℕ) × (rest : List ℕ) × (s : MapEntry K V) × (delimited_at bs ≡ Ok (e, rest)) × IsEntry r.key r.val r.depth e s × (s.known ≡ true)
  put_only left bs key val drops (e, rest, is, room, inl (keeps, may, some)) = let no : false ≡ true = sym drops ∙ keeps in cc
  put_only left bs key val drops (e, rest, is, room, inr (inl field)) = no_field_takes field.1 key val field.3
  put_only left bs key val drops (e, rest, is, room, inr (inr (s, h, inl known))) = (e, rest, s, delimited_taken bs e rest is, h, known)
  put_only left bs key val drops (e, rest, is, room, inr (inr (s, h, inr (keeps, more)))) = let no : false ≡ true = sym drops ∙ keeps in cc

  -- a field takes memory behind fields that are an entry
  field_takes : (e : List ℕ) → EntryFieldsTakeMemory r.key r.val r.depth e → FieldTakesMemory r e
  field_takes e (s, more, (ps, cut, each), inl (p, tag, takes)) = (join ps, more, s, p, cut, (ps, sym (append-nil (join ps)), each), inl (tag_read more p 1 r.key.wire tag, takes))
  field_takes e (s, more, (ps, cut, each), inr (p, tag, takes)) = (join ps, more, s, p, cut, (ps, sym (append-nil (join ps)), each), inr (tag_read more p 2 r.val.wire tag, takes))

  entry_takes : (left : BudgetLeft) (bs : List ℕ) → EntryTakesMemory r left bs → (e : List ℕ) × (rest : List ℕ) × (delimited_at bs ≡ Ok (e, rest))
      × (r.cost ≤ left.memory) × (((r.keeps_undeclared ≡ true) × (r.val.undeclared ≡ true) × (e ≢ []))
      ⊎ (FieldTakesMemory r e
      ⊎ ((s : MapEntry K V) × IsEntry r.key r.val r.depth e s × ((s.known ≡ true)
      ⊎ ((r.keeps_undeclared ≡ true) × ((charge_of r.key r.val r.depth r.cost e).unknown < left.unknown))))))
  entry_takes left bs (e, rest, is, room, inl copied) = (e, rest, delimited_taken bs e rest is, room, inl copied)
  entry_takes left bs (e, rest, is, room, inr (inl field)) = (e, rest, delimited_taken bs e rest is, room, inr (inl (field_takes e field)))
  entry_takes left bs (e, rest, is, room, inr (inr whole)) = (e, rest, delimited_taken bs e rest is, room, inr (inr whole))

  inner : (bs e rest : List ℕ) → delimited_at bs ≡ Ok (e, rest) → inner_charge r.key r.val r.depth bs ≡ charge_at r.key r.val r.depth (blanks r.key r.val r.depth) e
  inner bs e rest is = inner_is r.key r.val r.depth bs e rest is

  refused_entries_stay : RefusedEntriesStay r
  refused_entries_stay = record {
    pairs = λ old new bs tail f h. h.pairs;
    records = λ old new bs tail f h. h.records;
    charged = λ old new bs e rest tail f h is room. let t = agree_ok (delimited_at bs) (e, rest) (delimited_sound bs) is in h.spent.charged e rest (t.0, t.1, t.2) room;
    unread = λ old new bs e rest tail f h ne is. let t = agree_ok (delimited_at bs) (e, rest) (delimited_sound bs) is in h.unread.past ne e rest (t.0, t.1, t.2);
    most = λ old new bs tail f h. elim h.spent.units [ inl same ↦ (omega (arith, same), h.spent.fields.0) | inr paid ↦ (omega (arith, paid.0), h.spent.fields.0) ];
    memory = λ old new bs tail h. let k = h.memory refl in (k.0, k.1, delimited_taken bs k.0 k.1 k.2);
    put = λ old new bs tail h key val drops. put_only old.left bs key val drops (h.memory refl);
    units = λ old new bs e rest tail f h is.
        let same = ap (λ z. z.memory) (inner bs e rest is) in
        elim h.spent.units [ inl stays ↦ omega (arith, stays) | inr paid ↦ omega (arith, same, paid.1) ];
    fields = λ old new bs e rest tail f h is.
        let same = ap (λ z. z.unknown) (inner bs e rest is) in
        (omega (arith, same, h.spent.fields.1), λ ne. omega (arith, same, (h.spent.not_kept ne).1));
    unspent = λ old new bs tail f g h is. (h.spent.unspent (not_delimited bs g is), h.unread.nothing_there (not_delimited bs g is));
    end = λ old new bs tail f h. h.unread.tail;
    all_units = λ old new bs tail f h. elim h.spent.units [ inl same ↦ inl same | inr paid ↦ inr paid.0 ];
    behind = λ old new bs e rest tail f h is. let t = agree_ok (delimited_at bs) (e, rest) (delimited_sound bs) is in h.unread.within e rest (t.0, t.1, t.2);
    taken = λ old new bs tail h. entry_takes old.left bs (h.memory refl);
  }

  -- ---- a record in front of a run
  module _ (laws : IsEquivalence r.same) where
    fold_same : (m k : List (K × V)) (es : List (EntryRecord K V)) → SamePairs r.same m k → SamePairs r.same (fold_entries r.same m es) (fold_entries r.same k es)
    fold_same m k [] h = h
    fold_same m k (x ∷ es) h = fold_same (step r.same m x.parts) (step r.same k x.parts) es (SamePairs-step laws m k x.parts h)

  abbrev numbered : ℕ → List ℕ → ℕ × FieldData
  numbered n e = (n, bytes e)

  kept_cons : (keeps known : Bool) (n : ℕ) (e : List ℕ) (ks : List (List ℕ)) →
      (if keeps then map (numbered n) (cond known ks (e ∷ ks)) else []) ≡ (if keeps then cond known [] (numbered n e ∷ []) else []) ++ (if keeps then map (numbered n) ks else [])
  kept_cons true true n e ks = refl
  kept_cons true false n e ks = refl
  kept_cons false known n e ks = refl

  first_paid : (a b c : BudgetLeft) (x : EntryRecord K V) (xs : List (EntryRecord K V)) → Pays a (plus (charge_of r.key r.val r.depth r.cost x.bytes) (unknown_fields (cond x.parts.known 0 (unknown_cost r)))) b →
      ArePaid r.key r.val r.depth r.cost (unknown_cost r) b xs c → ArePaid r.key r.val r.depth r.cost (unknown_cost r) a (x ∷ xs) c
  first_paid a b c x xs k h = (omega (arith, k.1, h.0), omega (arith, k.0, h.1, extra_kept x.parts.known x.bytes (undeclared xs) (unknown_cost r)))

  module _ (old now : State K V) (bs mid rest : List ℕ) (tag : tag_at bs ≡ Ok (r.number, LengthDelimited, mid)) (k : MergesEntry r old mid now rest) where
    abbrev said : EntryRecord K V
    said = record { bytes = k.entry; parts = k.says }

    found : (front : List ℕ) × IsRecord r.key r.val r.depth r.number front said × (bs ≡ front ++ rest)
    found = record_found r.key r.val r.depth r.number bs mid rest r.number LengthDelimited k.says tag refl (check_same r.number LengthDelimited LengthDelimited refl) k.entry k.read

    first_keeps : (new : List (ℕ × FieldData)) (es : List (EntryRecord K V)) → new ≡ now.records ++ kept_of_run r es → new ≡ old.records ++ kept_of_run r (said ∷ es)
    first_keeps new es h =
        h ∙ ap (λ z. z ++ kept_of_run r es) k.keeps ∙ append_assoc old.records (kept_of_entry r k.entry k.says) (kept_of_run r es)
        ∙ ap (λ z. old.records ++ z) (sym (kept_cons r.keeps_undeclared k.says.known r.number k.entry (undeclared es)))

    first_read : IsEquivalence r.same → (new : State K V) (front : List ℕ) → ReadsRun r now front new [] → ReadsRun r old (found.0 ++ front) new []
    first_read laws new front h = record {
      entries = said ∷ h.entries;
      run = (found.0, front, found.1, refl, h.run);
      folded = λ q. fold_same laws (step r.same old.pairs k.says) now.pairs h.entries k.put q ∙ h.folded q;
      order = λ keeps. h.order keeps ∙ ap (λ z. fold_entries r.same z h.entries) (k.order keeps);
      keeps = first_keeps new.records h.entries h.keeps;
      paid = first_paid old.left now.left new.left said h.entries k.pays h.paid;
      whole = refl;
    }

    all_read : IsEquivalence r.same → (new : State K V) → ReadsRun r now rest new [] → ReadsRun r old bs new []
    all_read laws new h = subst (λ z. ReadsRun r old z new []) (sym found.2) (first_read laws new rest h)

    first_refused : IsEquivalence r.same → (new : State K V) (tail : List ℕ) (f : DecodeError) → RefusesRun r now rest new tail f → RefusesRun r old bs new tail f
    first_refused laws new tail f h = record {
      front = found.0 ++ h.front;
      rest = h.rest;
      split = found.2 ∙ ap (λ z. found.0 ++ z) h.split ∙ sym (append_assoc found.0 h.front h.rest);
      some = h.some;
      between = h.between;
      read = first_read laws h.between h.front h.read;
      refused = h.refused;
    }

  runs_are_entries : IsEquivalence r.same → RunsAreEntries r
  runs_are_entries laws = record {
    none = λ old. record { entries = []; run = refl; folded = λ q. refl; order = λ keeps. refl; keeps = none_kept r.keeps_undeclared old.records; paid = (omega arith, omega arith); whole = refl };
    more = λ old now new bs mid rest tag k h. all_read old now bs mid rest tag k laws new h;
    no_tag = λ old bs f some h.
        stop_tag r old bs old bs (none_reached r old bs) (past_no_tag bs) f refl (has_byte bs some) h;
    number = λ old bs mid n w tag other. stop_other r old bs old bs (none_reached r old bs) mid n w (has_byte bs (tagged bs mid n w tag)) tag other;
    wire = λ old bs mid w tag other.
        stop_mismatch r old bs old bs (none_reached r old bs) mid r.number w (has_byte bs (tagged bs mid r.number w tag)) tag (WireTypeMismatch r.number LengthDelimited w) refl (check_differs r.number LengthDelimited w other);
    entry = λ old new bs mid tail f tag k.
        stop_entry r old bs old bs (none_reached r old bs) mid r.number LengthDelimited (has_byte bs (tagged bs mid r.number LengthDelimited tag)) tag refl (check_same r.number LengthDelimited LengthDelimited refl) new tail f k;
    later = λ old now new bs mid rest tail f tag k h. first_refused old now bs mid rest tag k laws new tail f h;
  }

  pub rules_are_met : RulesAreMet r
  rules_are_met = record { merged = entries_are_merged; refused = refused_entries_stay; runs = runs_are_entries }

-- ---- pairs
module _ {K V : Type 0} (eq : K → K → Bool) (k : K) (v : V) where
  put_new_at : (e : K × V) (m : List (K × V)) (b : Bool) → eq k e.0 ≡ b → lookup_entry (eq k) (e ∷ m) ≡ None → (lookup_entry (eq k) m ≡ None → put eq m k v ≡ m ++ (k, v) ∷ []) → put eq (e ∷ m) k v ≡ (e ∷ m) ++ (k, v) ∷ []
  put_new_at e m true is h more = let none = rw is at h in cc
  put_new_at e m false is h more = rw is (ap (λ z. e ∷ z) (more (rw is at h)))

  put_new : (m : List (K × V)) → lookup_entry (eq k) m ≡ None → put eq m k v ≡ m ++ (k, v) ∷ []
  put_new [] h = refl
  put_new (e ∷ m) h = put_new_at e m (eq k e.0) refl h (put_new m)

  put_there_at : (x : K × V) (m all new : List (K × V)) (b : Bool) → eq k x.0 ≡ b → lookup_entry (eq k) (x ∷ m) ≡ None → (lookup_entry (eq k) m ≡ None → put eq all k v ≡ new) → put eq (x ∷ all) k v ≡ x ∷ new
  put_there_at x m all new true is h more = let none = rw is at h in cc
  put_there_at x m all new false is h more = rw is (ap (λ z. x ∷ z) (more (rw is at h)))

  put_there : (m l : List (K × V)) (e : K × V) → lookup_entry (eq k) m ≡ None → eq k e.0 ≡ true → put eq (m ++ e ∷ l) k v ≡ m ++ (e.0, v) ∷ l
  put_there [] l e h same = rw same refl
  put_there (x ∷ m) l e h same = put_there_at x m (m ++ e ∷ l) (m ++ (e.0, v) ∷ l) (eq k x.0) refl h (λ none. put_there m l e none same)

other_at : {K V : Type 0} (x : EntryRecord K V) (es : List (EntryRecord K V)) (b : Bool) → x.parts.known ≡ b → undeclared es ≡ map (λ x. x.bytes) (filter (λ x. not x.parts.known) es) → undeclared (x ∷ es) ≡ map (λ x. x.bytes) (filter (λ x. not x.parts.known) (x ∷ es))
other_at x es true is h = rw is h
other_at x es false is h = rw is (ap (λ z. x.bytes ∷ z) h)

others : {K V : Type 0} (es : List (EntryRecord K V)) → undeclared es ≡ map (λ x. x.bytes) (filter (λ x. not x.parts.known) es)
others [] = refl
others (x ∷ es) = other_at x es x.parts.known refl (others es)

pub pairs_are_lists : {K V : Type 0} (eq : K → K → Bool) → PairsAreLists V eq
pairs_are_lists eq = record {
  new = λ m k v h. put_new eq k v m h;
  there = λ m l e k v h same. put_there eq k v m l e h same;
  no_entries = λ m. refl;
  declared = λ m x es known. rw known refl;
  not_declared = λ m x es known. rw known refl;
  others = others;
  same = λ m n. ((λ h. h), (λ h. h));
  once = λ m l. ((λ h. h), (λ h. h));
  order = λ keeps l n. ((λ h. h), (λ h. h));
}
