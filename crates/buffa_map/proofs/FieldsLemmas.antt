-- A field of an entry that was merged, or refused, at each place where reading it ends; and the fields of an entry.
use Rattle.std.proofs.Common.{arith, ◌≡◌, ◌≢◌, ◌+◌, ◌*◌, ◌<◌, ◌≤◌, inl, inr, ℕ, Bool, false, List, [], ◌∷◌, ◌++◌, Ok, Err, drop, get_or, length, ap, refl, subst, sym, ◌∙◌}
use Rattle.std.proofs.lemmas.List.{nil_from_length, take-append-drop}
use Rattle.buffa_bytes.proofs.FieldLemmas.{tag_at_as, tag_read, wire_small}
use Rattle.buffa_bytes.specs.Unread.{IsChunkOf}
use Rattle.buffa_bytes.specs.Varint.{IsVarint}
use Rattle.buffa_bytes.proofs.FullLemmas.{skip_no_full, tag_no_full}
use Rattle.buffa_bytes.specs.declared.error.DecodeError.{DecodeError}
use Rattle.buffa_bytes.specs.declared.error.DecodeError.TheVariants.{OutOfMemory}
use Rattle.buffa_bytes.specs.declared.wire_type.WireType.{WireType}
use Rattle.buffa_bytes.specs.PayloadValue.{PayloadValue}
use Rattle.buffa_wire.specs.BudgetLeft.{BudgetLeft, Pays, PaysAtMost, nothing}
use Rattle.buffa_bytes.specs.Readings.{check_wire, skip_at, tag_at}
use Rattle.buffa_bytes.specs.Number.{wire_number}
use Rattle.buffa_bytes.proofs.WireLemmas.{checked_same, other_not_full}
use Rattle.buffa_bytes.specs.Scan.{ParsesTo}
use Rattle.buffa_map.proofs.TailLemmas.{tag_there}
use Rattle.buffa_map.specs.Codec.{Reading, RefusesValue, Spends, ReadingTakesMemory, is_known, value_at, value_charge}
use Rattle.buffa_map.specs.Entry.{EntryFieldFault, IsEntryField, EntryFieldTakesMemory, MergesEntryField, MergesFields, RefusesEntryField, RefusesFields}
use Rattle.buffa_map.specs.EntryReading.{blanks, charge_at}
use Rattle.buffa_map.specs.declared.codec.MapValueDecodeStatus.{MapValueDecodeStatus}
use Rattle.buffa_map.specs.declared.codec.MapValueDecodeStatus.TheVariants.{Known, Unknown}
use Rattle.buffa_map.specs.declared.map_entry.MapEntry.{MapEntry}
use Rattle.buffa_map.proofs.EntryLemmas.{field_shorter, field_step, refused_in, spent_in, value_free}
use Rattle.buffa_map.proofs.ChargeLemmas.{field_broken, fields_fault, fields_spent, key_merged, key_mismatch, key_refused, charge-key, charge-value, charge_end, charge_step, other_broken, value_merged, value_mismatch, value_refused}

-- ---- a tag of one byte
-- the first of the bytes that lie together at the front is the first of all
first_of_chunk : (part all : List ℕ) (b d : ℕ) → IsChunkOf part all → 0 < length part → b ≡ get_or part 0 d → all ≡ b ∷ drop 1 all
first_of_chunk [] all b d c some is = absurd (omega (arith, some))
first_of_chunk (x ∷ xs) all b d c some is =
    let more = drop (length (x ∷ xs)) all in
    let whole : all ≡ x ∷ (xs ++ more) = sym (ap (λ z. z ++ more) (sym c.front) ∙ take-append-drop (length (x ∷ xs)) all) in
    whole ∙ ap (λ z. x ∷ z) (sym (ap (drop 1) whole)) ∙ ap (λ z. z ∷ drop 1 all) (sym is)

-- a tag of a number below 16 is read of the byte that spells it
pub tag_of_byte : (part all : List ℕ) (b d n : ℕ) (w : WireType) → IsChunkOf part all → 0 < length part → b ≡ get_or part 0 d → b ≡ n * 8 + wire_number w → (0 < n) × (n < 16) → tag_at all ≡ Ok (n, w, drop 1 all)
tag_of_byte part all b d n w c some first is small =
    let spelled : IsVarint (b ∷ []) (8 * n + wire_number w) = record {
      front = [];
      last = b;
      spelled = refl;
      continue = tt;
      ends = omega (arith, is, small.1, wire_small w);
      short = omega arith;
      value = omega (arith, is, small.1, wire_small w);
      fits = omega (arith, small.1, wire_small w);
    } in
    tag_read all (drop 1 all) n w (b ∷ [], ((small.0, omega (arith, small.1)), spelled), first_of_chunk part all b d c some first)

module _ {K V : Type 0} (key : Reading K) (val : Reading V) (d : ℕ) (s : MapEntry K V) (left : BudgetLeft) (bs : List ℕ) where
  -- nothing was spent
  refused : (f : DecodeError) → (f ≡ OutOfMemory → EntryFieldTakesMemory key val d bs) → (f ≢ OutOfMemory → EntryFieldFault key val d s bs f) → RefusesEntryField key val d s left bs left f
  refused f full h = record { fault = λ ne. inr (h ne); full = full; pays = (omega arith, omega arith, omega arith, omega arith) }

  pub no_tag : (f : DecodeError) → tag_at bs ≡ Err f → RefusesEntryField key val d s left bs left f
  no_tag f h = refused f (tag_no_full bs f h) (λ ne. field_broken key val d s bs f (rw h refl))

  module _ (n : ℕ) (w : WireType) (rest : List ℕ) (tag : tag_at bs ≡ Ok (n, w, rest)) where
    module _ (one : n ≡ 1) (v : WireType) (is : v ≡ key.wire) where
      pub wrong_key : (f : DecodeError) → check_wire n v w ≡ Err f → RefusesEntryField key val d s left bs left f
      wrong_key f h = refused f (other_not_full n v w f h) (λ ne. key_mismatch key val d s bs rest n v w f tag one is h)

      pub bad_key : (T : Type 0) (over : BudgetLeft) (f : DecodeError) → check_wire n v w ≡ Ok tt → (key.nested ≡ false → (c : PayloadValue) → key.cost d c ≡ nothing) →
          (f ≢ OutOfMemory → RefusesValue key.nested key d s.key rest left f) → (f ≡ OutOfMemory → ReadingTakesMemory key d rest) → Spends {T = T} key.nested (Err f) left (value_charge key d rest) over → RefusesEntryField key val d s left bs over f
      bad_key T over f wire free fault full spent =
          let same : w ≡ key.wire = checked_same n v w wire ∙ is in
          let paid : PaysAtMost left (value_charge key d rest) over = spent_in {T = T} key.nested (Err f) left (value_charge key d rest) over (λ plain. value_free key d s.key rest (free plain)) spent in
          record {
            fault = λ ne. key_refused key val d s bs rest n w left f tag one same (refused_in key d s.key key.nested rest left f (fault ne));
            full = λ out. inl (rest, tag_there bs rest 1 key.wire (tag_at_as bs rest n 1 w key.wire tag one same), full out);
            pays = subst (λ z. PaysAtMost left z over) (sym (charge-key key val d bs rest n w tag one same)) paid;
          }

      pub good_key : {T : Type 0} (x : T) (over : BudgetLeft) (after : List ℕ) (new : K) (known : Bool) → check_wire n v w ≡ Ok tt → (key.nested ≡ false → (c : PayloadValue) → key.cost d c ≡ nothing) →
          value_at key d s.key rest ≡ Ok ((new, known), after) → Spends {T = T} key.nested (Ok x) left (value_charge key d rest) over → MergesEntryField key val d s left bs (record s { key = new }) over after
      good_key {T = T} x over after new known wire free reads spent =
          let paid : Pays left (value_charge key d rest) over = spent_in {T = T} key.nested (Ok x) left (value_charge key d rest) over (λ plain. value_free key d s.key rest (free plain)) spent in
          let both = key_merged key val d s bs rest after n w new known left over tag one (checked_same n v w wire ∙ is) reads paid in
          record { field = both.0; pays = both.1 }

    module _ (not_one : n ≢ 1) (two : n ≡ 2) (v : WireType) (is : v ≡ val.wire) where
      pub wrong_value : (f : DecodeError) → check_wire n v w ≡ Err f → RefusesEntryField key val d s left bs left f
      wrong_value f h = refused f (other_not_full n v w f h) (λ ne. value_mismatch key val d s bs rest n v w f tag not_one two is h)

      module _ (wire : check_wire n v w ≡ Ok tt) (free : val.nested ≡ false → (c : PayloadValue) → val.cost d c ≡ nothing) where
        pub bad_value : (T : Type 0) (over : BudgetLeft) (f : DecodeError) →
            (f ≢ OutOfMemory → RefusesValue val.nested val d s.value rest left f) → (f ≡ OutOfMemory → ReadingTakesMemory val d rest) → Spends {T = T} val.nested (Err f) left (value_charge val d rest) over → RefusesEntryField key val d s left bs over f
        bad_value T over f fault full spent =
            let same : w ≡ val.wire = checked_same n v w wire ∙ is in
            let paid : PaysAtMost left (value_charge val d rest) over = spent_in {T = T} val.nested (Err f) left (value_charge val d rest) over (λ plain. value_free val d s.value rest (free plain)) spent in
            record {
              fault = λ ne. value_refused key val d s bs rest n w left f tag not_one two same (refused_in val d s.value val.nested rest left f (fault ne));
              full = λ out. inr (rest, tag_there bs rest 2 val.wire (tag_at_as bs rest n 2 w val.wire tag two same), full out);
              pays = subst (λ z. PaysAtMost left z over) (sym (charge-value key val d bs rest n w tag not_one two same)) paid;
            }

        pub good_value : {T : Type 0} (x : T) (over : BudgetLeft) (after : List ℕ) (new : V) (known now : Bool) → value_at val d s.value rest ≡ Ok ((new, known), after) → known ≡ now →
            Spends {T = T} val.nested (Ok x) left (value_charge val d rest) over → MergesEntryField key val d s left bs (record s { value = new; known = now }) over after
        good_value {T = T} x over after new known now reads same_known spent =
            let same : w ≡ val.wire = checked_same n v w wire ∙ is in
            let paid : Pays left (value_charge val d rest) over = spent_in {T = T} val.nested (Ok x) left (value_charge val d rest) over (λ plain. value_free val d s.value rest (free plain)) spent in
            let both = value_merged key val d s bs rest after n w new known now left over tag not_one two same reads same_known paid in
            record { field = both.0; pays = both.1 }

    pub bad_other : (f : DecodeError) → n ≢ 1 → n ≢ 2 → skip_at d n w rest ≡ Err f → RefusesEntryField key val d s left bs left f
    bad_other f not_one not_two h = refused f (skip_no_full d n w rest f h) (λ ne. other_broken key val d s bs rest n w f tag not_one not_two h)

-- ---- all fields
module _ {K V : Type 0} (key : Reading K) (val : Reading V) (d : ℕ) (bytes : List ℕ) (left : BudgetLeft) where
  abbrev start : MapEntry K V
  start = blanks key val d

  -- the fields so far were merged: s was said, now is left, and rest follows them
  pub record Merged (s : MapEntry K V) (now : BudgetLeft) (rest : List ℕ) : Type 0 where
    pub reached : ParsesTo (IsEntryField key val d) start bytes s rest
    pub unknown : now.unknown + (charge_at key val d start bytes).unknown ≡ left.unknown + (charge_at key val d s rest).unknown
    pub memory : now.memory + (charge_at key val d start bytes).memory ≡ left.memory + (charge_at key val d s rest).memory
    pub no_unknown : now.unknown ≤ left.unknown
    pub no_unit : now.memory ≤ left.memory

  pub no_field : (s : MapEntry K V) → s ≡ start → Merged s left bytes
  no_field s is = record {
    reached = ([], refl, sym is);
    unknown = rw is refl;
    memory = rw is refl;
    no_unknown = omega arith;
    no_unit = omega arith;
  }

  module _ (s : MapEntry K V) (now : BudgetLeft) (rest : List ℕ) (h : Merged s now rest) where
    pub all_fields : length rest ≡ 0 → MergesFields key val d bytes left s now
    all_fields empty =
        let e = charge_end key val d s rest empty in
        record {
          entry = subst (λ z. ParsesTo (IsEntryField key val d) start bytes s z) (nil_from_length rest empty) h.reached;
          pays = (omega (arith, h.unknown, ap (λ (z : BudgetLeft). z.unknown) e), omega (arith, h.memory, ap (λ (z : BudgetLeft). z.memory) e));
        }

    pub one_field : (t : MapEntry K V) (over : BudgetLeft) (after : List ℕ) → 0 < length rest → MergesEntryField key val d s now rest t over after → Merged t over after
    one_field t over after some m =
        let e = charge_step key val d s t rest after m.field in
        record {
          reached = field_step key val d bytes s t rest after h.reached m.field;
          unknown = omega (arith, h.unknown, m.pays.0, ap (λ (z : BudgetLeft). z.unknown) e);
          memory = omega (arith, h.memory, m.pays.1, ap (λ (z : BudgetLeft). z.memory) e);
          no_unknown = omega (arith, h.no_unknown, m.pays.0);
          no_unit = omega (arith, h.no_unit, m.pays.1);
        }

    pub fewer : (t : MapEntry K V) (over : BudgetLeft) (after : List ℕ) → MergesEntryField key val d s now rest t over after → length after < length rest
    fewer t over after m = field_shorter key val d s t rest after m.field

    pub bad_field : (over : BudgetLeft) (f : DecodeError) → 0 < length rest → RefusesEntryField key val d s now rest over f → RefusesFields key val d bytes left over f
    bad_field over f some k = record {
      full = λ out. (s, rest, h.reached, k.full out);
      fault = λ ne. fields_fault key val d bytes s rest left now some h.unknown h.memory f h.reached (k.fault ne);
      pays = fields_spent key val d bytes s rest left now some h.unknown h.memory over h.no_unknown h.no_unit k.pays;
    }

-- a status that isn't `Known` is that of an undeclared value
pub not_known : (s : MapValueDecodeStatus) → s ≢ Known → is_known s ≡ false
not_known Known h = absurd (h refl)
not_known Unknown h = refl
