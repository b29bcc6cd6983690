-- An entry is merged, and a run is read, in one way.
use Rattle.std.proofs.Common.{◌≡◌, ◌≢◌, ℕ, ◌+◌, ◌*◌, ◌≤◌, ◌⊎◌, inl, inr, Bool, false, true, List, [], ◌∷◌, ◌++◌, Result, Ok, Err, length, ap, append_assoc, refl, subst, sym, ◌∙◌, arith, cond}
use Rattle.std.specs.Map.{lookup_entry}
use Rattle.buffa_bytes.proofs.DelimitedLemmas.{delimited_faulty, delimited_sound, delimited_taken}
use Rattle.buffa_bytes.proofs.FieldLemmas.{tag_faulty, tag_read}
use Rattle.buffa_bytes.proofs.StepLemmas.{agree_ok}
use Rattle.buffa_bytes.specs.declared.error.DecodeError.{DecodeError}
use Rattle.buffa_bytes.specs.declared.error.DecodeError.TheVariants.{OutOfMemory}
use Rattle.buffa_bytes.specs.declared.wire_type.WireType.TheVariants.{LengthDelimited}
use Rattle.buffa_bytes.proofs.SequenceLemmas.{ok_no_err, ok_same}
use Rattle.buffa_wire.proofs.SpentLemmas.{not_lacked, one_left, same_left}
use Rattle.buffa_bytes.specs.Unread.{past_no_tag}
use Rattle.buffa_wire.specs.BudgetLeft.{BudgetLeft, Pays, nothing, plus, unknown_fields}
use Rattle.buffa_bytes.specs.PayloadValue.{PayloadValue}
use Rattle.buffa_bytes.specs.Field.{TakesDelimited}
use Rattle.buffa_bytes.specs.Readings.{delimited_at, tag_at}
use Rattle.buffa_map.specs.Codec.{Reading, RefusesValue, Spends, value_at, value_charge}
use Rattle.buffa_map.specs.Entry.{EntryFault}
use Rattle.buffa_map.specs.EntryReading.{inner_charge, charge_at, charge_of, blanks}
use Rattle.buffa_map.specs.Merge.{RefusesEntry, Rules, State, RefusesRun, unknown_cost, kept_of_entry, kept_of_run}
use Rattle.buffa_map.specs.Pairs.{SamePairs}
use Rattle.buffa_map_laws.specs.LeftOpen.{SameState, EntryIsPinned, RunIsPinned, ValueIsPinned}
use Rattle.buffa_map.specs.Run.{EntryRecord, ArePaid, RecordFault, Run, fold_entries, cost_inside, step, undeclared}
use Rattle.buffa_map.specs.RunReading.{record_at}
use Rattle.buffa_map.proofs.EntryLemmas.{ImplicitField, charge_by-nothing, value_faulty}
use Rattle.buffa_map_laws.proofs.FrontLemmas.{paid_no_fault, same_front, same_taken}
use Rattle.buffa_map.proofs.ChargeLemmas.{charge_free}
use Rattle.buffa_bytes.proofs.ResultLemmas.{not_ok}
use Rattle.buffa_map.proofs.RunLemmas.{InFault, in_faulty, run_complete, run_faulty, said_complete, said_faulty, extra_kept}
use Rattle.buffa_map.proofs.StopLemmas.{HasWholeRecord, LeavesRecord, SpendsOnRecord, broken, leaves, pairs_stand, record_charge, records_stand, run_fault, spends}
use Rattle.buffa_map.proofs.TailLemmas.{no_tag, not_delimited, one_number, one_wire, one_after}

err_one : {A : Type 0} {x y : DecodeError} {r : Result A DecodeError} → r ≡ Err x → r ≡ Err y → x ≡ y
err_one h k = cc

-- ---- budgets

same_charge : (old charge more a b : BudgetLeft) → charge ≡ more → Pays old charge a → Pays old more b → a ≡ b
same_charge old charge more a b e h k = one_left old more a b (subst (λ z. Pays old z a) e h) k

-- what a refusal may spend, where nothing is needed beside the cost
abbrev Spent : ℕ → ℕ → ℕ → ℕ → Type 0
Spent old cost n new = (new ≡ old) ⊎ ((new + cost ≤ old) × (old ≤ new + (cost + n)))

one_memory : (old cost n a b : ℕ) → n ≡ 0 → Spent old cost n a → Spent old cost n b → (cost ≤ old → a + cost ≤ old) → (cost ≤ old → b + cost ≤ old) → a ≡ b
one_memory old cost n a b z (inl p) (inl q) h k = p ∙ sym q
one_memory old cost n a b z (inl p) (inr q) h k = let room = h (omega (arith, q)) in omega (arith, p, q, z, room)
one_memory old cost n a b z (inr p) (inl q) h k = let room = k (omega (arith, p)) in omega (arith, p, q, z, room)
one_memory old cost n a b z (inr p) (inr q) h k = omega (arith, p, q, z)

-- the same, where the budgets before are one
spent_one : (old over cost n m a b : ℕ) → old ≡ over → n ≡ 0 → m ≡ 0 → Spent old cost n a → Spent over cost m b → (cost ≤ old → a + cost ≤ old) → (cost ≤ over → b + cost ≤ over) → a ≡ b
spent_one old over cost n m a b is z w h k p q =
    one_memory old cost n a b z h (subst (λ u. Spent old cost u b) (w ∙ sym z) (subst (λ u. Spent u cost m b) (sym is) k)) p (subst (λ u. cost ≤ u → b + cost ≤ u) (sym is) q)

-- ---- entries

module _ {K V : Type 0} (key : Reading K) (val : Reading V) (d n cost extra : ℕ)
    (key_free : key.nested ≡ false → (d : ℕ) (c : PayloadValue) → key.cost d c ≡ nothing) (val_free : val.nested ≡ false → (d : ℕ) (c : PayloadValue) → val.cost d c ≡ nothing) where
  behind_one : ImplicitField key val d → (left : BudgetLeft) (e : List ℕ) (f g : DecodeError) → InFault key val d n cost extra left e f → InFault key val d n cost extra left e g → f ≡ g
  behind_one plain left e f g h k =
      let p = in_faulty key val d n cost extra left key_free val_free e f h in
      let q = in_faulty key val d n cost extra left key_free val_free e g k in
      p.2 plain ∙ err_one p.1 q.1 ∙ sym (q.2 plain)

  entry_one : ImplicitField key val d → (left : BudgetLeft) (bs : List ℕ) (f g : DecodeError) → EntryFault key val d cost extra left bs f → EntryFault key val d cost extra left bs g → f ≡ g
  entry_one plain left bs f g (inl h) (inl k) = err_one (delimited_faulty bs f h) (delimited_faulty bs g k)
  entry_one plain left bs f g (inl h) (inr (e, rest, t, k)) = absurd (ok_no_err (sym (delimited_taken bs e rest t) ∙ delimited_faulty bs f h))
  entry_one plain left bs f g (inr (e, rest, t, h)) (inl k) = absurd (ok_no_err (sym (delimited_taken bs e rest t) ∙ delimited_faulty bs g k))
  entry_one plain left bs f g (inr (e, rest, t, h)) (inr (x, after, u, k)) =
      let same = same_taken key val d bs e rest x after t u in
      behind_one plain left e f g h (subst (λ (z : List ℕ). InFault key val d n cost extra left z g) (sym (ap (λ z. z.0) same)) k)

  inner_none : ImplicitField key val d → (bs : List ℕ) → inner_charge key val d bs ≡ nothing
  inner_none plain bs = charge_by-nothing (delimited_at bs) (λ e. charge_at key val d (blanks key val d) e.0) (λ e. charge_free key val d key_free val_free (blanks key val d) e.0 plain)

  record_none : ImplicitField key val d → (bs : List ℕ) → record_charge key val d bs ≡ nothing
  record_none plain bs = charge_by-nothing (tag_at bs) (λ t. inner_charge key val d t.2) (λ t. inner_none plain t.2)

  -- ---- runs

  pub run_one : (bs : List ℕ) (es fs : List (EntryRecord K V)) → Run key val d n bs es → Run key val d n bs fs → es ≡ fs
  run_one bs es fs h k =
      let a = cost_inside key val d es in
      let b = cost_inside key val d fs in
      let both : BudgetLeft = plus a b in
      ap (λ z. z.0) (ok_same (sym (run_complete key val d n 0 0 key_free val_free both bs es b h (omega arith, omega arith)) ∙ run_complete key val d n 0 0 key_free val_free both bs fs a k (omega arith, omega arith)))

  pub one_over : (left a b : BudgetLeft) (es fs : List (EntryRecord K V)) → es ≡ fs → ArePaid key val d cost extra left es a → ArePaid key val d cost extra left fs b → a ≡ b
  one_over left a b es fs e h k =
      let paid = subst (λ z. ArePaid key val d cost extra left z b) (sym e) k in
      same_left a b (omega (arith, h.1, paid.1)) (omega (arith, h.0, paid.0))

  -- the record of the first entry of a run
  first_record : (x : EntryRecord K V) (es : List (EntryRecord K V)) (left over : BudgetLeft) (bs a rest : List ℕ) → bs ≡ a ++ rest → Run key val d n a (x ∷ es) → ArePaid key val d cost extra left (x ∷ es) over →
      (more : List ℕ) × (record_at key val d n cost extra left bs ≡ Ok (x, more ++ rest)) × Run key val d n more es
  first_record x es left over bs a rest split (r, more, m, e, run) paid =
      let whole : bs ≡ r ++ (more ++ rest) = split ∙ ap (λ z. z ++ rest) e ∙ append_assoc r more rest in
      (more, ap (record_at key val d n cost extra left) whole ∙ said_complete key val d n cost extra left r (more ++ rest) x (omega (arith, paid.0)) (one_unknown paid.1) m, run)
    where
      one_unknown : over.unknown + ((length (undeclared (x ∷ es))) * extra + (cost_inside key val d (x ∷ es)).unknown) ≡ left.unknown → (charge_of key val d cost x.bytes).unknown + cond x.parts.known 0 extra ≤ left.unknown
      one_unknown h = omega (arith, h, extra_kept x.parts.known x.bytes (undeclared es) extra)

  -- no record begins bytes that have a fault
  no_record : (left over : BudgetLeft) (bs a rest : List ℕ) (f : DecodeError) → bs ≡ a ++ rest → a ≡ [] → ArePaid key val d cost extra left [] over → RecordFault key val d n cost extra over rest f →
      (x : DecodeError) × (record_at key val d n cost extra left bs ≡ Err x)
  no_record left over bs a rest f split none paid bad =
      let p = said_faulty key val d n cost extra over key_free val_free rest f bad in
      let same : over ≡ left = same_left over left (omega (arith, paid.1)) (omega (arith, paid.0)) in
      let whole : bs ≡ rest = split ∙ ap (λ z. z ++ rest) none in
      (p.0, ap (record_at key val d n cost extra left) whole ∙ subst (λ z. record_at key val d n cost extra z rest ≡ Err p.0) same p.1)

  -- two faults come after the same entries
  stop_one : (es fs : List (EntryRecord K V)) (left over last : BudgetLeft) (bs a rest b more : List ℕ) (f g : DecodeError) →
      bs ≡ a ++ rest → Run key val d n a es → ArePaid key val d cost extra left es over → RecordFault key val d n cost extra over rest f →
      bs ≡ b ++ more → Run key val d n b fs → ArePaid key val d cost extra left fs last → RecordFault key val d n cost extra last more g → (es ≡ fs) × (rest ≡ more)
  stop_one [] [] left over last bs a rest b more f g s run paid bad t ran spent worse =
      (refl, sym (s ∙ ap (λ z. z ++ rest) run) ∙ t ∙ ap (λ z. z ++ more) ran)
  stop_one [] (y ∷ fs) left over last bs a rest b more f g s run paid bad t ran spent worse =
      let p = no_record left over bs a rest f s run paid bad in
      let q = first_record y fs left last bs b more t ran spent in
      absurd (ok_no_err (sym q.1 ∙ p.1))
  stop_one (x ∷ es) [] left over last bs a rest b more f g s run paid bad t ran spent worse =
      let p = no_record left last bs b more g t ran spent worse in
      let q = first_record x es left over bs a rest s run paid in
      absurd (ok_no_err (sym q.1 ∙ p.1))
  stop_one (x ∷ es) (y ∷ fs) left over last bs a rest b more f g s run paid bad t ran spent worse =
      let p = first_record x es left over bs a rest s run paid in
      let q = first_record y fs left last bs b more t ran spent in
      let same = ok_same (sym p.1 ∙ q.1) in
      let one : x ≡ y = ap (λ z. z.0) same in
      let u : BudgetLeft = record { unknown = over.unknown + (length (undeclared es) * extra + (cost_inside key val d es).unknown); memory = over.memory + (length es * cost + (cost_inside key val d es).memory) } in
      let again = subst (λ z. ArePaid key val d cost extra left (z ∷ fs) last) (sym one) spent in
      let i = stop_one es fs u over last (p.0 ++ rest) p.0 rest q.0 more f g refl p.2 (refl, refl) bad (ap (λ z. z.1) same) q.2
      (omega (arith, paid.0, again.0), omega (arith, paid.1, again.1, extra_kept x.parts.known x.bytes (undeclared es) extra, extra_kept x.parts.known x.bytes (undeclared fs) extra)) worse in
      ((λ j. one j ∷ i.0 j), i.1)

  -- where a record has a fault, it is there, or it isn't
  record_there : (over : BudgetLeft) (rest : List ℕ) (f : DecodeError) → RecordFault key val d n cost extra over rest f →
      (HasWholeRecord n rest → ⊥) ⊎ ((mid : List ℕ) × (e : List ℕ) × (after : List ℕ) × (tag_at rest ≡ Ok (n, LengthDelimited, mid)) × TakesDelimited mid e after)
  record_there over rest f (inl h) = inl (λ (mid, is, ok). no_tag rest f (tag_faulty rest f h) n LengthDelimited mid is)
  record_there over rest f (inr (inl (g, w, m, t, other, which))) = inl (λ (mid, is, ok). other (one_number rest m mid g n w LengthDelimited (tag_read rest m g w t) is))
  record_there over rest f (inr (inr (inl (w, m, t, other, which)))) = inl (λ (mid, is, ok). other (one_wire rest m mid n n w LengthDelimited (tag_read rest m n w t) is))
  record_there over rest f (inr (inr (inr (m, t, inl h)))) =
      let tag = tag_read rest m n LengthDelimited t in
      inl (λ (mid, is, ok). not_ok (delimited_at mid) f (subst (λ z. delimited_at z ≡ Err f) (sym (one_after rest mid m n n LengthDelimited LengthDelimited is tag)) (delimited_faulty m f h)) ok)
  record_there over rest f (inr (inr (inr (m, t, inr (e, after, there, h))))) = inr (m, e, after, tag_read rest m n LengthDelimited t, there)

-- ---- the laws

module _ {K V : Type 0} (r : Rules K V)
    (key_free : r.key.nested ≡ false → (d : ℕ) (c : PayloadValue) → r.key.cost d c ≡ nothing) (val_free : r.val.nested ≡ false → (d : ℕ) (c : PayloadValue) → r.val.cost d c ≡ nothing) where
  module _ (plain : ImplicitField r.key r.val r.depth) (old : State K V) (bs : List ℕ) (a b : State K V) (x y : List ℕ) (f g : DecodeError)
      (h : RefusesEntry r old bs a x f) (k : RefusesEntry r old bs b y g) (ne : f ≢ OutOfMemory) (nf : g ≢ OutOfMemory) where
    refused_left : (z : Result (List ℕ × List ℕ) DecodeError) → delimited_at bs ≡ z → a.left ≡ b.left
    refused_left (Ok p) is =
        let t = agree_ok (delimited_at bs) p (delimited_sound bs) is in
        let none = inner_none r.key r.val r.depth r.number r.cost (unknown_cost r) key_free val_free plain bs in
        let unit = ap (λ (z : BudgetLeft). z.memory) none in
        let taken = ap (λ (z : BudgetLeft). z.unknown) none in
        same_left a.left b.left (omega (arith, h.spent.fields.0, k.spent.fields.0, (h.spent.not_kept ne).1, (k.spent.not_kept nf).1, taken))
        (one_memory old.left.memory r.cost (inner_charge r.key r.val r.depth bs).memory a.left.memory b.left.memory unit h.spent.units k.spent.units (h.spent.charged p.0 p.1 t) (k.spent.charged p.0 p.1 t))
    refused_left (Err z) is = h.spent.unspent (not_delimited bs z is) ∙ sym (k.spent.unspent (not_delimited bs z is))

    refused_one : (f ≡ g) × SameState r a b
    refused_one =
        let pairs : a.pairs ≡ b.pairs = h.pairs ∙ sym k.pairs in (
          entry_one r.key r.val r.depth r.number r.cost (unknown_cost r) key_free val_free plain old.left bs f g (h.fault ne) (k.fault nf),
          record {
            pairs = λ q. ap (lookup_entry (r.same q)) pairs;
            records = h.records ∙ sym k.records;
            left = refused_left (delimited_at bs) refl;
            order = λ o. pairs;
          },
        )

  one_rest : (old : State K V) (bs : List ℕ) (a b : State K V) (x y : List ℕ) (f g : DecodeError) → RefusesEntry r old bs a x f → RefusesEntry r old bs b y g → f ≢ OutOfMemory → g ≢ OutOfMemory →
      (z : Result (List ℕ × List ℕ) DecodeError) → delimited_at bs ≡ z → x ≡ y
  one_rest old bs a b x y f g h k ne nf (Ok p) is = let t = agree_ok (delimited_at bs) p (delimited_sound bs) is in h.unread.past ne p.0 p.1 t ∙ sym (k.unread.past nf p.0 p.1 t)
  one_rest old bs a b x y f g h k ne nf (Err z) is = h.unread.nothing_there (not_delimited bs z is) ∙ sym (k.unread.nothing_there (not_delimited bs z is))

  pub entry_is_pinned : EntryIsPinned r
  entry_is_pinned = record {
    merged = λ old bs a b x y h k.
        let same = same_front r.key r.val r.depth bs h.entry x h.says k.entry y k.says h.read k.read in
        let e = same.0 in
        let s = same.2 in
        let charge : plus (charge_of r.key r.val r.depth r.cost h.entry) (unknown_fields (cond h.says.known 0 (unknown_cost r))) ≡ plus (charge_of r.key r.val r.depth r.cost k.entry) (unknown_fields (cond k.says.known 0 (unknown_cost r))) =
        ap (λ z. plus (charge_of r.key r.val r.depth r.cost z) (unknown_fields (cond h.says.known 0 (unknown_cost r)))) e ∙ ap (λ z. plus (charge_of r.key r.val r.depth r.cost k.entry) (unknown_fields (cond z.known 0 (unknown_cost r)))) s in (
          record {
            pairs = λ q. sym (h.put q) ∙ ap (λ z. lookup_entry (r.same q) (step r.same old.pairs z)) s ∙ k.put q;
            records = h.keeps ∙ ap (λ z. old.records ++ kept_of_entry r h.entry z) s ∙ ap (λ z. old.records ++ kept_of_entry r z k.says) e ∙ sym k.keeps;
            left = same_charge old.left _ _ a.left b.left charge h.pays k.pays;
            order = λ o. h.order o ∙ ap (λ z. step r.same old.pairs z) s ∙ sym (k.order o);
          },
          same.1,
        );
    refused = λ old bs a b x y f h k ne.
        let paid = h.pays in
        paid_no_fault r.key r.val r.depth r.cost (unknown_cost r) old.left bs h.entry x h.says f h.read
        (omega (arith, paid.1)) (omega (arith, paid.0)) (k.fault ne);
    leaves = λ old bs a b x y f g h k ne nf. one_rest old bs a b x y f g h k ne nf (delimited_at bs) refl;
    faults = λ plain old bs a b x y f g h k ne nf. refused_one plain old bs a b x y f g h k ne nf;
  }

  -- one state, after the same entries
  after_same : (old a b : State K V) (es fs : List (EntryRecord K V)) → es ≡ fs → SamePairs r.same (fold_entries r.same old.pairs es) a.pairs → SamePairs r.same (fold_entries r.same old.pairs fs) b.pairs →
      a.records ≡ old.records ++ kept_of_run r es → b.records ≡ old.records ++ kept_of_run r fs → SamePairs r.same a.pairs b.pairs × (a.records ≡ b.records)
  after_same old a b es fs e h k l m = (
    λ q. sym (h q) ∙ ap (λ z. lookup_entry (r.same q) (fold_entries r.same old.pairs z)) e ∙ k q,
    l ∙ ap (λ z. old.records ++ kept_of_run r z) e ∙ sym m,
  )

  module _ (old : State K V) (bs : List ℕ) (a b : State K V) (x y : List ℕ) (f g : DecodeError)
      (h : RefusesRun r old bs a x f) (k : RefusesRun r old bs b y g) (ne : f ≢ OutOfMemory) (nf : g ≢ OutOfMemory) where
    abbrev h_leaves : LeavesRecord r.number h.rest f x
    h_leaves = leaves r old bs a x f h

    abbrev k_leaves : LeavesRecord r.number k.rest g y
    k_leaves = leaves r old bs b y g k

    stopped_same : (h.read.entries ≡ k.read.entries) × (h.rest ≡ k.rest)
    stopped_same = stop_one r.key r.val r.depth r.number r.cost (unknown_cost r) key_free val_free h.read.entries k.read.entries old.left h.between.left k.between.left bs h.front h.rest k.front k.rest f g
        h.split h.read.run h.read.paid (broken r old bs a x f h ne) k.split k.read.run k.read.paid (broken r old bs b y g k nf)

    stopped_after : SamePairs r.same a.pairs b.pairs × (a.records ≡ b.records)
    stopped_after = after_same old a b h.read.entries k.read.entries stopped_same.0 (rw (pairs_stand r old bs a x f h) h.read.folded) (rw (pairs_stand r old bs b y g k) k.read.folded)
        (records_stand r old bs a x f h ∙ h.read.keeps) (records_stand r old bs b y g k ∙ k.read.keeps)

    one_unread : RecordFault r.key r.val r.depth r.number r.cost (unknown_cost r) h.between.left h.rest f → x ≡ y
    one_unread (inl bad) =
        let is = tag_faulty h.rest f bad in
        let same = stopped_same.1 in
        h_leaves.past_no_tag f is ∙ ap past_no_tag same ∙ sym (k_leaves.past_no_tag f (ap tag_at (sym same) ∙ is))
    one_unread (inr (inl (n, w, m, t, other, which))) =
        let is = tag_read h.rest m n w t in
        h_leaves.past_tag n w m is (inl other) ∙ sym (k_leaves.past_tag n w m (ap tag_at (sym stopped_same.1) ∙ is) (inl other))
    one_unread (inr (inr (inl (w, m, t, other, which)))) =
        let is = tag_read h.rest m r.number w t in
        h_leaves.past_tag r.number w m is (inr other) ∙ sym (k_leaves.past_tag r.number w m (ap tag_at (sym stopped_same.1) ∙ is) (inr other))
    one_unread (inr (inr (inr (m, t, inl bad)))) =
        let is = tag_read h.rest m r.number LengthDelimited t in
        let short = delimited_faulty m f bad in
        h_leaves.nothing_there m f is short ∙ sym (k_leaves.nothing_there m f (ap tag_at (sym stopped_same.1) ∙ is) short)
    one_unread (inr (inr (inr (m, t, inr (e, after, there, bad))))) =
        let is = tag_read h.rest m r.number LengthDelimited t in
        h_leaves.past ne m e after is there ∙ sym (k_leaves.past nf m e after (ap tag_at (sym stopped_same.1) ∙ is) there)

    module _ (plain : ImplicitField r.key r.val r.depth) where
      abbrev h_spends : SpendsOnRecord r h.between.left h.rest f a.left
      h_spends = spends r old bs a x f h

      abbrev k_spends : SpendsOnRecord r k.between.left k.rest g b.left
      k_spends = spends r old bs b y g k

      stopped_over : h.between.left ≡ k.between.left
      stopped_over = one_over r.key r.val r.depth r.number r.cost (unknown_cost r) key_free val_free old.left h.between.left k.between.left h.read.entries k.read.entries stopped_same.0 h.read.paid k.read.paid

      stopped_left : a.left ≡ b.left
      stopped_left =
          let none = record_none r.key r.val r.depth r.number r.cost (unknown_cost r) key_free val_free plain h.rest in
          let nil = record_none r.key r.val r.depth r.number r.cost (unknown_cost r) key_free val_free plain k.rest in
          let rest = stopped_same.1 in
          elim (record_there r.key r.val r.depth r.number r.cost (unknown_cost r) key_free val_free h.between.left h.rest f (broken r old bs a x f h ne)) [
            | inl away ↦ h_spends.unspent away ∙ stopped_over ∙ sym (k_spends.unspent (λ z. away (subst (HasWholeRecord r.number) (sym rest) z)))
            | inr (mid, e, after, tag, t) ↦
                let one = ap (λ (z : BudgetLeft). z.memory) stopped_over in
                let two = ap (λ (z : BudgetLeft). z.unknown) stopped_over in
                let hc = h_spends.charged mid e after tag t in
                let kc = k_spends.charged mid e after (subst (λ z. tag_at z ≡ Ok (r.number, LengthDelimited, mid)) rest tag) t in
                same_left a.left b.left (omega (arith, h_spends.most, k_spends.most, h_spends.no_keeping ne, k_spends.no_keeping nf, two, ap (λ (z : BudgetLeft). z.unknown) none, ap (λ (z : BudgetLeft). z.unknown) nil))
                (spent_one h.between.left.memory k.between.left.memory r.cost (record_charge r.key r.val r.depth h.rest).memory (record_charge r.key r.val r.depth k.rest).memory a.left.memory b.left.memory one (ap (λ (z : BudgetLeft). z.memory) none) (ap (λ (z : BudgetLeft). z.memory) nil) h_spends.units k_spends.units hc kc)
          ]

      stopped_one : (f ≡ g) × SameState r a b
      stopped_one =
          let p = run_faulty r.key r.val r.depth r.number r.cost (unknown_cost r) key_free val_free old.left bs f (run_fault r old bs a x f h ne) in
          let q = run_faulty r.key r.val r.depth r.number r.cost (unknown_cost r) key_free val_free old.left bs g (run_fault r old bs b y g k nf) in (
            p.2 plain ∙ err_one p.1 q.1 ∙ sym (q.2 plain),
            record {
              pairs = stopped_after.0;
              records = stopped_after.1;
              left = stopped_left;
              order = λ o. pairs_stand r old bs a x f h ∙ h.read.order o ∙ ap (fold_entries r.same old.pairs) stopped_same.0 ∙ sym (k.read.order o) ∙ sym (pairs_stand r old bs b y g k);
            },
          )

  pub run_is_pinned : RunIsPinned r
  run_is_pinned = record {
    read = λ old bs a b x y h k.
        let e = run_one r.key r.val r.depth r.number r.cost (unknown_cost r) key_free val_free bs h.entries k.entries h.run k.run in
        let after = after_same old a b h.entries k.entries e h.folded k.folded h.keeps k.keeps in (
          record {
            pairs = after.0;
            records = after.1;
            left = one_over r.key r.val r.depth r.number r.cost (unknown_cost r) key_free val_free old.left a.left b.left h.entries k.entries e h.paid k.paid;
            order = λ o. h.order o ∙ ap (fold_entries r.same old.pairs) e ∙ sym (k.order o);
          },
          h.whole ∙ sym k.whole,
        );
    refused = λ old bs a b x y f h k ne.
        ok_no_err (sym (run_complete r.key r.val r.depth r.number r.cost (unknown_cost r) key_free val_free old.left bs h.entries a.left h.run h.paid)
        ∙ (run_faulty r.key r.val r.depth r.number r.cost (unknown_cost r) key_free val_free old.left bs f (run_fault r old bs b y f k ne)).1);
    stops = λ old bs a b x y f g h k ne nf.
        let same = stopped_same old bs a b x y f g h k ne nf in
        let after = stopped_after old bs a b x y f g h k ne nf in
        (same.0, same.1, after.0, after.1, one_unread old bs a b x y f g h k ne nf (broken r old bs a x f h ne));
    faults = λ plain old bs a b x y f g h k ne nf. stopped_one old bs a b x y f g h k ne nf plain;
  }

-- ---- payloads

plainly : {V : Type 0} (codec : Reading V) → codec.nested ≡ false → (d : ℕ) (old : V) (bs : List ℕ) (left : BudgetLeft) (f : DecodeError) → RefusesValue codec.nested codec d old bs left f → value_at codec d old bs ≡ Err f
plainly codec plain d old bs left f h = subst (λ z. RefusesValue z codec d old bs left f) plain h

paid_once : (b : Bool) (left charge x y : BudgetLeft) → Spends {T = Unit {0}} b (Ok tt) left charge x → Spends {T = Unit {0}} b (Ok tt) left charge y → x ≡ y
paid_once false left charge x y h k = h ∙ sym k
paid_once true left charge x y h k = same_charge left charge charge x y refl h k

not_refused : {V : Type 0} (codec : Reading V) (d : ℕ) (old : V) (bs : List ℕ) (left over : BudgetLeft) (x : (V × Bool) × List ℕ) (f : DecodeError) (b : Bool) →
    value_at codec d old bs ≡ Ok x → Spends {T = Unit {0}} b (Ok tt) left (value_charge codec d bs) over → RefusesValue b codec d old bs left f → ⊥
not_refused codec d old bs left over x f false h paid k = ok_no_err (sym h ∙ k)
not_refused codec d old bs left over x f true h paid (inl few) = not_lacked left (value_charge codec d bs) over paid few
not_refused codec d old bs left over x f true h paid (inr bad) = ok_no_err (sym h ∙ (value_faulty codec d old bs f bad).1)

pub value_is_pinned : {V : Type 0} (codec : Reading V) → ValueIsPinned codec
value_is_pinned codec = record {
  merged = λ d old bs v w a b x y h k.
      let same = ok_same (sym h ∙ k) in
      (ap (λ z. z.0.0) same, ap (λ z. z.0.1) same, ap (λ z. z.1) same);
  spent = λ d bs left a b h k. paid_once codec.nested left (value_charge codec d bs) a b h k;
  refused = λ d old bs left over v a x f h paid k. not_refused codec d old bs left over ((v, a), x) f codec.nested h paid k;
  faults = λ plain d old bs left f g h k. err_one (plainly codec plain d old bs left f h) (plainly codec plain d old bs left g k);
}
