-- What is known of a refused run, of its parts: why the record at which it stopped isn't one, and what is unread and spent then.
use Rattle.std.proofs.Common.{arith, ◌≡◌, ◌≢◌, ◌+◌, ◌≤◌, ◌⊎◌, inl, inr, ℕ, List, Ok, Err, ap, refl, subst, sym, ◌∙◌}
use Rattle.std.specs.Prelude.{IsOk}
use Rattle.buffa_bytes.proofs.DelimitedLemmas.{delimited_taken}
use Rattle.buffa_bytes.proofs.FieldLemmas.{tag_faulty, tag_read}
use Rattle.buffa_bytes.proofs.SequenceLemmas.{ok_no_err}
use Rattle.buffa_bytes.proofs.TailLemmas.{tail_more}
use Rattle.buffa_bytes.proofs.WireLemmas.{check_differs, check_same}
use Rattle.buffa_bytes.specs.Field.{TakesDelimited, TakesTag}
use Rattle.buffa_bytes.specs.Readings.{check_wire, delimited_at, tag_at}
use Rattle.buffa_bytes.specs.Unread.{past_no_delimited, past_no_tag, IsTailOf}
use Rattle.buffa_bytes.specs.declared.error.DecodeError.{DecodeError}
use Rattle.buffa_bytes.specs.declared.error.DecodeError.TheVariants.{OutOfMemory}
use Rattle.buffa_bytes.specs.declared.wire_type.WireType.{WireType}
use Rattle.buffa_bytes.specs.declared.wire_type.WireType.TheVariants.{LengthDelimited}
use Rattle.buffa_wire.specs.BudgetLeft.{BudgetLeft, charge_by}
use Rattle.buffa_map.specs.Codec.{Reading}
use Rattle.buffa_map.specs.EntryReading.{inner_charge}
use Rattle.buffa_map.specs.Merge.{RefusesEntry, RefusesRun, RefusesTag, Rules, State, unknown_cost}
use Rattle.buffa_map.specs.Run.{RecordFault, RunFault}
use Rattle.buffa_map.proofs.RunLemmas.{record_entry, record_mismatch, record_other, record_tag}
use Rattle.buffa_map.proofs.TailLemmas.{no_tag, not_delimited, one_after, one_number, one_wire, past_tag_tail, tag_tail, tail_behind}

-- a tag of this number, a length and so many bytes begin the bytes
abbrev pub HasWholeRecord : ℕ → List ℕ → Type 0
HasWholeRecord n bs = (mid : List ℕ) × (tag_at bs ≡ Ok (n, LengthDelimited, mid)) × IsOk (delimited_at mid)

-- what the messages cost that are merged in the record at the front, if a tag, a length and an entry are there
abbrev pub record_charge : {K V : Type 0} → Reading K → Reading V → ℕ → List ℕ → BudgetLeft
record_charge key val d bs = charge_by (tag_at bs) (λ t. inner_charge key val d t.2)

-- What a refused record leaves unread.
pub record LeavesRecord (n : ℕ) (bytes : List ℕ) (f : DecodeError) (unread : List ℕ) : Type 0 where
  pub tail : IsTailOf unread bytes
  pub past_no_tag : (x : DecodeError) → tag_at bytes ≡ Err x → unread ≡ past_no_tag bytes
  pub past_tag : (g : ℕ) (w : WireType) (mid : List ℕ) → tag_at bytes ≡ Ok (g, w, mid) → (g ≢ n) ⊎ (w ≢ LengthDelimited) → unread ≡ mid
  pub past : f ≢ OutOfMemory → (mid e after : List ℕ) → tag_at bytes ≡ Ok (n, LengthDelimited, mid) → TakesDelimited mid e after → unread ≡ after
  pub nothing_there : (mid : List ℕ) (x : DecodeError) → tag_at bytes ≡ Ok (n, LengthDelimited, mid) → delimited_at mid ≡ Err x → unread ≡ past_no_delimited mid

-- What a refused record spends of a budget: what its entry does, and nothing where no record of the number was there.
pub record SpendsOnRecord {K V : Type 0} (r : Rules K V) (left : BudgetLeft) (bytes : List ℕ) (f : DecodeError) (left_after : BudgetLeft) : Type 0 where
  pub units : (left_after.memory ≡ left.memory)
      ⊎ ((left_after.memory + r.cost ≤ left.memory)
      × (left.memory ≤ left_after.memory + (r.cost + (record_charge r.key r.val r.depth bytes).memory)))
  pub charged : (mid e after : List ℕ) → tag_at bytes ≡ Ok (r.number, LengthDelimited, mid) → TakesDelimited mid e after → r.cost ≤ left.memory → left_after.memory + r.cost ≤ left.memory
  pub unspent : (HasWholeRecord r.number bytes → ⊥) → left_after ≡ left
  pub most : left_after.unknown ≤ left.unknown
  pub no_keeping : f ≢ OutOfMemory → left.unknown ≤ left_after.unknown + (record_charge r.key r.val r.depth bytes).unknown

-- a tag that was refused is none of the field's
not_of_field : (n : ℕ) (rest tail : List ℕ) (f : DecodeError) → RefusesTag n rest tail f → (mid : List ℕ) → tag_at rest ≡ Ok (n, LengthDelimited, mid) → ⊥
not_of_field n rest tail f (inl (bad, left)) mid k = no_tag rest f (tag_faulty rest f bad) n LengthDelimited mid k
not_of_field n rest tail f (inr (g, w, tag, inl (other, which))) mid k = other (one_number rest tail mid g n w LengthDelimited (tag_read rest tail g w tag) k)
not_of_field n rest tail f (inr (g, w, tag, inr (same, differs, which))) mid k = differs (one_wire rest tail mid g n w LengthDelimited (tag_read rest tail g w tag) k)

tag_leaves : (n : ℕ) (rest tail : List ℕ) (f : DecodeError) → RefusesTag n rest tail f → LeavesRecord n rest f tail
tag_leaves n rest tail f (inl (bad, left)) =
    let is = tag_faulty rest f bad in
    record {
      tail = subst (λ z. IsTailOf z rest) (sym left) (past_tag_tail rest f bad);
      past_no_tag = λ x no. left;
      past_tag = λ g w mid k other. absurd (no_tag rest f is g w mid k);
      past = λ ne mid e after k t. absurd (no_tag rest f is n LengthDelimited mid k);
      nothing_there = λ mid x k no. absurd (no_tag rest f is n LengthDelimited mid k);
    }
tag_leaves n rest tail f (inr (g, w, tag, why)) = record {
  tail = tail_behind tag.0 tail rest tag.2;
  past_no_tag = λ x no. absurd (ok_no_err (sym (tag_read rest tail g w tag) ∙ no));
  past_tag = λ h v m k other. one_after rest tail m g h w v (tag_read rest tail g w tag) k;
  past = λ ne mid e after k t. absurd (not_of_field n rest tail f (inr (g, w, tag, why)) mid k);
  nothing_there = λ mid x k no. absurd (not_of_field n rest tail f (inr (g, w, tag, why)) mid k);
}

module _ {K V : Type 0} (r : Rules K V) (now new : State K V) (rest tail : List ℕ) (f : DecodeError) where
  -- how the record behind those that were read is refused
  abbrev IsRefused : Type 0
  IsRefused =
      (RefusesTag r.number rest tail f × (new ≡ now))
      ⊎ ((mid : List ℕ) × TakesTag rest r.number LengthDelimited mid × RefusesEntry r now mid new tail f)

  broken_by : IsRefused → f ≢ OutOfMemory → RecordFault r.key r.val r.depth r.number r.cost (unknown_cost r) now.left rest f
  broken_by (inl (inl (bad, left), same)) ne = record_tag r.key r.val r.depth r.number r.cost (unknown_cost r) now.left rest f (tag_faulty rest f bad)
  broken_by (inl (inr (g, w, tag, inl (other, which)), same)) ne =
      subst (λ z. RecordFault r.key r.val r.depth r.number r.cost (unknown_cost r) now.left rest z) (sym which)
      (record_other r.key r.val r.depth r.number r.cost (unknown_cost r) now.left rest tail g w (tag_read rest tail g w tag) other)
  broken_by (inl (inr (g, w, tag, inr (is, differs, which)), same)) ne =
      let checked : check_wire r.number LengthDelimited w ≡ Err f = check_differs r.number LengthDelimited w differs ∙ ap (λ z. Err z) (sym which) in
      record_mismatch r.key r.val r.depth r.number r.cost (unknown_cost r) now.left rest tail g w f (tag_read rest tail g w tag) is (subst (λ z. check_wire z LengthDelimited w ≡ Err f) (sym is) checked)
  broken_by (inr (mid, tag, k)) ne =
      record_entry r.key r.val r.depth r.number r.cost (unknown_cost r) now.left rest mid r.number LengthDelimited f (tag_read rest mid r.number LengthDelimited tag) refl (check_same r.number LengthDelimited LengthDelimited refl) (k.fault ne)

  leaves_by : IsRefused → LeavesRecord r.number rest f tail
  leaves_by (inl (t, same)) = tag_leaves r.number rest tail f t
  leaves_by (inr (mid, takes, k)) =
      let found = tag_read rest mid r.number LengthDelimited takes in
      let one : (m : List ℕ) → tag_at rest ≡ Ok (r.number, LengthDelimited, m) → m ≡ mid = λ m is. one_after rest m mid r.number r.number LengthDelimited LengthDelimited is found in
      record {
        tail = tail_more rest mid tail k.unread.tail (tag_tail rest mid r.number LengthDelimited found);
        past_no_tag = λ x no. absurd (ok_no_err (sym found ∙ no));
        past_tag = λ h v m is other. absurd (elim other [ inl n ↦ n (one_number rest m mid h r.number v LengthDelimited is found) | inr n ↦ n (one_wire rest m mid h r.number v LengthDelimited is found) ]);
        past = λ ne m e after is t. k.unread.past ne e after (subst (λ z. TakesDelimited z e after) (one m is) t);
        nothing_there = λ m x is no. k.unread.nothing_there (not_delimited mid x (ap delimited_at (sym (one m is)) ∙ no)) ∙ ap past_no_delimited (sym (one m is));
      }

  spends_by : IsRefused → SpendsOnRecord r now.left rest f new.left
  spends_by (inl (t, same)) =
      subst (λ (z : BudgetLeft). SpendsOnRecord r now.left rest f z) (ap (λ (z : State K V). z.left) (sym same))
      (record {
        units = inl refl;
        charged = λ mid e after k w room. absurd (not_of_field r.number rest tail f t mid k);
        unspent = λ no. refl;
        most = omega arith;
        no_keeping = λ ne. omega arith;
      })
  spends_by (inr (mid, takes, k)) =
      let found = tag_read rest mid r.number LengthDelimited takes in
      let charge : record_charge r.key r.val r.depth rest ≡ inner_charge r.key r.val r.depth mid = rw found refl in
      let units = ap (λ (z : BudgetLeft). z.memory) charge in
      let taken = ap (λ (z : BudgetLeft). z.unknown) charge in
      record {
        units = elim k.spent.units [ inl e ↦ inl e | inr e ↦ inr (e.0, omega (arith, e.1, units)) ];
        charged = λ m e after is t room. k.spent.charged e after (subst (λ z. TakesDelimited z e after) (one_after rest m mid r.number r.number LengthDelimited LengthDelimited is found) t) room;
        unspent = λ no. k.spent.unspent (λ e after t. no (mid, found, rw (delimited_taken mid e after t) cc));
        most = k.spent.fields.0;
        no_keeping = λ ne. omega (arith, (k.spent.not_kept ne).1, taken);
      }

  pairs_by : IsRefused → new.pairs ≡ now.pairs
  pairs_by (inl (t, same)) = ap (λ (z : State K V). z.pairs) same
  pairs_by (inr (mid, found, k)) = k.pairs

  records_by : IsRefused → new.records ≡ now.records
  records_by (inl (t, same)) = ap (λ (z : State K V). z.records) same
  records_by (inr (mid, found, k)) = k.records

module _ {K V : Type 0} (r : Rules K V) (old : State K V) (bs : List ℕ) (new : State K V) (tail : List ℕ) (f : DecodeError) (h : RefusesRun r old bs new tail f) where
  pub broken : f ≢ OutOfMemory → RecordFault r.key r.val r.depth r.number r.cost (unknown_cost r) h.between.left h.rest f
  broken ne = broken_by r h.between new h.rest tail f h.refused ne

  -- the fault of the run
  pub run_fault : f ≢ OutOfMemory → RunFault r.key r.val r.depth r.number r.cost (unknown_cost r) old.left bs f
  run_fault ne = (h.read.entries, h.rest, h.between.left, (h.front, h.split, h.read.run, h.read.paid), h.some, broken ne)

  pub leaves : LeavesRecord r.number h.rest f tail
  leaves = leaves_by r h.between new h.rest tail f h.refused

  pub spends : SpendsOnRecord r h.between.left h.rest f new.left
  spends = spends_by r h.between new h.rest tail f h.refused

  -- what was read stands
  pub pairs_stand : new.pairs ≡ h.between.pairs
  pairs_stand = pairs_by r h.between new h.rest tail f h.refused

  pub records_stand : new.records ≡ h.between.records
  records_stand = records_by r h.between new h.rest tail f h.refused
