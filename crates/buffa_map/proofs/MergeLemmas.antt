-- An entry that was merged, or refused, at each place where reading it ends.
use Rattle.std.specs.Prelude.{if◌then◌else◌}
use Rattle.std.proofs.Common.{arith, ◌≡◌, ◌≢◌, ◌+◌, ◌<◌, ◌≤◌, ◌++◌, ◌∷◌, ◌⊎◌, inl, inr, ℕ, true, false, List, [], Ok, Err, ap, append-nil, length, refl, subst, sym, take, drop, ◌∙◌}
use Rattle.buffa_bytes.specs.declared.error.DecodeError.{DecodeError}
use Rattle.buffa_bytes.specs.declared.error.DecodeError.TheVariants.{ElementMemoryLimitExceeded, OutOfMemory, UnexpectedEof, UnknownFieldLimitExceeded}
use Rattle.buffa_bytes.specs.Unread.{past_no_delimited, IsTailOf}
use Rattle.buffa_wire.specs.BudgetLeft.{BudgetLeft, Lacks, charge_by, plus, units}
use Rattle.buffa_wire.proofs.SpentLemmas.{same_left}
use Rattle.buffa_bytes.specs.Readings.{delimited_at, taken, varint_at}
use Rattle.buffa_bytes.proofs.DelimitedLemmas.{after_length, taken_sound}
use Rattle.buffa_bytes.proofs.StepLemmas.{agree_ok}
use Rattle.buffa_wire.specs.Records.{FieldData, bytes}
use Rattle.buffa_map.specs.Entry.{EntryFault, FaultOf, IsEntry, EntryFieldsTakeMemory}
use Rattle.buffa_map.specs.EntryReading.{blanks, inner_charge, charge_at, charge_of}
use Rattle.buffa_map.specs.Merge.{EntryTakesMemory, MergesEntry, MergesWhole, RefusesEntry, RefusesWhole, Rules, State, state, unknown_cost}
use Rattle.buffa_map.specs.EntryFieldsSpent.{ReadsParts, RefusesCut, RefusesParts}
use Rattle.buffa_map.specs.Pairs.{InOrder, SamePairs, put}
use Rattle.buffa_map.specs.declared.map_entry.MapEntry.{MapEntry}
use Rattle.buffa_bytes.proofs.UnreadLemmas.{past_cut}
use Rattle.buffa_map.proofs.TailLemmas.{behind_length, cut_front, cut_short, delimited_tail, delimited_there, one_rest}
use Rattle.buffa_bytes.proofs.TailLemmas.{tail_more, tail_whole}
use Rattle.buffa_bytes.specs.Field.{TakesDelimited}
use Rattle.buffa_map.proofs.RunLemmas.{none_kept}
use Rattle.buffa_map.proofs.ChargeLemmas.{entry_charged, entry_found, entry_refused, entry_short, entry_without, no_length}

module _ {K V : Type 0} (r : Rules K V) (pairs : List (K × V)) (records : List (ℕ × FieldData)) (left : BudgetLeft) (bs : List ℕ) where
  abbrev fields_charge : List ℕ → BudgetLeft
  fields_charge e = charge_at r.key r.val r.depth (blanks r.key r.val r.depth) e

  -- no length and so many bytes are there
  pub no_entry : (unread : List ℕ) (f : DecodeError) → IsTailOf unread bs → delimited_at bs ≡ Err f → (f ≢ OutOfMemory) → unread ≡ past_no_delimited bs →
      RefusesEntry r (state pairs records left) bs (state pairs records left) unread f
  no_entry unread f tail h some past = record {
    fault = λ ne. entry_short r.key r.val r.depth r.cost (unknown_cost r) left bs f h;
    memory = λ out. absurd (some out);
    pairs = refl;
    records = refl;
    unread = record {
      within = λ e rest t. no_length r.key r.val r.depth bs f h e rest t;
      nothing_there = λ none. past;
      tail = tail;
      past = λ ne e rest t. no_length r.key r.val r.depth bs f h e rest t;
    };
    spent = record {
      units = inl refl;
      charged = λ e rest t room. no_length r.key r.val r.depth bs f h e rest t;
      unspent = λ no. refl;
      fields = (omega arith, omega arith);
      not_kept = λ ne. (omega arith, omega arith);
    };
  }

  module _ (e rest : List ℕ) (is : delimited_at bs ≡ Ok (e, rest)) where
    inner : inner_charge r.key r.val r.depth bs ≡ fields_charge e
    inner = ap (λ z. charge_by z (λ x. fields_charge x.0)) is

    there : TakesDelimited bs e rest
    there = delimited_there bs e rest is

    -- the entry's cost was spent, and no memory is left for a copy of its bytes, of which there are some
    pub no_copy : (unread : List ℕ) (over : BudgetLeft) (f : DecodeError) → (r.keeps_undeclared ≡ true) × (r.val.undeclared ≡ true) → (e ≢ []) → IsTailOf unread bs → IsTailOf rest unread → (f ≢ OutOfMemory → ⊥) →
        over.memory + r.cost ≡ left.memory → over.unknown ≡ left.unknown → RefusesEntry r (state pairs records left) bs (state pairs records over) unread f
    no_copy unread over f keeps some tail near full charged slots = record {
      fault = λ ne. absurd (full ne);
      memory = λ out. (e, rest, there, omega (arith, charged), inl (keeps.0, keeps.1, some));
      pairs = refl;
      records = refl;
      unread = record {
        tail = tail;
        past = λ ne x after t. absurd (full ne);
        within = λ x after t. subst (λ z. IsTailOf z unread) (one_rest bs e rest x after is t) near;
        nothing_there = λ none. absurd (none e rest there);
      };
      spent = record {
        units = inr (omega (arith, charged), omega (arith, charged));
        charged = λ x after t room. omega (arith, charged);
        unspent = λ none. absurd (none e rest there);
        fields = (omega (arith, slots), omega (arith, slots));
        not_kept = λ ne. (omega (arith, slots), omega (arith, slots));
      };
    }

    parts_memory : (r.cost ≤ left.memory) × (EntryFieldsTakeMemory r.key r.val r.depth e ⊎ ((s : MapEntry K V) × IsEntry r.key r.val r.depth e s × (s.known ≡ true))) → EntryTakesMemory r left bs
    parts_memory (room, inl field) = (e, rest, there, room, inr (inl field))
    parts_memory (room, inr (s, h, known)) = (e, rest, there, room, inr (inr (s, h, inl known)))

    parts_fault : (f : DecodeError) → ((left.memory < r.cost) × (f ≡ ElementMemoryLimitExceeded)) ⊎ ((r.cost ≤ left.memory) × (Lacks left (charge_of r.key r.val r.depth r.cost e) ⊎ FaultOf r.key r.val r.depth e f)) →
        EntryFault r.key r.val r.depth r.cost (unknown_cost r) left bs f
    parts_fault f (inl few) = entry_charged r.key r.val r.depth r.cost (unknown_cost r) left bs e rest f is few.0 few.1
    parts_fault f (inr (room, bad)) = entry_refused r.key r.val r.depth r.cost (unknown_cost r) left bs e rest f is room bad

    parts_units : (new : ℕ) → (new ≡ left.memory) ⊎ ((new + r.cost ≤ left.memory) × (left.memory ≤ new + (charge_of r.key r.val r.depth r.cost e).memory)) →
        (new ≡ left.memory) ⊎ ((new + r.cost ≤ left.memory) × (left.memory ≤ new + (r.cost + (inner_charge r.key r.val r.depth bs).memory)))
    parts_units new (inl same) = inl same
    parts_units new (inr spent) = inr (spent.0, omega (arith, spent.1, ap (λ (z : BudgetLeft). z.memory) inner))

    -- the fields are refused, or the cost is
    pub bad_parts : (over : BudgetLeft) (f : DecodeError) → RefusesParts r.key r.val r.depth r.cost e left over f → RefusesEntry r (state pairs records left) bs (state pairs records over) rest f
    bad_parts over f h =
        let taken = ap (λ (z : BudgetLeft). z.unknown) inner in
        record {
          fault = λ ne. parts_fault f (h.fault ne);
          memory = λ out. parts_memory (h.memory out);
          pairs = refl;
          records = refl;
          unread = record {
            tail = delimited_tail bs e rest is;
            past = λ ne x after t. one_rest bs e rest x after is t;
            within = λ x after t. subst (λ z. IsTailOf z rest) (one_rest bs e rest x after is t) (tail_whole rest);
            nothing_there = λ none. absurd (none e rest there);
          };
          spent = record {
            units = parts_units over.memory h.units;
            charged = λ e rest t room. h.charged room;
            unspent = λ none. absurd (none e rest there);
            fields = (h.most, omega (arith, h.least, taken));
            not_kept = λ ne. (h.most, omega (arith, h.least, taken));
          };
        }

    module _ (s : MapEntry K V) (over : BudgetLeft) (h : ReadsParts r.key r.val r.depth r.cost e left s over) where
      pub is_put : s.known ≡ true → (new : List (K × V)) → SamePairs r.same (put r.same pairs s.key s.value) new → InOrder r.keeps_order (put r.same pairs s.key s.value) new → MergesEntry r (state pairs records left) bs (state new records over) rest
      is_put known new same order = record {
        says = s;
        entry = e;
        read = entry_found r.key r.val r.depth bs e rest s is h.entry;
        put = rw known same;
        order = rw known order;
        keeps = rw known (none_kept r.keeps_undeclared records);
        pays = (rw known (omega (arith, h.pays)), omega (arith, h.pays));
      }

      pub not_put : s.known ≡ true → (new : List (K × V)) (f : DecodeError) → f ≡ OutOfMemory → new ≡ pairs → RefusesEntry r (state pairs records left) bs (state new records over) rest f
      not_put known new f out same =
          rw same (bad_parts over f (record {
            fault = λ ne. absurd (ne out);
            memory = λ is. (omega (arith, h.pays), inr (s, h.entry, known));
            units = inr (omega (arith, h.pays), omega (arith, h.pays));
            charged = λ room. omega (arith, h.pays);
            most = omega (arith, h.pays);
            least = omega (arith, h.pays);
          }))

      pub is_kept : s.known ≡ false → (kept : List (ℕ × FieldData)) (last : BudgetLeft) → kept ≡ records ++ (if r.keeps_undeclared then (r.number, bytes e) ∷ [] else []) → last.unknown + (unknown_cost r) ≡ over.unknown → last.memory ≡ over.memory → MergesEntry r (state pairs records left) bs (state pairs kept last) rest
      is_kept known kept last added extra unit = record {
        says = s;
        entry = e;
        read = entry_found r.key r.val r.depth bs e rest s is h.entry;
        put = rw known (λ q. refl);
        order = rw known (λ keeps. refl);
        keeps = rw known added;
        pays = (rw known (omega (arith, h.pays, extra)), omega (arith, h.pays, unit));
      }

      -- where none is kept, the records and the budget stand
      pub is_dropped : s.known ≡ false → r.keeps_undeclared ≡ false → MergesEntry r (state pairs records left) bs (state pairs records over) rest
      is_dropped known drops = is_kept known records over (rw drops (sym (append-nil records))) (rw drops (omega arith)) refl

      pub not_kept : s.known ≡ false → (kept : List (ℕ × FieldData)) (last : BudgetLeft) (f : DecodeError) → kept ≡ records → last.unknown ≤ over.unknown → over.unknown ≤ last.unknown + (unknown_cost r) → last.memory ≡ over.memory →
          (f ≢ OutOfMemory → (r.keeps_undeclared ≡ true) × (over.unknown ≡ 0) × (f ≡ UnknownFieldLimitExceeded) × (last.unknown ≡ over.unknown)) → (f ≡ OutOfMemory → (r.keeps_undeclared ≡ true) × (0 < over.unknown)) → RefusesEntry r (state pairs records left) bs (state pairs kept last) rest f
      not_kept known kept last f same most least unit which keeps =
          let units = ap (λ (z : BudgetLeft). z.memory) inner in
          let taken = ap (λ (z : BudgetLeft). z.unknown) inner in
          record {
            fault = λ ne. entry_without r.key r.val r.depth r.cost (unknown_cost r) left bs e rest s f is (omega (arith, h.pays)) h.entry known (rw (which ne).0 (omega (arith, (which ne).1, h.pays))) (which ne).2;
            memory = λ out. (e, rest, there, omega (arith, h.pays), inr (inr (s, h.entry, inr ((keeps out).0, omega (arith, (keeps out).1, h.pays)))));
            pairs = refl;
            records = same;
            unread = record {
              tail = delimited_tail bs e rest is;
              past = λ ne x after t. one_rest bs e rest x after is t;
              within = λ x after t. subst (λ z. IsTailOf z rest) (one_rest bs e rest x after is t) (tail_whole rest);
              nothing_there = λ none. absurd (none e rest there);
            };
            spent = record {
              units = inr (omega (arith, h.pays, unit), omega (arith, h.pays, unit, units));
              charged = λ e rest t room. omega (arith, h.pays, unit);
              unspent = λ none. absurd (none e rest there);
              fields = (omega (arith, h.pays, most), omega (arith, h.pays, least, taken));
              not_kept = λ ne. (omega (arith, h.pays, most), omega (arith, h.pays, (which ne).3, taken));
            };
          }

  -- a cut entry is refused
  pub bad_cut : (n : ℕ) (mid unread : List ℕ) (over : BudgetLeft) (f : DecodeError) → varint_at bs ≡ Ok (n, mid) → RefusesCut r.key r.val r.depth r.cost n mid left over unread f → RefusesEntry r (state pairs records left) bs (state pairs records over) unread f
  bad_cut n mid unread over f len (inl (few, eof, same, kept)) = rw (same, kept, eof) (no_entry mid UnexpectedEof (behind_length n bs mid len) (cut_short n bs mid len few) (λ out. cc) (past_cut n bs mid len few))
  bad_cut n mid unread over f len (inr (fits, follows, parts)) = bad_parts (take n mid) unread (cut_front n bs mid unread len fits follows) over f parts

  -- no memory is left for a copy of an entry of n bytes
  pub cut_no_copy : (n : ℕ) (mid unread : List ℕ) (over : BudgetLeft) (f : DecodeError) → varint_at bs ≡ Ok (n, mid) → n ≤ length mid → (r.keeps_undeclared ≡ true) × (r.val.undeclared ≡ true) → (n ≡ 0 → false ≡ true) →
      IsTailOf unread mid → IsTailOf (drop n mid) unread → (f ≢ OutOfMemory → taken n mid ≡ Err f) → over.memory + r.cost ≡ left.memory → over.unknown ≡ left.unknown → RefusesEntry r (state pairs records left) bs (state pairs records over) unread f
  cut_no_copy n mid unread over f len fits keeps some tail near reads charged slots =
      let is = cut_front n bs mid (drop n mid) len fits refl in
      let there : taken n mid ≡ Ok (take n mid, drop n mid) = sym (after_length n bs mid len) ∙ is in
      let long = (agree_ok (taken n mid) (take n mid, drop n mid) (taken_sound n mid) there).0 in
      no_copy (take n mid) (drop n mid) is unread over f keeps (λ none. let no = some (sym long ∙ ap length none) in cc) (tail_more bs mid unread tail (behind_length n bs mid len)) near
      (λ ne. let no = sym there ∙ reads ne in cc) charged slots

-- an entry is merged, or refused, by what its cost leaves as it is with the cost
module _ {K V : Type 0} (r : Rules K V) (pairs : List (K × V)) (records : List (ℕ × FieldData)) (left over : BudgetLeft) (charged : over.memory + r.cost ≡ left.memory) (slots : over.unknown ≡ left.unknown) where
  back : plus (units r.cost) over ≡ left
  back = same_left (plus (units r.cost) over) left (omega (arith, slots)) (omega (arith, charged))

  pub charged_merged : (e : List ℕ) (new : State K V) → MergesWhole r (state pairs records (plus (units r.cost) over)) e new → MergesWhole r (state pairs records left) e new
  charged_merged e new h = subst (λ z. MergesWhole r (state pairs records z) e new) back h

  pub charged_refused : (e : List ℕ) (new : State K V) (f : DecodeError) → RefusesWhole r (state pairs records (plus (units r.cost) over)) e new f → RefusesWhole r (state pairs records left) e new f
  charged_refused e new f h = subst (λ z. RefusesWhole r (state pairs records z) e new f) back h
