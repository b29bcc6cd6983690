-- A run, record by record: what was read so far, and how reading it ends.
use Rattle.std.proofs.Common.{arith, ◌≡◌, ◌≢◌, ◌<◌, ◌++◌, inl, inr, ℕ, List, [], ◌∷◌, Ok, Err, ap, append-nil, append_assoc, length, refl, subst, sym, ◌∙◌}
use Rattle.std.specs.Cmp.{IsEquivalence}
use Rattle.std.proofs.lemmas.List.{nil_from_length}
use Rattle.buffa_bytes.proofs.FieldLemmas.{tag_at_as, tag_falls, tag_sound}
use Rattle.buffa_bytes.proofs.StepLemmas.{agree_err}
use Rattle.buffa_bytes.specs.declared.error.DecodeError.{DecodeError}
use Rattle.buffa_bytes.specs.declared.error.DecodeError.TheVariants.{UnexpectedField}
use Rattle.buffa_bytes.specs.declared.wire_type.WireType.{WireType}
use Rattle.buffa_bytes.specs.declared.wire_type.WireType.TheVariants.{LengthDelimited}
use Rattle.buffa_bytes.specs.Unread.{past_no_tag}
use Rattle.buffa_bytes.proofs.SequenceLemmas.{not_nil}
use Rattle.buffa_bytes.specs.Readings.{check_wire, tag_at}
use Rattle.buffa_map.specs.Merge.{MergesEntry, ReadsRun, RefusesEntry, RefusesRun, RefusesTag, Rules, State, unknown_cost}
use Rattle.buffa_map.specs.Run.{EntryRecord}
use Rattle.buffa_bytes.proofs.WireLemmas.{checked_same, checked_other}
use Rattle.buffa_map.proofs.TailLemmas.{tag_there}
use Rattle.buffa_map.proofs.RunLemmas.{fold_entries-more, fold_entries-order, Paid-more, Run-last, kept-more, none_kept, entry_falls, record_found}

module _ {K V : Type 0} (r : Rules K V) (old : State K V) (bs : List ℕ) where
  -- the records in front were read, and rest follows them
  pub record Reached (now : State K V) (rest : List ℕ) : Type 0 where
    pub front : List ℕ
    pub split : bs ≡ front ++ rest
    pub read : ReadsRun r old front now []

  pub none_reached : Reached old bs
  none_reached = record {
    front = [];
    split = refl;
    read = record { entries = []; run = refl; folded = λ q. refl; order = λ keeps. refl; keeps = none_kept r.keeps_undeclared old.records; paid = (omega arith, omega arith); whole = refl };
  }

  module _ (now : State K V) (rest : List ℕ) (h : Reached now rest) where
    pub all_reached : length rest ≡ 0 → ReadsRun r old bs now rest
    all_reached empty =
        let is : rest ≡ [] = nil_from_length rest empty in
        subst (λ z. ReadsRun r old bs now z) (sym is) (subst (λ z. ReadsRun r old z now []) (sym (h.split ∙ ap (λ z. h.front ++ z) is ∙ append-nil h.front)) h.read)

    -- the next record is refused for its tag
    stop_here : (unread : List ℕ) (f : DecodeError) → 0 < length rest → RefusesTag r.number rest unread f → RefusesRun r old bs now unread f
    stop_here unread f more why = record { front = h.front; rest = rest; split = h.split; some = not_nil rest more; between = now; read = h.read; refused = inl (why, refl) }

    pub stop_tag : (unread : List ℕ) (f : DecodeError) → unread ≡ past_no_tag rest → 0 < length rest → tag_at rest ≡ Err f → RefusesRun r old bs now unread f
    stop_tag unread f left more is = stop_here unread f more (inl (agree_err (tag_at rest) f (tag_sound rest) is, left))

    module _ (mid : List ℕ) (g : ℕ) (w : WireType) (more : 0 < length rest) (tag : tag_at rest ≡ Ok (g, w, mid)) where
      pub stop_other : g ≢ r.number → RefusesRun r old bs now mid (UnexpectedField g)
      stop_other other = stop_here mid (UnexpectedField g) more (inr (g, w, tag_there rest mid g w tag, inl (other, refl)))

      pub stop_mismatch : (f : DecodeError) → g ≡ r.number → check_wire g LengthDelimited w ≡ Err f → RefusesRun r old bs now mid f
      stop_mismatch f same is =
          let why = checked_other r.number LengthDelimited w f (subst (λ z. check_wire z LengthDelimited w ≡ Err f) same is) in
          stop_here mid f more (inr (g, w, tag_there rest mid g w tag, inr (same, why.0, why.1)))

      module _ (same : g ≡ r.number) (wire : check_wire g LengthDelimited w ≡ Ok tt) where
        pub stop_entry : (new : State K V) (unread : List ℕ) (f : DecodeError) → RefusesEntry r now mid new unread f → RefusesRun r old bs new unread f
        stop_entry new unread f k =
            let found = tag_at_as rest mid g r.number w LengthDelimited tag same (checked_same g LengthDelimited w wire) in
            record { front = h.front; rest = rest; split = h.split; some = not_nil rest more; between = now; read = h.read; refused = inr (mid, tag_there rest mid r.number LengthDelimited found, k) }

        pub one_more : IsEquivalence r.same → (new : State K V) (after : List ℕ) → MergesEntry r now mid new after → Reached new after
        one_more laws new after k =
            let x : EntryRecord K V = record { bytes = k.entry; parts = k.says } in
            let one = record_found r.key r.val r.depth r.number rest mid after g w k.says tag same wire k.entry k.read in
            record {
              front = h.front ++ one.0;
              split = h.split ∙ ap (λ z. h.front ++ z) one.2 ∙ sym (append_assoc h.front one.0 after);
              read = record {
                entries = h.read.entries ++ x ∷ [];
                run = Run-last r.key r.val r.depth r.number h.front h.read.entries one.0 x h.read.run one.1;
                order = fold_entries-order r.same r.keeps_order old.pairs now.pairs new.pairs h.read.entries x k.says refl h.read.order k.order;
                folded = fold_entries-more laws old.pairs now.pairs new.pairs h.read.entries x k.says refl h.read.folded k.put;
                keeps = kept-more r old.records now.records new.records h.read.entries x h.read.keeps k.keeps;
                paid = Paid-more r.key r.val r.depth r.cost (unknown_cost r) old.left now.left new.left h.read.entries x h.read.paid k.pays;
                whole = refl;
              };
            }

        pub less : (new : State K V) (after : List ℕ) → MergesEntry r now mid new after → length after < length rest
        less new after k = omega (arith, tag_falls rest (g, w, mid) tag, entry_falls r.key r.val r.depth r.number mid k.entry k.says after k.read)
