-- What a run into an empty map gives, as the reading of the run.
use Rattle.std.proofs.Common.{◌≡◌, ◌≢◌, ℕ, Bool, false, List, [], ◌++◌, Result, Ok, Err, sym, ap, ◌∙◌, subst}
use Rattle.std.specs.Prelude.{IfErr, OnOk}
use Rattle.std.proofs.lemmas.Result.{on_ok_weaker, IfErr-weaker}
use Rattle.buffa_bytes.specs.declared.error.DecodeError.{DecodeError}
use Rattle.buffa_bytes.specs.declared.error.DecodeError.TheVariants.{OutOfMemory}
use Rattle.buffa_wire.specs.BudgetLeft.{BudgetLeft, defaults, nothing}
use Rattle.buffa_bytes.specs.PayloadValue.{PayloadValue}
use Rattle.buffa_wire.specs.Records.{FieldData}
use Rattle.buffa_map.specs.Codec.{Reading}
use Rattle.buffa_map.specs.Pairs.{SamePairs}
use Rattle.buffa_map.specs.Merge.{ReadsRun, Rules, RefusesRun, kept_of_run, state, unknown_cost}
use Rattle.buffa_map.specs.Run.{fold_entries, ArePaid, Run, EntryRecord}
use Rattle.buffa_map.specs.RunReading.{run_of}
use Rattle.buffa_map.proofs.RunLemmas.{run_complete, run_faulty}
use Rattle.buffa_map.proofs.StopLemmas.{run_fault}

module _ {K V : Type 0} (key : Reading K) (val : Reading V) (eq : K → K → Bool) (cost : ℕ) (keeps : Bool)
    (key_free : key.nested ≡ false → (d : ℕ) (c : PayloadValue) → key.cost d c ≡ nothing) (val_free : val.nested ≡ false → (d : ℕ) (c : PayloadValue) → val.cost d c ≡ nothing)
    (key_plain : key.nested ≡ false) (val_plain : val.nested ≡ false)
    {X : Type 0} (r : Result X DecodeError) (d n : ℕ) (left over : BudgetLeft) (bs : List ℕ) (old new : List (K × V)) (records kept : List (ℕ × FieldData)) (is_d : d ≡ 100) (is_left : left ≡ defaults) where
  abbrev by : Rules K V
  by = record { key = key; val = val; same = eq; keeps_order = false; depth = d; number = n; cost = cost; keeps_undeclared = keeps }

  -- the run of the entries, and what became of map and records
  abbrev pub IsRead : Type 0
  IsRead =
      (es : List (EntryRecord K V)) × (over : BudgetLeft) × (run_of key val 100 n cost (unknown_cost by) defaults bs ≡ Ok (es, over))
      × SamePairs eq (fold_entries eq [] es) new × (kept ≡ records ++ kept_of_run by es)

  pub ran : (rest : List ℕ) → old ≡ [] → OnOk r (ReadsRun by (state old records left) bs (state new kept over) rest) → OnOk r IsRead
  ran rest is_old h = on_ok_weaker r (λ k. (
    k.entries,
    over,
    run_complete key val 100 n cost (unknown_cost by) key_free val_free defaults bs k.entries over (subst (λ z. Run key val z n bs k.entries) is_d k.run)
        (subst (λ z. ArePaid key val z cost (unknown_cost by) defaults k.entries over) is_d (subst (λ z. ArePaid key val d cost (unknown_cost by) z k.entries over) is_left k.paid)),
    subst (λ z. SamePairs eq (fold_entries eq z k.entries) new) is_old k.folded,
    k.keeps,
  )) h

  pub stops : (unread : List ℕ) (f : DecodeError) → RefusesRun by (state old records left) bs (state new kept over) unread f →
      f ≢ OutOfMemory → run_of key val 100 n cost (unknown_cost by) defaults bs ≡ Err f
  stops unread f k ne =
      let q = run_faulty key val d n cost (unknown_cost by) key_free val_free left bs f (run_fault by (state old records left) bs (state new kept over) unread f k ne) in
      let all : run_of key val d n cost (unknown_cost by) left bs ≡ Err f = q.1 ∙ ap (λ z. Err z) (sym (q.2 (key_plain, val_plain))) in
      subst (λ z. run_of key val z n cost (unknown_cost by) defaults bs ≡ Err f) is_d (subst (λ z. run_of key val d n cost (unknown_cost by) z bs ≡ Err f) is_left all)

  pub stopped : (unread : List ℕ) → IfErr r (RefusesRun by (state old records left) bs (state new kept over) unread) →
      IfErr r (λ f. f ≢ OutOfMemory → run_of key val 100 n cost (unknown_cost by) defaults bs ≡ Err f)
  stopped unread h = IfErr-weaker r _ _ (stops unread) h
