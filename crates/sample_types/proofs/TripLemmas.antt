-- Why a map may not come back: what is read is a run, so only the budget has a fault.
use Rattle.std.proofs.Common.{◌≡◌, ◌∙◌, ◌+◌, ◌++◌, ap, subst, sym, ◌-◌, ◌*◌, ◌<◌, ◌≤◌, ℕ, Bool, List, [], length, inl, inr, refl, arith}
use Rattle.std.specs.Map.{lookup_entry}
use Rattle.std.specs.Prelude.{◌⊎◌}
use Rattle.std.proofs.Math.Nat.{lt_of_not-le}
use Rattle.buffa_bytes.specs.declared.error.DecodeError.{DecodeError}
use Rattle.buffa_bytes.specs.declared.error.DecodeError.TheVariants.{ElementMemoryLimitExceeded}
use Rattle.buffa_bytes.specs.declared.error.EncodeError.{EncodeError}
use Rattle.buffa_bytes.specs.declared.error.EncodeError.TheVariants.{MessageTooLarge, GroupRefused, OutOfMemory}
use Rattle.buffa_wire.specs.BudgetLeft.{BudgetLeft, nothing, units}
use Rattle.buffa_map.specs.EntryReading.{charge_of}
use Rattle.buffa_map.specs.Codec.{Reading, Writing}
use Rattle.buffa_map.specs.Merge.{ReadsRun, Rules, State, RefusesRun, state, unknown_cost}
use Rattle.buffa_map.proofs.ReaderRules.{dropping}
use Rattle.buffa_map.specs.Run.{ArePaid, RecordFault, Run, RunFault, EntryRecord, fold_entries, cost_inside}
use Rattle.buffa_map.specs.Encoding.{RefusesField, field_encoding}
use Rattle.buffa_map.specs.Pairs.{InOrder, SamePairs}
use Rattle.buffa_map_laws.specs.Laws.{FieldReadsBack, OneReading}
use Rattle.sample_types.specs.RoundTrip.{RefusesPairs}
use Rattle.sample_types.specs.declared.round_trip.TripFault.TheVariants.{Encode}

-- a refusal to write
pub unwritten : {K V : Type 0} (key : Writing K) (val : Writing V) (cost n : ℕ) (old new : List ℕ) (l : List (K × V)) (f : EncodeError) →
    (room : ℕ) → RefusesField key val n old new l f → (f ≡ OutOfMemory → room < length (field_encoding key val n l)) → RefusesPairs key val cost l (Encode f)
unwritten key val cost n old new l MessageTooLarge room h few = (h.0, h.1, h.2, h.3, h.5)
unwritten key val cost n old new l OutOfMemory room h few = λ none. omega (arith, few refl, ap (λ z. length (field_encoding key val n z)) none)
unwritten key val cost n old new l (GroupRefused e) room h few = h

module _ {K V : Type 0} (key : Reading K) (val : Reading V) (d n : ℕ)
    (needs : (cost : ℕ) (e : List ℕ) → charge_of key val d cost e ≡ units cost) (inner : (es : List (EntryRecord K V)) → cost_inside key val d es ≡ nothing)
    (no_fault : (cost extra : ℕ) (left over : BudgetLeft) (bs : List ℕ) (es : List (EntryRecord K V)) (f : DecodeError) → Run key val d n bs es → ArePaid key val d cost extra left es over → RunFault key val d n cost extra left bs f → ⊥) where
  -- where no unknown field is asked for, the fault of a record is that of the budget, or one that it has at no cost
  at_no_cost : (cost : ℕ) (left : BudgetLeft) (bs : List ℕ) (f : DecodeError) → RecordFault key val d n cost 0 left bs f → (f ≡ ElementMemoryLimitExceeded) ⊎ RecordFault key val d n 0 0 left bs f
  at_no_cost cost left bs f (inl h) = inr (inl h)
  at_no_cost cost left bs f (inr (inl h)) = inr (inr (inl h))
  at_no_cost cost left bs f (inr (inr (inl h))) = inr (inr (inr (inl h)))
  at_no_cost cost left bs f (inr (inr (inr (r, t, inl h)))) = inr (inr (inr (inr (r, t, inl h))))
  at_no_cost cost left bs f (inr (inr (inr (r, t, inr (e, rest, there, inl h))))) = inl h.1
  at_no_cost cost left bs f (inr (inr (inr (r, t, inr (e, rest, there, inr (enough, inl (inl few))))))) = absurd (omega (arith, few, ap (λ (z : BudgetLeft). z.unknown) (needs cost e)))
  at_no_cost cost left bs f (inr (inr (inr (r, t, inr (e, rest, there, inr (enough, inl (inr few))))))) = absurd (omega (arith, enough, few, ap (λ (z : BudgetLeft). z.memory) (needs cost e)))
  at_no_cost cost left bs f (inr (inr (inr (r, t, inr (e, rest, there, inr (enough, inr (inl h))))))) =
      inr (inr (inr (inr (r, t, inr (e, rest, there, inr (omega arith, inr (inl h)))))))
  at_no_cost cost left bs f (inr (inr (inr (r, t, inr (e, rest, there, inr (enough, inr (inr h))))))) = absurd (omega (arith, h.3, ap (λ (z : BudgetLeft). z.unknown) (needs cost e)))

  paid_at : (cost : ℕ) (es : List (EntryRecord K V)) (left over : BudgetLeft) → over.memory + length es * cost ≡ left.memory → over.unknown ≡ left.unknown → ArePaid key val d cost 0 left es over
  paid_at cost es left over m u = (omega (arith, m, ap (λ (z : BudgetLeft). z.memory) (inner es)), omega (arith, u, ap (λ (z : BudgetLeft). z.unknown) (inner es)))

  -- bytes that are a run have no fault but the budget's, and that only where the entries cost more than is left
  pub costs_more : (cost : ℕ) (left : BudgetLeft) (bs : List ℕ) (es : List (EntryRecord K V)) (f : DecodeError) → Run key val d n bs es → RunFault key val d n cost 0 left bs f →
      (f ≡ ElementMemoryLimitExceeded) × (left.memory < length es * cost)
  costs_more cost left bs es f run h = (named (at_no_cost cost h.2 h.1 f h.5), lt_of_not-le unpaid)
    where
      named : (f ≡ ElementMemoryLimitExceeded) ⊎ RecordFault key val d n 0 0 h.2 h.1 f → f ≡ ElementMemoryLimitExceeded
      named (inl e) = e
      named (inr g) = absurd (no_fault 0 0 h.2 h.2 bs es f run (paid_at 0 es h.2 h.2 (omega arith) (omega arith)) (h.0, h.1, h.2, (h.3.0, h.3.1, h.3.2, paid_at 0 h.0 h.2 h.2 (omega arith) (omega arith)), h.4, g))

      unpaid : ¬ (length es * cost ≤ left.memory)
      unpaid enough = no_fault cost 0 left (record { unknown = left.unknown; memory = left.memory - length es * cost }) bs es f run (paid_at cost es left (record { unknown = left.unknown; memory = left.memory - length es * cost }) (omega (arith, enough)) (omega arith)) h

-- what a reading stopped at, where its start is known by equations
pub stopped : {K V : Type 0} (rk : Reading K) (rv : Reading V) (same : K → K → Bool) (keeps : Bool) (d e n cost : ℕ) (left given : BudgetLeft) (pairs : List (K × V)) (bs encoding : List ℕ) (new : State K V) (unread : List ℕ) (f : DecodeError) →
    d ≡ e → left ≡ given → pairs ≡ [] → bs ≡ encoding → RefusesRun (dropping rk rv same keeps d n cost) (state pairs [] left) bs new unread f → RefusesRun (dropping rk rv same keeps e n cost) (state [] [] given) encoding new unread f
stopped rk rv same keeps d e n cost left given pairs bs encoding new unread f depth is none whole h =
    subst (λ (z : List ℕ). RefusesRun (dropping rk rv same keeps e n cost) (state [] [] given) z new unread f) whole
    (subst (λ z. RefusesRun (dropping rk rv same keeps e n cost) (state z [] given) bs new unread f) none
    (subst (λ (z : BudgetLeft). RefusesRun (dropping rk rv same keeps e n cost) (state pairs [] z) bs new unread f) is
    (subst (λ (z : ℕ). RefusesRun (dropping rk rv same keeps z n cost) (state pairs [] left) bs new unread f) depth h)))

pub as_units : (b : BudgetLeft) (n : ℕ) → b.unknown ≡ 0 → b.memory ≡ n → b ≡ units n
as_units b n u m = ap (λ (z : ℕ). record { unknown = z; memory = b.memory }) u ∙ ap (λ (z : ℕ). record { unknown = 0; memory = z }) m

-- what is paid costs no more than was left
paid_for : {K V : Type 0} (rk : Reading K) (rv : Reading V) (d cost extra : ℕ) (left over : BudgetLeft) (es : List (EntryRecord K V)) (all many : ℕ) →
    left.memory ≡ all → length es ≡ many → ArePaid rk rv d cost extra left es over → many * cost ≤ all
paid_for rk rv d cost extra left over es all many is count paid = subst (λ z. z * cost ≤ all) count (omega (arith, is, paid.0))

-- an empty sink holds what was written
pub wrote : {bytes now old : List ℕ} (put : List ℕ) → old ≡ [] → now ≡ old ++ put → bytes ≡ now → bytes ≡ put
wrote put empty put_is is = is ∙ put_is ∙ ap (λ (z : List ℕ). z ++ put) empty

-- a run that is read at the same depth, of the same bytes, has the same entries
pub one_run : {K V : Type 0} {key : Reading K} {val : Reading V} → OneReading key val → (d e n : ℕ) (bytes field : List ℕ) (es fs : List (EntryRecord K V)) → d ≡ e → bytes ≡ field → Run key val d n bytes es → Run key val e n field fs → es ≡ fs
one_run {key = key} {val = val} one d e n bytes field es fs depth is run other = one.run e n field es fs (subst (λ (b : List ℕ). Run key val e n b es) is (subst (λ (z : ℕ). Run key val z n bytes es) depth run)) other

-- ---- the field that was written was read, into an empty map
module _ {K V : Type 0} {rules : Rules K V} {old new : State K V} {bytes rest : List ℕ} (r : ReadsRun rules old bytes new rest) (one : OneReading rules.key rules.val)
    {kw : Writing K} {vw : Writing V} {KeyFits KeyNormal : K → Type 0} {ValFits ValNormal : V → Type 0} {l : List (K × V)} (back : FieldReadsBack rules.key rules.val kw vw rules.same KeyFits KeyNormal ValFits ValNormal rules.depth rules.number l)
    (is : bytes ≡ field_encoding kw vw rules.number l) (empty : old.pairs ≡ []) where
  -- its entries are those of the walk
  same : r.entries ≡ back.entries
  same = one_run one rules.depth rules.depth rules.number bytes (field_encoding kw vw rules.number l) r.entries back.entries refl is r.run back.run

  folds : fold_entries rules.same old.pairs r.entries ≡ l
  folds = ap (λ m. fold_entries rules.same m r.entries) empty ∙ ap (fold_entries rules.same []) same ∙ back.folded

  -- so the same pairs came back, in the same order, and cost no more than was left
  pub pairs_came : (m : List (K × V)) → SamePairs rules.same m l → SamePairs rules.same m new.pairs
  pairs_came m walk q = walk q ∙ ap (lookup_entry (rules.same q)) (sym folds) ∙ r.folded q

  pub order_came : InOrder rules.keeps_order l new.pairs
  order_came keeps = r.order keeps ∙ folds

  pub cost_came : (all : ℕ) → old.left.memory ≡ all → length l * rules.cost ≤ all
  cost_came all memory = paid_for rules.key rules.val rules.depth rules.cost (unknown_cost rules) old.left new.left r.entries all (length l) memory (ap length same ∙ back.many) r.paid
