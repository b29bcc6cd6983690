-- Where keys ascend, the pairs after an entry are those of an insertion.
use Rattle.std.proofs.Common.{◌≡◌, Bool, true, false, cond, List, sym, subst, ◌∙◌}
use Rattle.std.specs.BTreeMap.{insert_entry}
use Rattle.std.specs.Cmp.{IsTotalOrder}
use Rattle.std.specs.List.Sorted.{IsStrictlySortedBy}
use Rattle.std.specs.Map.{keys_of}
use Rattle.std.specs.Ordering.{eq_by_cmp}
use Rattle.std.specs.declared.cmp.Ordering.{Ordering}
use Rattle.buffa_map.proofs.PutLemmas.{SamePairs-insert_entry}
use Rattle.buffa_map.proofs.SortedLemmas.{same_sorted, sorted_put}
use Rattle.buffa_map.specs.Pairs.{SamePairs, put}
use Rattle.buffa_map.specs.Run.{step}
use Rattle.buffa_map.specs.declared.map_entry.MapEntry.{MapEntry}

module _ {K V : Type 0} {order : K → K → Ordering} (total : IsTotalOrder order) (old new : List (K × V)) (s : MapEntry K V)
    (before : IsStrictlySortedBy order (keys_of old)) (after : IsStrictlySortedBy order (keys_of new)) where
  put_by : (known : Bool) → SamePairs (eq_by_cmp order) (cond known (put (eq_by_cmp order) old s.key s.value) old) new → new ≡ cond known (insert_entry order old s.key s.value) old
  put_by true h = same_sorted total new (insert_entry order old s.key s.value) after (sorted_put total old s.key s.value before) (λ q. sym (h q) ∙ SamePairs-insert_entry total old s.key s.value before q)
  put_by false h = same_sorted total new old after before (λ q. sym (h q))

  -- a step of the fold is an insertion
  pub is_put : SamePairs (eq_by_cmp order) (step (eq_by_cmp order) old s) new → new ≡ cond s.known (insert_entry order old s.key s.value) old
  is_put h = put_by s.known h

  -- the same, where equal keys are told by another equality
  pub is_put_by : (same : K → K → Bool) → ((a b : K) → same a b ≡ eq_by_cmp order a b) → SamePairs same (step same old s) new → new ≡ cond s.known (insert_entry order old s.key s.value) old
  is_put_by same ties h = is_put (subst (λ (eq : K → K → Bool). SamePairs eq (step eq old s) new) (λ i x y. ties x y i) h)
