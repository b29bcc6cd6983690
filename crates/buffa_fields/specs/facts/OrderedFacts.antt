-- What is proved of pairs whose keys ascend.
use Rattle.std.proofs.Common.{◌≡◌, List, [], ◌∷◌, ◌++◌, sym, ap, subst, ◌∙◌, append_assoc, append-nil}
use Rattle.std.specs.BTreeMap.{insert_entry}
use Rattle.std.specs.Cmp.{IsTotalOrder}
use Rattle.std.specs.declared.cmp.Ordering.{Ordering}
use Rattle.buffa_map.proofs.SortedLemmas.{put_last}
use Rattle.buffa_fields.specs.MapFields.{put_all}
use Rattle.buffa_fields.specs.OrderedMaps.{KeysAscend}

module _ {K V : Type 0} {order : K → K → Ordering} (total : IsTotalOrder order) where
  all_ascending : (m l : List (K × V)) → KeysAscend order (m ++ l) → put_all (insert_entry order) m l ≡ m ++ l
  all_ascending m [] s = sym (append-nil m)
  all_ascending m (p ∷ ps) s =
      let all : (m ++ p ∷ []) ++ ps ≡ m ++ p ∷ ps = append_assoc m (p ∷ []) ps in
      ap (λ z. put_all (insert_entry order) z ps) (put_last total m p.0 p.1 ps s) ∙ all_ascending (m ++ p ∷ []) ps (subst (λ z. KeysAscend order z) (sym all) s) ∙ all

  -- pairs whose keys ascend are put one behind the other
  pub ascending_put : (l : List (K × V)) → KeysAscend order l → put_all (insert_entry order) [] l ≡ l
  ascending_put l s = all_ascending [] l s
