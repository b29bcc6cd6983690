-- What bytes make of a node is one, whatever they are: as many keys as children, and nothing behind these. So what a refused merge
-- leaves is what the fields before the refused one make.
use Rattle.std.proofs.Common.{◌≡◌, ◌≢◌, ◌⊎◌, inl, inr, Ok, Err, ℕ, zero, suc, ℤ, ◌==◌, Bool, true, false, List, [], ◌++◌, Option, None, Some, refl, sym, ap, subst, ◌∙◌, append_assoc, if◌then◌else◌}
use Rattle.std.specs.Option.{option_map}
use Rattle.buffa_bytes.specs.declared.wire_type.WireType.{WireType}
use Rattle.buffa_bytes.specs.declared.wire_type.WireType.TheVariants.{EndGroup}
use Rattle.buffa_bytes.specs.Field.{IsTag}
use Rattle.buffa_bytes.specs.Readings.{tag_at}
use Rattle.buffa_bytes.specs.declared.error.DecodeError.{DecodeError}
use Rattle.buffa_bytes.specs.declared.error.DecodeError.TheVariants.{OutOfMemory}
use Rattle.buffa_map.proofs.LowLemmas.{first_taken}
use Rattle.buffa_wire.proofs.JoinLemmas.{join_records, payload_of_record}
use Rattle.buffa_wire.proofs.TakesLemmas.{merged_of_fields, merged_of_none}
use Rattle.buffa_wire.specs.Encoding.{wire_of}
use Rattle.buffa_wire.specs.BudgetLeft.{BudgetLeft}
use Rattle.buffa_wire.specs.Message.{IsJudged, MergeFault, PartlyMerged}
use Rattle.buffa_wire.specs.Parse.{Parse}
use Rattle.buffa_wire.specs.Records.{Records, no_records, one}
use Rattle.buffa_wire.specs.Takes.{Taker, merged_of}
use Rattle.buffa_fields.specs.UndeclaredFields.{keep_takes}
use Rattle.buffa_recursive.specs.MapTree.{child_pairs, keys_in, values_in}
use Rattle.buffa_recursive.specs.RefusedFields.{IsSelfRefused}
use Rattle.sample_node.proofs.NodeSchemaLemmas.{members, members_sound}
use Rattle.sample_node.proofs.NodeRefusedLemmas.{node_refused, refused_node}
use Rattle.sample_node.specs.Branch.{Branch, IsNode, NodeKept, Shades, blank_node, branch}
use Rattle.sample_node.specs.NodeMeaning.{LevelMeaning, children_take, node_cost, node_field_takes, node_merged, scores_take, shades_take}
use Rattle.sample_node.specs.Refused.{IsNodeRefused}

-- ---- what each field keeps of a value, all bytes keep
module _ {X : Type 0} (takes : Taker X) (d : ℕ) (P : X → Type 0) (keeps : (v u : X) (n : ℕ) (w : WireType) (p : List ℕ) → P v → takes d v n w p ≡ Some u → P u) where
  same_value : (v w : X) → (let o : Option X = Some v in o ≡ Some w) → v ≡ w
  same_value v w h = cc

  along : (rs : Records) (b : List ℕ) (v w : X) → Parse d b rs → P v → merged_of takes d v b ≡ Some w → P w
  along no_records b v w parse h m = subst (λ z. P z) (same_value v w (sym (merged_of_none takes d v) ∙ ap (merged_of takes d v) (sym parse) ∙ m)) h
  along (one n x rs) b v w (f, r, (t, p, tag, payload, is), next, all) h m =
      let split : b ≡ t ++ (p ++ r) = all ∙ ap (λ z. z ++ r) is ∙ append_assoc t p r in
      let first = first_taken takes d v w n (wire_of x) t p r tag (payload_of_record x d n p payload) (takes d v n (wire_of x) p) refl (ap (merged_of takes d v) (sym split) ∙ m) in
      along rs r first.0 w next (keeps v first.0 n (wire_of x) p h first.1) first.2

  all_bytes_keep : (b : List ℕ) (v w : X) → P v → merged_of takes d v b ≡ Some w → P w
  all_bytes_keep b v w h m = let rs = join_records d b (merged_of_fields takes d v w b m) in along rs.0 b v w rs.1 h m

-- ---- a field
made_so : {A : Type 0} (f : A → Branch) (o : Option A) (u : Branch) → ((x : A) → IsNode (f x)) → option_map f o ≡ Some u → IsNode u
made_so f None u is h = cc
made_so f (Some x) u is h = let same : f x ≡ u = cc in subst (λ z. IsNode z) same (is x)

field_makes_node : (m : LevelMeaning) (d : ℕ) (v u : Branch) (n : ℕ) (w : WireType) (p : List ℕ) → IsNode v → node_field_takes m d v n w p ≡ Some u → IsNode u
field_makes_node m d v u n w p (a, es, h, r, is) taken = at (n == 1) (n == 2) (n == 3) (ap (λ z. node_field_takes m d z n w p) (sym is) ∙ taken)
  where
    at : (i j k : Bool) →
        (if i then option_map (λ b. branch b (keys_in es) (values_in es) h r) (scores_take d a n w p)
        else if j then option_map (λ es. branch a (keys_in es) (values_in es) h r) (children_take m d (child_pairs (keys_in es) (values_in es)) n w p)
        else if k then option_map (λ (x : Shades × NodeKept). branch a (keys_in es) (values_in es) x.0 x.1) (shades_take d (h, r) n w p)
        else option_map (λ s. branch a (keys_in es) (values_in es) h s) (keep_takes d r n w p)) ≡ Some u → IsNode u
    at true j k = made_so (λ b. branch b (keys_in es) (values_in es) h r) (scores_take d a n w p) u (λ b. (b, es, h, r, refl))
    at false true k = made_so (λ (fs : List (ℤ × Branch)). branch a (keys_in fs) (values_in fs) h r) (children_take m d (child_pairs (keys_in es) (values_in es)) n w p) u (λ fs. (a, fs, h, r, refl))
    at false false true = made_so (λ (x : Shades × NodeKept). branch a (keys_in es) (values_in es) x.0 x.1) (shades_take d (h, r) n w p) u (λ x. (a, es, x.0, x.1, refl))
    at false false false = made_so (λ s. branch a (keys_in es) (values_in es) h s) (keep_takes d r n w p) u (λ s. (a, es, h, s, refl))

pub merged_is_node : (d : ℕ) (v u : Branch) (bs : List ℕ) → IsNode v → node_merged d v bs ≡ Some u → IsNode u
merged_is_node zero v u bs is h = all_bytes_keep (node_field_takes (λ _ _. None)) zero IsNode (field_makes_node (λ _ _. None) zero) bs v u is h
merged_is_node (suc d) v u bs is h = all_bytes_keep (node_field_takes (node_merged d)) (suc d) IsNode (field_makes_node (node_merged d) (suc d)) bs v u is h

pub blank_is_node : IsNode blank_node
blank_is_node = ([], [], [], [], refl)

-- ---- a refused merge
module _ (d : ℕ) (v u : Branch) (bs : List ℕ) (before : BudgetLeft) (e : DecodeError) (old : IsNode v) (new : IsNode u) (h : PartlyMerged node_merged node_cost (IsSelfRefused 96 members members_sound) d v bs before e u) where
  mid_is : IsNode h.mid
  mid_is = merged_is_node d v h.mid h.front old h.means

  abbrev LeavesNode : Type 0
  LeavesNode = (front : List ℕ) × (rest : List ℕ) × (bs ≡ front ++ rest) × (node_merged d v front ≡ Some u) × PartlyMerged node_merged node_cost IsNodeRefused d v bs before e u

  pub node_is_partly_merged : LeavesNode
  node_is_partly_merged = at h.next
    where
      at :
          ((tag_at h.rest ≡ Err e) × (u ≡ h.mid))
          ⊎ ((n : ℕ) × (w : WireType) × (more : List ℕ) × (tag_at h.rest ≡ Ok (n, w, more)) × IsSelfRefused 96 members members_sound d h.mid n w more h.left e u × (e ≡ OutOfMemory → w ≢ EndGroup)
          × ((t p : List ℕ) → IsTag t n w → IsJudged d n w more p → e ≢ OutOfMemory → MergeFault (node_merged d h.mid (t ++ p)) (node_cost d (t ++ p)) h.left e)) → LeavesNode
      at (inl (tag, same)) = (
        h.front,
        h.rest,
        h.split,
        h.means ∙ (λ i. Some (sym same i)),
        record { front = h.front; rest = h.rest; split = h.split; some = h.some; mid = h.mid; means = h.means; left = h.left; pays = h.pays; next = inl (tag, same) },
      )
      at (inr (n, w, more, tag, refused, full, judged)) =
          let semantics = node_refused d h.mid n w more h.left e u mid_is refused in (
            h.front,
            h.rest,
            h.split,
            h.means ∙ (λ i. Some (sym (semantics.1 new) i)),
            record {
              front = h.front;
              rest = h.rest;
              split = h.split;
              some = h.some;
              mid = h.mid;
              means = h.means;
              left = h.left;
              pays = h.pays;
              next = inr (n, w, more, tag, refused_node d h.mid n w more h.left e u mid_is new refused, full, judged);
            },
          )
