-- What a refused field of a node leaves.
use Rattle.std.proofs.Common.{◌≡◌, ◌≢◌, inl, inr, ℕ, List, Ok, Err, refl, sym, subst}
use Rattle.buffa_bytes.specs.declared.error.DecodeError.{DecodeError}
use Rattle.buffa_bytes.specs.declared.error.DecodeError.TheVariants.{OutOfMemory}
use Rattle.buffa_bytes.specs.declared.wire_type.WireType.{WireType}
use Rattle.buffa_bytes.specs.declared.wire_type.WireType.TheVariants.{EndGroup}
use Rattle.buffa_wire.specs.BudgetLeft.{BudgetLeft}
use Rattle.buffa_wire.specs.Message.{IsFieldMerged}
use Rattle.buffa_bytes.specs.Readings.{tag_at}
use Rattle.buffa_wire.proofs.MergeLoopLemmas.{CameTo}
use Rattle.sample_node.specs.Branch.{Branch}
use Rattle.sample_node.specs.NodeMeaning.{node_cost, node_merged}
use Rattle.sample_node.specs.Stops.{Stops}
use Rattle.buffa_wire.specs.Pinned.{refusal}

-- ---- a refused field
module _ {d : ℕ} {old : Branch} {bytes : List ℕ} {before : BudgetLeft} {v : Branch} {rest : List ℕ} {left : BudgetLeft} (came : CameTo node_merged node_cost d old bytes before v rest left) where
  pub stops_untagged : (e : DecodeError) → tag_at rest ≡ Err e → Stops node_merged node_cost d old bytes before v left e
  stops_untagged e h = record { front = came.front; rest = rest; over = left; split = came.split; means = came.means; paid = came.pays; refused = inl (h, refl) }

  pub stops_at : (u : Branch) (n : ℕ) (w : WireType) (mid : List ℕ) → tag_at rest ≡ Ok (n, w, mid) → (x : List ℕ) (after : BudgetLeft) (e : DecodeError) → u ≡ v →
      IsFieldMerged node_merged node_cost d v n w mid left (refusal e) u after x → (e ≡ OutOfMemory → w ≢ EndGroup) → Stops node_merged node_cost d old bytes before u after e
  stops_at u n w mid h x after e same refused full =
      subst (λ z. Stops node_merged node_cost d old bytes before z after e) (sym same)
      (record { front = came.front; rest = rest; over = left; split = came.split; means = came.means; paid = came.pays; refused = inr (n, w, mid, h, refused, full) })
