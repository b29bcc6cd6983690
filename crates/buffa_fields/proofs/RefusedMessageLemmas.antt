-- What is proved of messages that were refused.
use Rattle.std.proofs.Common.{◌≡◌, ℕ, List, Ok, Err, Result, arith}
use Rattle.buffa_bytes.specs.declared.error.DecodeError.{DecodeError}
use Rattle.buffa_bytes.specs.declared.error.DecodeError.TheVariants.{OutOfMemory}
use Rattle.buffa_bytes.specs.declared.wire_type.WireType.{WireType}
use Rattle.buffa_bytes.specs.Readings.{tag_at}
use Rattle.buffa_wire.proofs.ByPayloadLemmas.{ByPayload, plainly}
use Rattle.buffa_wire.specs.BudgetLeft.{BudgetLeft}
use Rattle.buffa_wire.specs.Takes.{cost_of, merged_of}
use Rattle.buffa_wire.proofs.MergeLoopLemmas.{CameTo}
use Rattle.buffa_fields.specs.Schema.{Schema}
use Rattle.buffa_fields.specs.RefusedMessage.{MergingTakesMemory}

module _ {M X : Type 0} (l : Schema M X) where
  pub by_members : ByPayload l.takes l.charge (merged_of l.takes) (cost_of l.charge)
  by_members = plainly l.takes l.charge l.stays

  module _ {d : ℕ} {old : X} {bytes : List ℕ} {first : BudgetLeft} (m : M) {rest : List ℕ} {before : BudgetLeft} (came : CameTo (merged_of l.takes) (cost_of l.charge) d old bytes first (l.meaning m) rest before) where
    module _ (new : M) (n : ℕ) (w : WireType) (bs : List ℕ) (tag : tag_at rest ≡ Ok (n, w, bs)) (after_bs : List ℕ) (after : BudgetLeft) (e : DecodeError)
        (taken : l.Taken d m n w bs before (let r : Result (Unit {0}) DecodeError = Err e in r) new after after_bs) where
      -- memory runs out only at a field that may ask for it
      pub asked : e ≡ OutOfMemory → MergingTakesMemory l.takes l.asks d old bytes first.unknown
      asked full = record {
        front = came.front;
        rest = rest;
        split = came.split;
        mid = l.meaning m;
        merged = came.means;
        left = before.unknown;
        within = omega (arith, came.pays.0);
        next = (n, w, bs, tag, l.asks_is d m n w bs before (let r : Result (Unit {0}) DecodeError = Err e in r) new after after_bs taken full);
      }
