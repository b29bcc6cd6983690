-- What is proved of merging a length and so many bytes into a message.
use Rattle.std.proofs.Common.{◌≡◌, ◌≢◌, inr, ℕ, zero, suc, ◌-◌, List, Option, Result, Ok, Err, IfErr, OnErr, OnOk, refl, arith}
use Rattle.buffa_bytes.specs.Readings.{delimited_at}
use Rattle.buffa_bytes.specs.declared.error.DecodeError.{DecodeError}
use Rattle.buffa_bytes.specs.declared.error.DecodeError.TheVariants.{OutOfMemory}
use Rattle.buffa_wire.specs.BudgetLeft.{BudgetLeft, PaysAtMost}
use Rattle.buffa_wire.specs.Message.{IsInside, MergesBytes, MessageFault, cost_of_payload}

-- ---- the message of a length and so many bytes
module _ {X : Type 0} (merged : ℕ → X → List ℕ → Option X) (cost : ℕ → List ℕ → BudgetLeft) where
  pub inner_merged : (d : ℕ) → d ≢ 0 → (old new : X) (bs b rest : List ℕ) (before after : BudgetLeft) (r : Result (Unit {0}) DecodeError) → delimited_at bs ≡ Ok (b, rest) →
      MergesBytes merged cost (d - 1) old b before r new after →
      OnOk r (IsInside merged cost d old bs before new after rest)
      × IfErr r (λ e. e ≢ OutOfMemory → MessageFault merged cost d old bs before e)
      × OnErr r (PaysAtMost before (cost_of_payload cost d (delimited_at bs)) after)
  inner_merged zero deep old new bs b rest before after r is h = absurd (deep refl)
  inner_merged (suc d) deep old new bs b rest before after (Ok x) is h =
      let k : suc d - 1 ≡ d = omega arith in
      let m = rw k at h in
      ((b, is, m.0, m.1), tt, tt)
  inner_merged (suc d) deep old new bs b rest before after (Err e) is h =
      let k : suc d - 1 ≡ d = omega arith in
      let m = rw k at h in
      (tt, (λ ne. inr (b, rest, is, m.1 ne)), rw is (m.0))
