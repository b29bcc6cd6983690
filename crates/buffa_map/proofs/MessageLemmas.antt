-- What merging a message promises is what its codec promises.
use Rattle.std.proofs.Common.{◌≡◌, ◌<◌, ◌⊎◌, inl, inr, ℕ, zero, suc, arith, List, [], ◌++◌, Option, Result, Ok, Err, refl, sym, ap, subst, ◌∙◌, append_assoc}
use Rattle.buffa_bytes.specs.PayloadValue.{PayloadValue, bytes_in}
use Rattle.buffa_bytes.specs.PayloadValue.PayloadValue.{bytes}
use Rattle.buffa_bytes.proofs.SequenceLemmas.{ok_same}
use Rattle.buffa_bytes.specs.Field.{TakesDelimited}
use Rattle.buffa_bytes.specs.Readings.{delimited_at, ◌>>=◌}
use Rattle.buffa_wire.specs.BudgetLeft.{BudgetLeft, Lacks, charge_by}
use Rattle.buffa_wire.specs.Message.{MessageFault, cost_in, cost_of_payload}
use Rattle.buffa_bytes.specs.declared.error.DecodeError.{DecodeError}
use Rattle.buffa_bytes.specs.declared.error.DecodeError.TheVariants.{UnexpectedEof}
use Rattle.buffa_bytes.proofs.StepLemmas.{agree_ok, agree_err}
use Rattle.buffa_bytes.proofs.DelimitedLemmas.{delimited_sound}
use Rattle.buffa_map.specs.Codec.{HoldsNothing, ValueFault, value_charge}
use Rattle.buffa_map.specs.Message.{merged_value, message_reading}

charge_in : (cost : ℕ → List ℕ → BudgetLeft) (d : ℕ) (r : Result (List ℕ × List ℕ) DecodeError) →
    charge_by (r >>= (λ p. let x : PayloadValue × List ℕ = (bytes p.0, p.1) in Ok x)) (λ c. cost_in cost d (bytes_in c.0)) ≡ cost_of_payload cost d r
charge_in cost d (Ok p) = refl
charge_in cost d (Err e) = refl

-- the length and the bytes of which a content is
pub payload_value_of : (rest : List ℕ) (r : Result (List ℕ × List ℕ) DecodeError) → (r >>= (λ p. let x : PayloadValue × List ℕ = (bytes p.0, p.1) in Ok x)) ≡ Ok (bytes [], rest) → r ≡ Ok ([], rest)
payload_value_of rest (Ok p) h = ap (λ (z : PayloadValue × List ℕ). Ok (bytes_in z.0, z.1)) (ok_same h)
payload_value_of rest (Err e) h = cc

module _ {V : Type 0} (blank : V) (merged : ℕ → V → List ℕ → Option V) (cost : ℕ → List ℕ → BudgetLeft) where
  -- what the codec says is needed
  pub charge_is : (d : ℕ) (bs : List ℕ) → value_charge (message_reading blank merged cost) d bs ≡ cost_of_payload cost d (delimited_at bs)
  charge_is d bs = charge_in cost d (delimited_at bs)

  -- where a message of no bytes is read
  pub reads_nothing : (d : ℕ) (bs : List ℕ) → HoldsNothing (message_reading blank merged cost) d bs → (rest : List ℕ) × (0 < d) × (delimited_at bs ≡ Ok ([], rest))
  reads_nothing zero bs h = absurd (let open_level = h.1 in cc)
  reads_nothing (suc d) bs h = (h.2, omega arith, payload_value_of h.2 (delimited_at bs) h.3)

  pub message_refused : (d : ℕ) (old : V) (bs : List ℕ) (left : BudgetLeft) (e : DecodeError) → MessageFault merged cost d old bs left e →
      Lacks left (value_charge (message_reading blank merged cost) d bs) ⊎ ValueFault (message_reading blank merged cost) d old bs e
  message_refused zero old bs left e h = inr (inl (ap (λ z. Err z) (sym h)))
  message_refused (suc d) old bs left e (inl h) = inr (inr (inl (refl, agree_err (delimited_at bs) e (delimited_sound bs) h)))
  message_refused (suc d) old bs left e (inr (b, rest, is, inl few)) =
      let n : value_charge (message_reading blank merged cost) (suc d) bs ≡ cost d b = charge_is (suc d) bs ∙ ap (cost_of_payload cost (suc d)) is in inl (subst (λ z. Lacks left z) (sym n) few)
  message_refused (suc d) old bs left e (inr (b, rest, is, inr (none, other))) =
      let t : TakesDelimited bs b rest = agree_ok (delimited_at bs) (b, rest) (delimited_sound bs) is in
      inr (inr (inr (refl, bytes b, rest, UnexpectedEof, (t.0 ++ b, (t.0, t.1, refl), t.2 ∙ sym (append_assoc t.0 b rest)), ap merged_value none, inr other)))
