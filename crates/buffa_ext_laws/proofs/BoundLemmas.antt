-- The bound on what reading a list spends.
use Rattle.std.proofs.Common.{◌≡◌, List, [], ◌∷◌, Option, Some, None, refl, arith}
use Rattle.buffa_wire.specs.BudgetLeft.{BudgetLeft, Covers, Pays, plus}
use Rattle.buffa_wire.specs.Records.{FieldData}
use Rattle.buffa_ext_laws.specs.Costs.{Costs, cost_if}

module _ {M : Type 0} (one : BudgetLeft → FieldData → Option M) (leaves : BudgetLeft → FieldData → BudgetLeft → Type 0) (cost : FieldData → BudgetLeft)
    (spends_cost : (b left : BudgetLeft) (d : FieldData) (v : M) → one b d ≡ Some v → leaves b d left → Pays b (cost d) left)
    (spends : (b left : BudgetLeft) (d : FieldData) → leaves b d left → Covers b left) where
  covered_by : (b mid rest : BudgetLeft) (d : FieldData) (o : Option M) → one b d ≡ o → leaves b d mid → Covers mid rest → Covers b (plus (cost_if (cost d) o) rest)
  covered_by b mid rest d (Some v) e h k = let p = spends_cost b mid d v e h in (omega (arith, p, k), omega (arith, p, k))
  covered_by b mid rest d None e h k = let p = spends b mid d h in (omega (arith, p, k), omega (arith, p, k))

  pub covered : (b : BudgetLeft) (ds : List FieldData) (total : BudgetLeft) → Costs one leaves cost b ds total → Covers b total
  covered b [] total h = rw h (omega arith, omega arith)
  covered b (d ∷ ds) total h = rw h.4 (covered_by b h.0 h.1 d (one b d) refl h.2 (covered h.0 ds h.1 h.3))
