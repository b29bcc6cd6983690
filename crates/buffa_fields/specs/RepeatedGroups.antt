-- Lists of messages, as groups. Source: the protobuf encoding guide, "Repeated Elements" and "Groups".
use Rattle.std.specs.Prelude.{◌≡◌, ◌<◌, ◌⊎◌, ℕ, ◌-◌, List, IsOk}
use Rattle.buffa_bytes.specs.declared.wire_type.WireType.TheVariants.{StartGroup}
use Rattle.buffa_bytes.specs.Readings.{skip_at}
use Rattle.buffa_wire.specs.BudgetLeft.{BudgetLeft}
use Rattle.buffa_wire.specs.Message.{BeginsField, cost_in}
use Rattle.buffa_fields.specs.Framing.{each_cost_as}
use Rattle.buffa_fields.specs.Groups.{group_body}
use Rattle.buffa_wire.specs.Takes.{Asks, Charge}

-- at a depth, what it costs: so many units for a message, and what its body costs
unfoldable pub groups_cost : ℕ → (ℕ → List ℕ → BudgetLeft) → Charge
unfolding each_cost_as
groups_cost each cost = each_cost_as StartGroup each (λ d bs. cost_in cost d (group_body (d - 1) bs))

-- it takes memory where a level is left, and a field begins the group or it is whole
abbrev pub GroupsTakeMemory : Asks
GroupsTakeMemory d n w bs = (w ≡ StartGroup) × (0 < d) × (BeginsField bs ⊎ IsOk (skip_at d n w bs))
