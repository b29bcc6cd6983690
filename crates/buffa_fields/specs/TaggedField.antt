-- A field whose tag was read, as the call finds it that takes it. Source: the protobuf encoding guide, "Message Structure".
use Rattle.std.specs.Prelude.{ℕ, List}
use Rattle.buffa_bytes.specs.declared.tag.Tag.{Tag}
use Rattle.buffa_bytes.specs.declared.wire_type.WireType.{WireType}
use Rattle.buffa_wire.specs.BudgetLeft.{BudgetLeft}
use Rattle.buffa_wire.specs.declared.context.DecodeContext.{DecodeContext}
use denote.Ref.{Bor}

-- The levels that are left, its number, its wire type, the bytes behind its tag, and the budget that is left.
pub record TaggedField : Type 0 where
  pub depth : ℕ
  pub number : ℕ
  pub wire_type : WireType
  pub bytes : List ℕ
  pub budget : BudgetLeft

-- the field of a tag, in a context, behind which these bytes stand
abbrev pub tagged_field : Tag → DecodeContext → Bor (List ℕ) → TaggedField
tagged_field tag ctx behind =
    record { depth = ctx.depth; number = tag.number; wire_type = tag.wire_type; bytes = behind.now; budget = ctx.budget.now }
