-- A list of unknown fields that may be passed, an `Option<&mut UnknownFields>`: what it holds at a call, and at the return.
use Rattle.std.specs.Prelude.{ℕ, ◌+◌, ◌⊎◌, List, [], Option, None, Some, length}
use Rattle.std.proofs.Common.{inl, inr}
use Rattle.buffa_wire.specs.Records.{FieldData, Held}
use denote.Ref.{MutBor}

-- Such a parameter at the return, `x.exit` in a clause, in the form that the checker gives it: `inl` of nothing, where none was passed; or
-- `inr (inl s)`, where s.0 is the list that was lent, with what it holds then. There is no third.
abbrev pub ListAfter : Type 0
ListAfter = Unit {0} ⊎ ((MutBor Held × Unit {0}) ⊎ ⊥)

-- the records of the list at the return, none where no list was passed
abbrev pub records_after : ListAfter → List (ℕ × FieldData)
records_after (inl u) = []
records_after (inr (inl s)) = s.0.now.records
records_after (inr (inr s)) = []

-- the records of the list at the call, none where no list was passed
abbrev pub records_before : Option (MutBor Held) → List (ℕ × FieldData)
records_before None = []
records_before (Some list) = list.now.records

-- how many records a list can hold: those that it has, and its room
abbrev pub capacity_of : Held → ℕ
capacity_of list = length list.records + list.spare

-- the same of a list that may be passed, at the call, and at the return
abbrev pub capacity_before : Option (MutBor Held) → ℕ
capacity_before None = 0
capacity_before (Some list) = capacity_of list.now

abbrev pub capacity_after : ListAfter → ℕ
capacity_after (inl u) = 0
capacity_after (inr (inl s)) = capacity_of s.0.now
capacity_after (inr (inr s)) = 0
