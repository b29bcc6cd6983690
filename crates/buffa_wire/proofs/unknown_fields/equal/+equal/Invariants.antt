use Rattle.std.proofs.Common.{◌≡◌, take}
use Rattle.buffa_wire.specs.RecordsOfValues.{records_in}
use Rattle.buffa_wire.proofs.unknown_fields.equal.+equal.Given as goal

abbrev pub invariant-UnknownFieldsPartialEq::eq-loop-i : goal.invariant-UnknownFieldsPartialEq::eq-loop-i
invariant-UnknownFieldsPartialEq::eq-loop-i l = records_in (take l.i l.self-inside.fields.items) ≡ records_in (take l.i l.other-inside.fields.items)
