use Rattle.std.proofs.Common.{◌≡◌, take}
use Rattle.buffa_wire.specs.RecordsOfValues.{records_in}
use Rattle.buffa_wire.proofs.unknown_fields.+copy.Given as goal

abbrev pub invariant-UnknownFields::copy-loop-field : goal.invariant-UnknownFields::copy-loop-field
invariant-UnknownFields::copy-loop-field l = l.out.records ≡ records_in (take l.field-index l.field-items)
