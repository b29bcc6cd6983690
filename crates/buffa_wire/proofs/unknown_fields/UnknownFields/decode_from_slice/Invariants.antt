use Rattle.std.proofs.Common.{◌≡◌, length}
use Rattle.buffa_wire.specs.RecordReading.{group_records_at, records_at, records_behind}
use Rattle.buffa_wire.proofs.SpentLemmas.{IsBegun}
use Rattle.buffa_wire.proofs.unknown_fields.UnknownFields.decode_from_slice.Given as goal

-- what is read so far, and then the rest, is all; and a tag begins all, or nothing was read
abbrev pub invariant-loop-rest : goal.invariant-loop-rest
invariant-loop-rest l = record {
  read : records_behind (group_records_at 100) (l.fields.records, l.budget.unknown) l.rest ≡ records_at 100 1000000 l.fn.bytes;
  begun : IsBegun 100 1000000 l.fn.bytes l.budget.unknown l.rest;
}

abbrev pub decreases-loop-rest : goal.decreases-loop-rest
decreases-loop-rest l = length l.rest
