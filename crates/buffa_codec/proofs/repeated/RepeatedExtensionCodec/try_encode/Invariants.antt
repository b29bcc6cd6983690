use Rattle.std.proofs.Common.{◌≡◌, ◌≤◌, ◌+◌, ◌++◌, map, take, None}
use Rattle.std.specs.List.{AllByRecursion}
use Rattle.buffa_codec.specs.RecordsOfNumber.{tagged}
use Rattle.buffa_codec.specs.Decoded.{KeepsCapacity, first_refusal}
use Rattle.buffa_codec.proofs.repeated.RepeatedExtensionCodec.try_encode.Given as goal

abbrev pub invariant-loop-v : goal.invariant-loop-v
invariant-loop-v g l = record {
  written : l.fields.records ≡ l.fn.fields.records ++ tagged l.number (map g.C.SingularCodec.field_data (map g.C.Value.Blank.meaning (take l.v-index l.v-items)));
  allowed : first_refusal g.C.SingularCodec.refusal (map g.C.Value.Blank.meaning (take l.v-index l.v-items)) ≡ None;
  room : l.fn.fields.spare ≤ l.fields.spare + l.v-index;
  places : KeepsCapacity l.fn.fields l.fields;
  fit : AllByRecursion g.C.SingularCodec.fits (map g.C.Value.Blank.meaning (take l.v-index l.v-items));
}
