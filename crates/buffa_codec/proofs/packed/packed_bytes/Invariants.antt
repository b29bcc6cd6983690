use Rattle.std.proofs.Common.{◌≡◌, map, take}
use Rattle.std.specs.List.{AllByRecursion}
use Rattle.buffa_codec.proofs.packed.packed_bytes.Given as goal
use Rattle.buffa_wire.specs.Encoding.{encodings}

abbrev pub invariant-loop-v : goal.invariant-loop-v
invariant-loop-v g l = record {
  written : l.bytes.items ≡ encodings g.C.PackableCodec.packed_encoding (map g.C.Value.Blank.meaning (take l.v-index l.values));
  fit : AllByRecursion g.C.SingularCodec.fits (map g.C.Value.Blank.meaning (take l.v-index l.values));
}
