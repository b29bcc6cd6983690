use Rattle.std.proofs.Common.{◌≡◌, ◌⊎◌, IsOk, length, map}
use Rattle.buffa_bytes.specs.PayloadValue.{payload_value_at}
use Rattle.buffa_fields.specs.Refusals.{ElementsRead}
use Rattle.buffa_fields.proofs.members.list.take_all.Given as goal

-- the elements so far stand behind the first values; what is left is all, or a whole payload begins all
abbrev pub invariant-loop-rest : goal.invariant-loop-rest
invariant-loop-rest g l = record {
  read : ElementsRead g.C.MapValueDecode.reading l.depth (map g.C.Value.Blank.meaning l.fn.values.items) l.body l.rest (map g.C.Value.Blank.meaning l.values.items);
  begins : (l.rest ≡ l.body) ⊎ IsOk (payload_value_at g.C.MapValueDecode.reading.wire l.body);
}

abbrev pub decreases-loop-rest : goal.decreases-loop-rest
decreases-loop-rest g l = length l.rest
