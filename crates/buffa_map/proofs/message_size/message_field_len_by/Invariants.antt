use Rattle.std.proofs.Common.{◌≡◌, ◌+◌, ◌^◌, ◌<◌, ◌++◌, List}
use Rattle.buffa_wire.specs.Cache.{appended}
use Rattle.buffa_wire.specs.Passes.{IsLonger, cap}
use Rattle.buffa_map.specs.MessageField.{IsSmallField, field_slots}
use Rattle.buffa_map.specs.Pairs.{means}
use Rattle.buffa_map.specs.Scalars.{delimited_writing}
use Rattle.buffa_map.specs.Encoding.{field_size, saturated}
use Rattle.buffa_map.proofs.message_size.message_field_len_by.Given as goal

-- the size so far and that of what the walk has left are the whole's, and so with the slots
abbrev pub invariant-loop-key : goal.invariant-loop-key
invariant-loop-key g l =
    let key = g.KC.MapCodec.writing in
    let encoding = g.M.MessageSpec.encoding in
    let slots = g.M.MessageSpec.slots in
    let all = g.C.StableOrder.walk l.map in
    let rest = means g.KC.Value.Blank.meaning g.M.Blank.meaning (g.C.MapWalk.left l.key-iterator) in
    record {
      within : (done : List (g.row.KC-Value-Meaning.Denot × g.row.M-Meaning.Denot)) × (all ≡ done ++ rest);
      capped : cap (l.total + field_size key (delimited_writing encoding) l.outer_tag_len rest) ≡ cap (field_size key (delimited_writing encoding) l.outer_tag_len all);
      exact : IsSmallField key encoding all → IsSmallField key encoding rest × (saturated (l.total + field_size key (delimited_writing encoding) l.outer_tag_len rest) ≡ saturated (field_size key (delimited_writing encoding) l.outer_tag_len all));
      cache : appended (field_slots encoding slots rest) l.cache ≡ appended (field_slots encoding slots all) l.fn.cache;
      bound : l.total < 2 ^ 64;
      longer : IsLonger l.fn.cache l.cache;
    }
