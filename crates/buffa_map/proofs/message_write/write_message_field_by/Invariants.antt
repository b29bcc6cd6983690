use Rattle.std.proofs.Common.{◌≡◌, ℕ, ◌+◌, ◌≤◌, ◌++◌, List, length}
use Rattle.buffa_wire.specs.Passes.{IsNext}
use Rattle.buffa_map.specs.MessageField.{IsFieldWritten, IsSmallField, KeepsMessageRoom, field_slots}
use Rattle.buffa_map.specs.Scalars.{delimited_writing}
use Rattle.buffa_map.specs.Encoding.{field_encoding}
use Rattle.buffa_map.specs.Pairs.{means}
use Rattle.buffa_map.proofs.message_write.write_message_field_by.Given as goal

-- writing what the walk has left is writing the whole
abbrev pub invariant-loop-key : goal.invariant-loop-key
invariant-loop-key g l =
    let key = g.KC.MapCodec.writing in
    let encoding = g.M.MessageSpec.encoding in
    let slots = g.M.MessageSpec.slots in
    let written = g.S.EncodeSink.written in
    let all = g.C.StableOrder.walk l.map in
    let rest = means g.KC.Value.Blank.meaning g.M.Blank.meaning (g.C.MapWalk.left l.key-iterator) in
    record {
      within : (done : List (g.row.KC-Value-Meaning.Denot × g.row.M-Meaning.Denot)) × (all ≡ done ++ rest);
      next : IsNext (field_slots encoding slots rest) l.cache;
      whole : (r : _) (d : _) (b : List ℕ) → IsFieldWritten key encoding slots l.number rest l.cache (written l.sink) r d b
          → IsFieldWritten key encoding slots l.number all l.fn.cache (written l.fn.sink) r d b;
      spare : KeepsMessageRoom (λ x c s r d t. g.F.Fn.post l.fn.write (x, (c, (s, tt))) (r, (d, (t, tt)))) (λ v. encoding (g.M.Blank.meaning v)) g.S.EncodeSink.room → IsSmallField key encoding all
          → g.S.EncodeSink.room l.fn.sink ≤ g.S.EncodeSink.room l.sink + length (field_encoding key (delimited_writing encoding) l.number within.0);
    }
