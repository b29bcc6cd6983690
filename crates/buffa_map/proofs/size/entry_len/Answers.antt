use Rattle.std.proofs.Common.{arith, ◌+◌, length}
use Rattle.buffa_map.specs.Encoding.{entry_encoding}
use Rattle.buffa_map.proofs.SizeLemmas.{checked-as_u64, length-entry_encoding}
use Rattle.buffa_map.proofs.size.entry_len.Goals as goal

pub returns-clause-len : goal.returns-clause-len
returns-clause-len g c =
    let p : g.row.KC-Value-Meaning.Denot × g.row.VC-Value-Meaning.Denot = (g.KC.Value.Blank.meaning c.args.key.now, g.VC.Value.Blank.meaning c.args.value.now) in
    checked-as_u64 c.checked_add-2.result (c.in_ok-encodings.encodings + 2) (length (entry_encoding g.KC.MapCodec.writing g.VC.MapCodec.writing p)) c.checked_add-2.ensures
    (omega (arith, c.in_ok-encodings.ensures.1, c.encoded_len.ensures.len, c.encoded_len-2.ensures.len, length-entry_encoding g.KC.MapCodec.writing g.VC.MapCodec.writing p))
