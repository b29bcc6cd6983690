use Rattle.std.proofs.Common.{arith, ◌≡◌, ◌+◌, length, sym, ◌∙◌}
use Rattle.buffa_map.specs.Encoding.{entry_encoding}
use Rattle.buffa_map.proofs.SizeLemmas.{if_fits, length-entry_encoding}
use Rattle.buffa_map.proofs.size.fixed_record_len.Goals as goal

pub returns : goal.returns
returns g c = if_fits c.framed_len.result _ _ c.framed_len.ensures (λ p.
    let key = g.KC.MapCodec.writing in
    let val = g.VC.MapCodec.writing in
    let key_len = g.met.KC.MapCodec.fixed _ (sym c.FIXED_LEN.ensures ∙ c.in_ok-FIXED_LEN.was) p.0 in
    let val_len = g.met.VC.MapCodec.fixed _ (sym c.FIXED_LEN-2.ensures ∙ c.in_ok-FIXED_LEN-2.was) p.1 in
    let size : length (entry_encoding key val p) ≡ 2 + (c.in_ok-FIXED_LEN.field-0 + c.in_ok-FIXED_LEN-2.field-0) =
    omega (arith, key_len, val_len, length-entry_encoding key val p) in
    rw size (omega arith))
