use Rattle.std.proofs.Common.{arith}
use Rattle.buffa_map.proofs.WalkLemmas.{announced}
use Rattle.buffa_map.proofs.size_and_write.size_and_write_field.Goals as goal

pub returns-clause-size : goal.returns-clause-size
returns-clause-size g c =
    let sized = c.field_len-size.ensures in
    let wrote = c.in_ok-write_field.ensures in
    let tag = rw (c.new.ensures.number, c.new.ensures.wire_type) at c.encoded_len-tag_len.ensures in
    announced g.KC.MapCodec.writing g.VC.MapCodec.writing g.met.C.MapStorage.equivalence _ c.args.number _ _ sized.0 wrote.0 c.args.sink.now.items c.write_field.new.sink.items sized.2 wrote.2
    tag sized.3 wrote.3.1 (omega (arith, c.len-held.ensures))
