use Rattle.buffa_fields.proofs.MapLemmas.{map_unwritten, map_written}
use Rattle.buffa_fields.proofs.members.map.write_map.Goals as goal

pub returns-in-Ok : goal.returns-in-Ok
returns-in-Ok g c =
    let w = c.in-Ok.ensures in
    map_written g.KC.MapCodec.writing g.VC.MapCodec.writing c.args.number w.0 (g.C.StableOrder.walk c.args.map.now) (g.S.EncodeSink.written c.args.sink.now) (g.S.EncodeSink.written c.write_field.new.sink) (g.met.C.StableOrder.stable c.args.map.now w.0 w.1) w.3.1

pub returns-in-Err : goal.returns-in-Err
returns-in-Err g c =
    let w = c.in-Err.ensures in
    map_unwritten g.KC.MapCodec.writing g.VC.MapCodec.writing c.args.number w.0 (g.C.StableOrder.walk c.args.map.now) (g.S.EncodeSink.written c.args.sink.now) (g.S.EncodeSink.written c.write_field.new.sink) (g.met.C.StableOrder.stable c.args.map.now w.0 w.1) c.in-Err.field-0 w.3
