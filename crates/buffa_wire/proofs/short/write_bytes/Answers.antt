use Rattle.std.proofs.Common.{◌++◌, append_assoc, length}
use Rattle.std.proofs.lemmas.Result.{err_from_is_err_and}
use Rattle.buffa_bytes.proofs.SinkLemmas.{exits_first, writes_then}
use Rattle.buffa_bytes.specs.Varint.{varint_encoding}
use Rattle.buffa_wire.proofs.ShortLemmas.{writes_same}
use Rattle.buffa_wire.proofs.short.write_bytes.Goals as goal

pub returns-in_err-write_two-clause-writes : goal.returns-in_err-write_two-clause-writes
returns-in_err-write_two-clause-writes g c =
    let p = err_from_is_err_and c.from_residual.result c.from_residual.ensures.1 in
    let tag = varint_encoding c.args.m in
    let len = varint_encoding (length c.args.value.now) in
    writes_same _ _ _ _ _ (append_assoc tag len c.args.value.now)
    (exits_first p.1 p.2 (g.S.EncodeSink.written c.args.sink.now) (tag ++ len) c.args.value.now (g.S.EncodeSink.written c.write_two.new.sink) c.in_err-write_two.ensures.writes)

pub returns-clause-writes : goal.returns-clause-writes
returns-clause-writes g c =
    let w = g.S.EncodeSink.written in
    let tag = varint_encoding c.args.m in
    let len = varint_encoding (length c.args.value.now) in
    writes_same _ _ _ _ _ (append_assoc tag len c.args.value.now)
    (writes_then c.put_slice.result (w c.args.sink.now) (tag ++ len) c.args.value.now (w c.write_two.new.sink) (w c.put_slice.new.self) c.in_ok-write_two.ensures.writes c.put_slice.ensures.writes)
