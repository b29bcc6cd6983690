use Rattle.std.proofs.Common.{◌∙◌, inl, IsOk, Err, ap, map, refl}
use Rattle.std.proofs.lemmas.Result.{err_from_is_err_and}
use Rattle.buffa_bytes.proofs.FullLemmas.{delimited_full}
use Rattle.buffa_bytes.specs.PayloadValue.{payload_value_at}
use Rattle.buffa_fields.proofs.ListLemmas.{packed_stops}
use Rattle.buffa_fields.specs.Lists.{PackedTakeMemory}
use Rattle.buffa_wire.proofs.TakesLemmas.{full_weaker}
use Rattle.buffa_fields.proofs.members.list.take_packed.Goals as goal

pub returns-clause-full : goal.returns-clause-full
returns-clause-full g c =
    let codec = g.C.MapValueDecode.reading in
    full_weaker (IsOk (payload_value_at codec.wire c.in_ok-body.body.now)) (PackedTakeMemory codec c.args.buf.now.now) c.take_all.result c.take_all.ensures.full
    (λ whole. (c.in_ok-body.body.now, c.take_body.new.buf.now, c.in_ok-body.ensures, whole))

pub returns-in_err-body-clause-full : goal.returns-in_err-body-clause-full
returns-in_err-body-clause-full g c =
    let p = err_from_is_err_and c.from_residual.result c.from_residual.ensures.1 in
    rw (p.1, p.2) (λ full. absurd (delimited_full c.args.buf.now.now (c.in_err-body.ensures ∙ ap (λ z. Err z) full)))

pub returns-clause-refused : goal.returns-clause-refused
returns-clause-refused g c =
    let m = g.C.Value.Blank.meaning in
    packed_stops g.C.MapValueDecode.reading c.args.depth (map m c.args.values.now.items) (map m c.take_all.new.values.items) c.args.buf.now.now c.in_ok-body.body.now c.take_body.new.buf.now c.take_all.result c.in_ok-body.ensures c.take_all.ensures.stops

pub returns-in_err-body-clause-refused : goal.returns-in_err-body-clause-refused
returns-in_err-body-clause-refused g c =
    let p = err_from_is_err_and c.from_residual.result c.from_residual.ensures.1 in
    rw (p.1, p.2) (inl (c.in_err-body.ensures, refl))
