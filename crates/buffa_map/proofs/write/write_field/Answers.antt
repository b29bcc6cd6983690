use Rattle.std.proofs.Common.{◌≡◌, ◌∷◌, [], ap, Some, None, sym}
use Rattle.std.proofs.lemmas.Result.{err_from_is_err_and}
use Rattle.buffa_map.specs.Pairs.{means}
use Rattle.buffa_map.proofs.WriteLemmas.{sent_all, sent_more, sent_none, sent_stops}
use Rattle.buffa_map.proofs.write.write_field.Goals as goal

pub loop-key-init : goal.loop-key-init
loop-key-init g c = (
  means g.KC.Value.Blank.meaning g.VC.Value.Blank.meaning (g.C.MapWalk.left c.storage_iter-key-items.result),
  c.storage_iter-key-items.ensures.walk,
  c.storage_iter-key-items.ensures.pairs,
  sent_none g.KC.Value.Blank.meaning g.VC.Value.Blank.meaning g.KC.MapCodec.writing g.VC.MapCodec.writing c.args.number g.KC.MapCodec.fits g.VC.MapCodec.fits _ _ _ _
      (ap (λ z. means g.KC.Value.Blank.meaning g.VC.Value.Blank.meaning (g.C.MapWalk.left z)) (sym c.into_iter-key-iterator.ensures.into_iter_gives)),
)

pub loop-key-preserved : goal.loop-key-preserved
loop-key-preserved g c =
    let inv = c.loop-key.invariant in
    let wrote = c.in_ok-write_record.ensures in
    let step : g.C.MapWalk.left c.loop-key.key-iterator ≡ (c.in-Some.key.now, c.in-Some.value.now) ∷ g.C.MapWalk.left c.next.new.self = c.storage_iter-key-items.ensures.steps c.loop-key.key-iterator (Some (c.in-Some.key, c.in-Some.value)) c.next.new.self c.in-Some.ensures.steps in (
      inv.0,
      inv.1,
      inv.2,
      sent_more g.KC.Value.Blank.meaning g.VC.Value.Blank.meaning g.KC.MapCodec.writing g.VC.MapCodec.writing c.args.number g.KC.MapCodec.fits g.VC.MapCodec.fits _ _ _ _ _ _ _ step _ _ _ _ inv.3 wrote.written.0 wrote.written.1 wrote.room wrote.fits.0 wrote.fits.1,
    )

pub returns-in_err-write_record : goal.returns-in_err-write_record
returns-in_err-write_record g c =
    let q = err_from_is_err_and c.from_residual.result c.from_residual.ensures.1 in
    let inv = c.loop-key.invariant in
    let step : g.C.MapWalk.left c.loop-key.key-iterator ≡ (c.in-Some.key.now, c.in-Some.value.now) ∷ g.C.MapWalk.left c.next.new.self = c.storage_iter-key-items.ensures.steps c.loop-key.key-iterator (Some (c.in-Some.key, c.in-Some.value)) c.next.new.self c.in-Some.ensures.steps in
    let wrote = c.in_err-write_record.ensures in
    let w = sent_stops g.KC.Value.Blank.meaning g.VC.Value.Blank.meaning g.KC.MapCodec.writing g.VC.MapCodec.writing c.args.number g.KC.MapCodec.fits g.VC.MapCodec.fits _ _ _ q.1 q.2 _ _ _ _ step _ (g.S.EncodeSink.written c.write_record.new.sink) _ (g.S.EncodeSink.room c.write_record.new.sink) inv.3 wrote.written wrote.room in
    (inv.0, inv.1, inv.2, w.0, w.1, w.2)

pub returns : goal.returns
returns g c =
    let inv = c.loop-key.invariant in
    let step : g.C.MapWalk.left c.loop-key.key-iterator ≡ [] = (c.storage_iter-key-items.ensures.steps c.loop-key.key-iterator None c.next.new.self c.in-None.ensures.steps).0 in
    let s = sent_all g.KC.Value.Blank.meaning g.VC.Value.Blank.meaning g.KC.MapCodec.writing g.VC.MapCodec.writing c.args.number g.KC.MapCodec.fits g.VC.MapCodec.fits _ _ _ _ step _ _ inv.3 in
    (inv.0, inv.1, inv.2, s.0, s.1, s.2)
