use Rattle.std.proofs.Common.{refl, sym, ap, ◌∙◌}
use Rattle.std.proofs.lemmas.Result.{err_from_is_err_and}
use Rattle.buffa_map.specs.Pairs.{means}
use Rattle.buffa_map.proofs.MeaningLemmas.{IsDistinct-mean}
use Rattle.buffa_map.proofs.WriteLemmas.{sent_all, sent_more, sent_none, sent_stops}
use Rattle.buffa_map.proofs.map_write.IndexMapMapWrite.storage_write.Goals as goal

pub loop-key-init : goal.loop-key-init
loop-key-init g c =
    sent_none g.K.Blank.meaning g.V.Blank.meaning g.KC.MapCodec.writing g.VC.MapCodec.writing c.args.number g.KC.MapCodec.fits g.VC.MapCodec.fits _ _ _ _
    (ap (means g.K.Blank.meaning g.V.Blank.meaning) (sym (c.into_iter-key-iterator.ensures.into_iter_gives ∙ c.iter-key-items.ensures.rest)))

pub loop-key-preserved : goal.loop-key-preserved
loop-key-preserved g c =
    let wrote = c.in_ok-write_record.ensures in
    sent_more g.K.Blank.meaning g.V.Blank.meaning g.KC.MapCodec.writing g.VC.MapCodec.writing c.args.number g.KC.MapCodec.fits g.VC.MapCodec.fits _ _ _
    c.loop-key.key-iterator c.next.new.self c.in-Some.key.now c.in-Some.value.now c.in-Some.ensures.steps _ _ _ _ c.loop-key.invariant
    wrote.written.0 wrote.written.1 wrote.room wrote.fits.0 wrote.fits.1

pub returns-in_err-write_record : goal.returns-in_err-write_record
returns-in_err-write_record g c =
    let q = err_from_is_err_and c.from_residual.result c.from_residual.ensures.1 in
    let wrote = c.in_err-write_record.ensures in
    let w = sent_stops g.K.Blank.meaning g.V.Blank.meaning g.KC.MapCodec.writing g.VC.MapCodec.writing c.args.number g.KC.MapCodec.fits g.VC.MapCodec.fits _ _ _ q.1 q.2
    c.loop-key.key-iterator c.next.new.self c.in-Some.key.now c.in-Some.value.now c.in-Some.ensures.steps _ (g.W.EncodeSink.written c.write_record.new.sink) _ (g.W.EncodeSink.room c.write_record.new.sink) c.loop-key.invariant wrote.written wrote.room in (
      means g.K.Blank.meaning g.V.Blank.meaning c.args.self.now.entries,
      refl,
      (IsDistinct-mean g.K.Blank.meaning g.V.Blank.meaning g.K.MapKey.equivalence g.met.K.MapKey.respects c.args.self.now.entries c.iter-key-items.ensures.unique, λ q. refl),
      w.0,
      w.1,
      w.2,
    )

pub returns : goal.returns
returns g c =
    let s = sent_all g.K.Blank.meaning g.V.Blank.meaning g.KC.MapCodec.writing g.VC.MapCodec.writing c.args.number g.KC.MapCodec.fits g.VC.MapCodec.fits _ _ _ c.loop-key.key-iterator c.in-None.ensures.steps.0 _ _ c.loop-key.invariant in (
      means g.K.Blank.meaning g.V.Blank.meaning c.args.self.now.entries,
      refl,
      (IsDistinct-mean g.K.Blank.meaning g.V.Blank.meaning g.K.MapKey.equivalence g.met.K.MapKey.respects c.args.self.now.entries c.iter-key-items.ensures.unique, λ q. refl),
      s.0,
      s.1,
      s.2,
    )
