use Rattle.std.proofs.Common.{[], ap}
use Rattle.buffa_wire.specs.Records.{Held}
use Rattle.buffa_map.proofs.RewriteCallLemmas.{anew_read, fits, full, room, short, stopped, wrote}
use Rattle.buffa_map.proofs.rewrite.rewrite_map_field.Goals as goal

pub returns-in-Ok-write_with-clause-read : goal.returns-in-Ok-write_with-clause-read
returns-in-Ok-write_with-clause-read g c = (_, anew_read g.KC.MapValueDecode.reading g.VC.MapValueDecode.reading g.KC.MapCodec.writing g.VC.MapCodec.writing g.C.MapStorage.equal g.C.MapStorage.keeps_order _ _ _ g.KC.MapCodec.fits g.VC.MapCodec.fits (g.C.MapStorage.walks c.read_anew.new.map) g.met.KC.MapValueDecode.free g.met.VC.MapValueDecode.free g.met.C.MapStorage.equivalence _ _ _ _ _ _ _ [] [] 0 0 (ap (λ (z : Held). z.records) c.new-unknowns.ensures) c.in-Ok.ensures.ok)

pub returns-in-Ok-write_with-clause-written : goal.returns-in-Ok-write_with-clause-written
returns-in-Ok-write_with-clause-written g c = wrote g.KC.MapValueDecode.reading g.VC.MapValueDecode.reading g.KC.MapCodec.writing g.VC.MapCodec.writing g.C.MapStorage.equal g.C.MapStorage.keeps_order _ _ _ g.KC.MapCodec.fits g.VC.MapCodec.fits (g.C.MapStorage.walks c.read_anew.new.map) g.met.KC.MapValueDecode.free g.met.VC.MapValueDecode.free g.met.C.MapStorage.equivalence _ _ _ _ _ _ _ _ _ _ _ (ap (λ (z : Held). z.records) c.new-unknowns.ensures) c.in-Ok.ensures.ok c.in-Ok-write_with.field-0 c.in-Ok-write_with.ensures

pub returns-in-Ok-write_with-clause-short : goal.returns-in-Ok-write_with-clause-short
returns-in-Ok-write_with-clause-short g c = short g.KC.MapValueDecode.reading g.VC.MapValueDecode.reading g.KC.MapCodec.writing g.VC.MapCodec.writing g.C.MapStorage.equal g.C.MapStorage.keeps_order _ _ _ g.KC.MapCodec.fits g.VC.MapCodec.fits (g.C.MapStorage.walks c.read_anew.new.map) g.met.KC.MapValueDecode.free g.met.VC.MapValueDecode.free g.met.C.MapStorage.equivalence _ _ _ _ _ _ _ _ _ _ _ (ap (λ (z : Held). z.records) c.new-unknowns.ensures) c.in-Ok.ensures.ok c.in-Ok-write_with.field-0 c.in-Ok-write_with.ensures

pub returns-in-Ok-write_with-clause-fits : goal.returns-in-Ok-write_with-clause-fits
returns-in-Ok-write_with-clause-fits g c = fits g.KC.MapValueDecode.reading g.VC.MapValueDecode.reading g.KC.MapCodec.writing g.VC.MapCodec.writing g.C.MapStorage.equal g.C.MapStorage.keeps_order _ _ _ g.KC.MapCodec.fits g.VC.MapCodec.fits (g.C.MapStorage.walks c.read_anew.new.map) g.met.KC.MapValueDecode.free g.met.VC.MapValueDecode.free g.met.C.MapStorage.equivalence _ _ _ _ _ _ _ _ _ _ _ (ap (λ (z : Held). z.records) c.new-unknowns.ensures) c.in-Ok.ensures.ok c.in-Ok-write_with.field-0 c.in-Ok-write_with.ensures

pub returns-in-Ok-write_with-clause-room : goal.returns-in-Ok-write_with-clause-room
returns-in-Ok-write_with-clause-room g c = room g.KC.MapValueDecode.reading g.VC.MapValueDecode.reading g.KC.MapCodec.writing g.VC.MapCodec.writing g.C.MapStorage.equal g.C.MapStorage.keeps_order _ _ _ g.KC.MapCodec.fits g.VC.MapCodec.fits (g.C.MapStorage.walks c.read_anew.new.map) g.met.KC.MapValueDecode.free g.met.VC.MapValueDecode.free g.met.C.MapStorage.equivalence _ _ _ _ _ _ _ _ _ _ _ (ap (λ (z : Held). z.records) c.new-unknowns.ensures) c.in-Ok.ensures.ok c.in-Ok-write_with.field-0 c.in-Ok-write_with.ensures

pub returns-clause-read : goal.returns-clause-read
returns-clause-read g c = (_, anew_read g.KC.MapValueDecode.reading g.VC.MapValueDecode.reading g.KC.MapCodec.writing g.VC.MapCodec.writing g.C.MapStorage.equal g.C.MapStorage.keeps_order _ _ _ g.KC.MapCodec.fits g.VC.MapCodec.fits (g.C.MapStorage.walks c.read_anew.new.map) g.met.KC.MapValueDecode.free g.met.VC.MapValueDecode.free g.met.C.MapStorage.equivalence _ _ _ _ _ _ _ [] [] 0 0 (ap (λ (z : Held). z.records) c.new-unknowns.ensures) c.in-Ok.ensures.ok)

pub returns-clause-stopped : goal.returns-clause-stopped
returns-clause-stopped g c = stopped g.KC.MapValueDecode.reading g.VC.MapValueDecode.reading g.KC.MapCodec.writing g.VC.MapCodec.writing g.C.MapStorage.equal g.C.MapStorage.keeps_order _ _ _ g.KC.MapCodec.fits g.VC.MapCodec.fits (g.C.MapStorage.walks c.read_anew.new.map) g.met.KC.MapValueDecode.free g.met.VC.MapValueDecode.free g.met.C.MapStorage.equivalence _ _ _ _ _ _ _ _ _ _ _ (ap (λ (z : Held). z.records) c.new-unknowns.ensures) c.in-Ok.ensures.ok c.in-Err-write_with.error c.in-Err-write_with.ensures

pub returns-clause-full : goal.returns-clause-full
returns-clause-full g c = full g.KC.MapValueDecode.reading g.VC.MapValueDecode.reading g.KC.MapCodec.writing g.VC.MapCodec.writing g.C.MapStorage.equal g.C.MapStorage.keeps_order _ _ _ g.KC.MapCodec.fits g.VC.MapCodec.fits (g.C.MapStorage.walks c.read_anew.new.map) g.met.KC.MapValueDecode.free g.met.VC.MapValueDecode.free g.met.C.MapStorage.equivalence _ _ _ _ _ _ _ _ _ _ _ (ap (λ (z : Held). z.records) c.new-unknowns.ensures) c.in-Ok.ensures.ok c.in-Err-write_with.error c.in-Err-write_with.ensures
