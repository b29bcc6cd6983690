use Rattle.std.proofs.lemmas.List.{length-map}
use Rattle.std.proofs.Common.{◌≡◌, ◌∙◌, refl, sym, map}
use Rattle.buffa_map.proofs.BackLemmas.{all_declared, as_record, both_hold, fold_back, implicit_back, run_back}
use Rattle.buffa_map_laws.proofs.entries.written_is_read.Goals as goal

pub returns : goal.returns
returns g c d n l num has fits normal distinct =
    let key = g.KC.MapValueDecode.reading in
    let val = g.VC.MapValueDecode.reading in
    let kw = g.KC.MapCodec.writing in
    let vw = g.VC.MapCodec.writing in
    let same_key : kw.wire ≡ key.wire = g.met.KC.MapCodec.written_wire ∙ sym g.met.KC.MapValueDecode.wire in
    let same_val : vw.wire ≡ val.wire = g.met.VC.MapCodec.written_wire ∙ sym g.met.VC.MapValueDecode.wire in
    let say = as_record kw vw in record {
      entries = map say l;
      run = run_back key val kw vw same_key same_val d (λ k. g.KC.MapCodec.fits k × g.KC.MapCodec.normal k) (λ v. g.VC.MapCodec.fits v × g.VC.MapCodec.normal v)
          (λ v h. implicit_back key kw d v g.met.KC.MapCodec.plain (g.met.KC.MapCodec.reads_back d key.blank v h.0 h.1)) (λ v h. implicit_back val vw d v g.met.VC.MapCodec.plain (g.met.VC.MapCodec.reads_back d val.blank v h.0 h.1))
          n l num has (both_hold g.KC.MapCodec.fits g.KC.MapCodec.normal g.VC.MapCodec.fits g.VC.MapCodec.normal l fits normal);
      folded = fold_back g.met.C.MapStorage.equivalence say (λ p. refl) l distinct;
      declared = all_declared say (λ p. refl) l;
      many = length-map l say;
    }
