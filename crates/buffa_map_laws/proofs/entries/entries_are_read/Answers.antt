use Rattle.std.proofs.Common.{◌∙◌, ap, sym, Err}
use Rattle.buffa_map.specs.EntryReading.{entry_of}
use Rattle.buffa_bytes.proofs.StepLemmas.{agree_ok, agree_err}
use Rattle.buffa_map.proofs.EntryLemmas.{entry_sound, entry_complete, entry_faulty}
use Rattle.buffa_map_laws.proofs.entries.entries_are_read.Goals as goal

pub returns : goal.returns
returns g c = record {
  ok = λ d e s.
      let key = g.KC.MapValueDecode.reading in
      let val = g.VC.MapValueDecode.reading in
      (λ h. agree_ok (entry_of key val d e) s (entry_sound key val d e) h, entry_complete key val d e s);
  err = λ plain d e f.
      let key = g.KC.MapValueDecode.reading in
      let val = g.VC.MapValueDecode.reading in
      (λ h. agree_err (entry_of key val d e) f (entry_sound key val d e) h, λ h. let q = entry_faulty key val d e f h in q.1 ∙ ap (λ z. Err z) (sym (q.2 plain)));
  refused = λ d e f h. let q = entry_faulty g.KC.MapValueDecode.reading g.VC.MapValueDecode.reading d e f h in (q.0, q.1);
}
