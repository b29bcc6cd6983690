use Rattle.std.proofs.Common.{◌∙◌, ap, sym, Err}
use Rattle.buffa_map.specs.RunReading.{run_of}
use Rattle.buffa_bytes.proofs.StepLemmas.{agree_ok, agree_err}
use Rattle.buffa_map.proofs.RunLemmas.{run_sound, run_complete, run_faulty}
use Rattle.buffa_map_laws.proofs.entries.runs_are_read.Goals as goal

pub returns : goal.returns
returns g c = record {
  ok = λ d n cost extra left bs es over.
      let key = g.KC.MapValueDecode.reading in
      let val = g.VC.MapValueDecode.reading in
      let key_free = g.met.KC.MapValueDecode.free in
      let val_free = g.met.VC.MapValueDecode.free in
      (λ h. agree_ok (run_of key val d n cost extra left bs) (es, over) (run_sound key val d n cost extra key_free val_free left bs) h, λ h. run_complete key val d n cost extra key_free val_free left bs es over h.0 h.1);
  err = λ plain d n cost extra left bs f.
      let key = g.KC.MapValueDecode.reading in
      let val = g.VC.MapValueDecode.reading in
      let key_free = g.met.KC.MapValueDecode.free in
      let val_free = g.met.VC.MapValueDecode.free in (
        λ h. agree_err (run_of key val d n cost extra left bs) f (run_sound key val d n cost extra key_free val_free left bs) h,
        λ h. let q = run_faulty key val d n cost extra key_free val_free left bs f h in q.1 ∙ ap (λ z. Err z) (sym (q.2 plain)),
      );
  refused = λ d n cost extra left bs f h.
      let q = run_faulty g.KC.MapValueDecode.reading g.VC.MapValueDecode.reading d n cost extra g.met.KC.MapValueDecode.free g.met.VC.MapValueDecode.free left bs f h in (q.0, q.1);
}
