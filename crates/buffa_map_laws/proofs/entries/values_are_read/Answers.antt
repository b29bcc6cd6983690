use Rattle.std.proofs.Common.{◌≡◌, ℕ, List, Ok, subst, sym}
use Rattle.buffa_bytes.proofs.StepLemmas.{agree_err, agree_ok}
use Rattle.buffa_map.specs.Codec.{value_at}
use Rattle.buffa_map.proofs.EntryLemmas.{value_complete, value_sound}
use Rattle.buffa_map_laws.proofs.entries.values_are_read.Goals as goal

pub returns : goal.returns
returns g c =
    let codec = g.VC.MapValueDecode.reading in
    record {
      ok = λ d old bs new known rest. (
        λ h. let q = agree_ok (value_at codec d old bs) ((new, known), rest) (value_sound codec d old bs) h in (q.0, q.2, (q.1, q.3, q.5), q.4),
        λ h. (let again = value_complete codec d old h.2.0 rest h.1 (new, known) h.0 h.2.1 h.3 in subst (λ (z : List ℕ). value_at codec d old z ≡ Ok ((new, known), rest)) (sym h.2.2) again),
      );
      refused = λ d old bs f h. agree_err (value_at codec d old bs) f (value_sound codec d old bs) h;
    }
