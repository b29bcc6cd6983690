use Rattle.buffa_map.proofs.RunLemmas.{fold_entries-append, undeclared-append, Run-join}
use Rattle.buffa_map_laws.proofs.entries.runs_join.Goals as goal

pub returns : goal.returns
returns g c = record {
  run = λ d n a b es fs h k. Run-join g.KC.MapValueDecode.reading g.VC.MapValueDecode.reading d n a b es fs h k;
  fold = λ m es fs. fold_entries-append g.C.MapStorage.equal m es fs;
  kept = λ es fs. undeclared-append es fs;
}
