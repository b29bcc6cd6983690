use Rattle.std.proofs.lemmas.Result.{on_ok_weaker, IfErr-weaker}
use Rattle.buffa_map.proofs.RewriteCallLemmas.{anew, anew_stopped}
use Rattle.buffa_map.proofs.rewrite.read_anew.Goals as goal

pub returns-clause-ok : goal.returns-clause-ok
returns-clause-ok g c = on_ok_weaker c.read_run_by.result (anew _ _ _ _ _ _ _ c.storage_clear.ensures) c.read_run_by.ensures.ok

pub returns-clause-err : goal.returns-clause-err
returns-clause-err g c = IfErr-weaker c.read_run_by.result _ _ (λ f h. anew_stopped _ _ _ _ _ _ _ f c.storage_clear.ensures h) c.read_run_by.ensures.err
