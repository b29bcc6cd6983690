use Rattle.std.proofs.Common.{not, ◌==◌, rules}
use Rattle.buffa_ext.proofs.change_records.remove.Goals as goal

pub returns-clause-records : goal.returns-clause-records
returns-clause-records c = c.retain.ensures.records (λ r. not (r.0 == c.args.number)) (λ x b h k. search rules)
