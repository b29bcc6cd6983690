use Rattle.std.proofs.Common.{[]}
use Rattle.buffa_wire.specs.ReadableFacts.{readable}
use Rattle.buffa_wire.specs.Records.{records_of}
use Rattle.buffa_fields.specs.UndeclaredFields.{keep_takes}
use Rattle.buffa_map.proofs.LowLemmas.{deep_records_are_refused}
use Rattle.sample_types.proofs.laws.levels_are_exact.Goals as goal

pub returns-clause-tree : goal.returns-clause-tree
returns-clause-tree c = c.levels_are_exact.ensures (tt, (tt, tt))

pub returns-clause-keep : goal.returns-clause-keep
returns-clause-keep c = λ d rs fits normal low. deep_records_are_refused keep_takes d rs [] (readable (records_of rs) normal.1 fits) low
