use Rattle.buffa_fields_laws.proofs.LevelLemmas.{exact_message}
use Rattle.buffa_fields_laws.proofs.levels.levels_of_fields_are_exact.Goals as goal

pub returns : goal.returns
returns g c = λ exact d old v fits normal less. exact_message g.M.MessageFields.schema normal.0 exact g.M.MessageFields.sound d old v fits normal.1 less
