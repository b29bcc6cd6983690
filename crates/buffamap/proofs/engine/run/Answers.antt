use Rattle.std.proofs.Common.{rules}
use Rattle.buffamap.proofs.engine.run.Goals as goal

pub returns-clause-out : goal.returns-clause-out
returns-clause-out g c =
    (c.run_by.new.input.failed, c.run_by.new.output.failed, c.run_by.new.errors.failed, search rules, search rules)
