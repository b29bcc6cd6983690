use Rattle.buffamap.specs.Command.{command_of, texts}
use Rattle.buffamap.proofs.EngineLemmas.{answers_reported}
use Rattle.buffamap.proofs.engine.run_by.Goals as goal

pub returns-in-Err-clause-out : goal.returns-in-Err-clause-out
returns-in-Err-clause-out g c = answers_reported (command_of (texts c.args.words.now)) _ c.in-Err.fault _ _ c.tell.result c.in-Err.ensures.fault c.tell.ensures.reported
