use Rattle.buffamap.proofs.CommandLemmas.{named_so}
use Rattle.buffamap.proofs.reply_laws.commands_are_these.Goals as goal

pub returns-clause-only : goal.returns-clause-only
returns-clause-only c = named_so
