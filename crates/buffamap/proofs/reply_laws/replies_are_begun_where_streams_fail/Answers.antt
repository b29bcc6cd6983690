use Rattle.buffamap.proofs.EngineLemmas.{errors_begun}
use Rattle.buffamap.proofs.reply_laws.replies_are_begun_where_streams_fail.Goals as goal

pub returns-clause-errors : goal.returns-clause-errors
returns-clause-errors c = errors_begun
