use Rattle.buffamap.proofs.PutLemmas.{put_none}
use Rattle.buffamap.proofs.reply_laws.maps_of_lines_are_these.Goals as goal

pub returns-clause-none : goal.returns-clause-none
returns-clause-none c = put_none
