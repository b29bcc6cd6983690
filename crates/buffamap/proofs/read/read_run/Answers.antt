use Rattle.std.proofs.Common.{ap}
use Rattle.buffamap.specs.Read.{run_from}
use Rattle.buffamap.specs.Reply.{success}
use Rattle.buffamap.proofs.ReadReplyLemmas.{replied}
use Rattle.buffamap.proofs.read.read_run.Goals as goal

pub returns-clause-text : goal.returns-clause-text
returns-clause-text c =
    replied (run_from c.args.number c.args.bytes.now) c.read_pairs.new.pairs.entries (success c.in_ok-lines_of.field-0.items) c.lines_of.ensures.ordered
    (ap success c.in_ok-lines_of.ensures.text) c.in_ok-read_pairs.ensures.ok
