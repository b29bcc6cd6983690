use Rattle.std.proofs.Common.{◌∙◌, ap}
use Rattle.buffamap.specs.Reply.{hex_line}
use Rattle.buffamap.specs.Rewrite.{choice_run}
use Rattle.buffamap.proofs.RewriteReplyLemmas.{replied}
use Rattle.buffamap.proofs.rewrite.rewrite_run.Goals as goal

pub returns-clause-text : goal.returns-clause-text
returns-clause-text c =
    replied c.args.number (choice_run c.args.number c.args.bytes.now) c.rewrite_into.new.run.items c.in_ok-hex_line.field-0.items c.in_ok-rewrite_into.ensures.run
    (c.in_ok-hex_line.ensures ∙ ap hex_line c.as_slice.ensures.value)
