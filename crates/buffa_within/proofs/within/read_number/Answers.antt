use Rattle.std.proofs.Common.{subst}
use Rattle.buffa_codec.specs.RecordsOfNumber.{sub}
use Rattle.buffa_ext.specs.Strict.{AreMessages}
use Rattle.buffa_within.proofs.within.read_number.Goals as goal

pub returns-clause-whole : goal.returns-clause-whole
returns-clause-whole g c =
    subst (λ x. AreMessages (g.M.MessageSpec.merged c.args.depth) (g.M.MessageSpec.cost c.args.depth) g.K.MessageRecord.held g.K.MessageRecord.WIRE_TYPE c.args.number x
    c.args.budget.now (sub c.args.number c.args.fields.now.records)) c.blank-message.ensures
    (c.in_ok-there.ensures.kinds, g.M.Blank.meaning c.merge_each.new.message, c.merge_each.new.budget, (c.in_ok-there.ensures.merged.1, c.in_ok-there.ensures.merged.2))
