use Rattle.std.proofs.Common.{option_map}
use Rattle.buffa_wire.specs.BudgetLeft.{defaults}
use Rattle.buffa_codec.specs.RecordsOfNumber.{sub}
use Rattle.buffa_ext.specs.MessageFacts.{is_full, records_answer}
use Rattle.buffa_ext.proofs.message.MessageInExtensionCodec.decode.Goals as goal

pub returns-clause-reads : goal.returns-clause-reads
returns-clause-reads g c =
    let ds = sub c.args.number c.args.fields.now.records in
    let m = g.M.Blank.meaning in
    let budget = c.new-budget.result in
    records_answer (g.M.MessageSpec.merged 100) (g.M.MessageSpec.cost 100) g.K.MessageRecord.held (g.K.MessageRecord.asks 100) ds (m c.blank-message.result) g.M.Blank.blank_is (m c.merge_number-merged.new.message)
    budget defaults c.merge_number-merged.new.budget c.merge_number-merged.result c.answer.result (option_map m) c.blank-message.ensures (is_full budget c.new-budget.ensures.unknown c.new-budget.ensures.memory)
    c.merge_number-merged.ensures.merged c.answer.ensures.answer
