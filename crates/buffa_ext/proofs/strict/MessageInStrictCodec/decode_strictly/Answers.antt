use Rattle.std.proofs.Common.{option_map}
use Rattle.std.proofs.lemmas.Result.{err_from_is_err_and}
use Rattle.buffa_codec.specs.RecordsOfNumber.{sub}
use Rattle.buffa_ext.specs.MessageFacts.{is_full}
use Rattle.buffa_ext.specs.StrictFacts.{strict_answer, strict_whole, found_strictly}
use Rattle.buffa_ext.proofs.strict.MessageInStrictCodec.decode_strictly.Goals as goal

pub returns-clause-value : goal.returns-clause-value
returns-clause-value g c =
    let m = g.M.Blank.meaning in
    strict_answer (g.M.MessageSpec.merged 100) (g.M.MessageSpec.cost 100) g.K.MessageRecord.held g.K.MessageRecord.WIRE_TYPE c.args.number (m c.blank-message.result) g.M.Blank.blank_is (m c.merge_each.new.message)
    c.new-budget.result c.merge_each.new.budget (sub c.args.number c.args.fields.now.records) c.in_ok-there.there (option_map m c.taken_if.result)
    c.blank-message.ensures (is_full c.new-budget.result c.new-budget.ensures.unknown c.new-budget.ensures.memory) c.in_ok-there.ensures.merged c.taken_if.ensures

pub returns-clause-whole : goal.returns-clause-whole
returns-clause-whole g c =
    let m = g.M.Blank.meaning in
    strict_whole (g.M.MessageSpec.merged 100) (g.M.MessageSpec.cost 100) g.K.MessageRecord.held g.K.MessageRecord.WIRE_TYPE c.args.number (m c.blank-message.result) g.M.Blank.blank_is (m c.merge_each.new.message)
    c.new-budget.result c.merge_each.new.budget (sub c.args.number c.args.fields.now.records) c.in_ok-there.there
    c.blank-message.ensures (is_full c.new-budget.result c.new-budget.ensures.unknown c.new-budget.ensures.memory) c.in_ok-there.ensures.kinds c.in_ok-there.ensures.merged

pub returns-in_err-there-clause-fault : goal.returns-in_err-there-clause-fault
returns-in_err-there-clause-fault g c =
    let p = err_from_is_err_and c.from_residual.result c.from_residual.ensures.1 in
    rw (p.1, p.2) (found_strictly (g.M.MessageSpec.merged 100) (g.M.MessageSpec.cost 100) g.K.MessageRecord.held g.K.MessageRecord.WIRE_TYPE c.args.number (g.K.MessageRecord.asks 100)
    (g.M.Blank.meaning c.blank-message.result) g.M.Blank.blank_is c.new-budget.result (sub c.args.number c.args.fields.now.records) c.in_err-there.field-0.0
    c.blank-message.ensures (is_full c.new-budget.result c.new-budget.ensures.unknown c.new-budget.ensures.memory) c.in_err-there.ensures.fault)
