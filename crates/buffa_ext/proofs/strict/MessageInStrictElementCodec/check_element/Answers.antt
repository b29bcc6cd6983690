use Rattle.std.proofs.lemmas.Result.{err_from_is_err_and}
use Rattle.buffa_wire.specs.RecordsOfValues.{field_data_of}
use Rattle.buffa_ext.specs.StrictFacts.{element_leaves, is_element, found_element}
use Rattle.buffa_ext.proofs.strict.MessageInStrictElementCodec.check_element.Goals as goal

pub returns-clause-element : goal.returns-clause-element
returns-clause-element g c =
    is_element (g.M.MessageSpec.merged 100) (g.M.MessageSpec.cost 100) g.K.MessageRecord.held g.K.MessageRecord.WIRE_TYPE c.args.number (field_data_of c.args.payload.now)
    (g.M.Blank.meaning c.blank-message.result) g.M.Blank.blank_is (g.M.Blank.meaning c.merge_one.new.message) c.args.budget.now c.merge_one.new.budget c.blank-message.ensures c.in_ok-merge_one.ensures.merged

pub returns-clause-leaves : goal.returns-clause-leaves
returns-clause-leaves g c =
    element_leaves (g.M.MessageSpec.merged 100) (g.M.MessageSpec.cost 100) g.K.MessageRecord.held g.K.MessageRecord.WIRE_TYPE c.args.number (field_data_of c.args.payload.now)
    (g.M.Blank.meaning c.blank-message.result) g.M.Blank.blank_is (g.M.Blank.meaning c.merge_one.new.message) c.args.budget.now c.merge_one.new.budget c.blank-message.ensures c.in_ok-merge_one.ensures.merged

pub returns-in_err-merge_one-clause-fault : goal.returns-in_err-merge_one-clause-fault
returns-in_err-merge_one-clause-fault g c =
    let p = err_from_is_err_and c.from_residual.result c.from_residual.ensures.1 in
    rw (p.1, p.2) (found_element (g.M.MessageSpec.merged 100) (g.M.MessageSpec.cost 100) g.K.MessageRecord.held g.K.MessageRecord.WIRE_TYPE c.args.number g.K.MessageRecord.asks 100 (field_data_of c.args.payload.now)
    (g.M.Blank.meaning c.blank-message.result) g.M.Blank.blank_is c.args.budget.now c.in_err-merge_one.field-0.0 c.blank-message.ensures c.in_err-merge_one.ensures.fault)
