use Rattle.std.proofs.Common.{◌∙◌, ap}
use Rattle.std.proofs.lemmas.Result.{err_from_is_err_and}
use Rattle.buffa_wire.specs.RecordsOfValues.{record_of}
use Rattle.buffa_sets.proofs.FieldLemmas.{record_no_end, set_err, set_ok, set_refused}
use Rattle.buffa_sets.proofs.set.merge_field.Goals as goal

pub returns-in_err-field-clause-merged : goal.returns-in_err-field-clause-merged
returns-in_err-field-clause-merged c =
    let p = err_from_is_err_and c.from_residual.result c.from_residual.ensures.1 in
    (set_err c.args.ctx.depth c.args.tag.number c.args.tag.wire_type c.args.buf.now.now c.read_record.new.buf.now c.args.records.now.records c.from_residual.result _ _ p.1 p.2 c.args.ctx.budget.now
    c.unknown_left.result c.unknown_left.ensures c.in_err-field.ensures.reads).0

pub returns-in_err-field-clause-takes : goal.returns-in_err-field-clause-takes
returns-in_err-field-clause-takes c =
    let p = err_from_is_err_and c.from_residual.result c.from_residual.ensures.1 in
    (set_err c.args.ctx.depth c.args.tag.number c.args.tag.wire_type c.args.buf.now.now c.read_record.new.buf.now c.args.records.now.records c.from_residual.result _ _ p.1 p.2 c.args.ctx.budget.now
    c.unknown_left.result c.unknown_left.ensures c.in_err-field.ensures.reads).1

pub returns-in_err-field-clause-refused : goal.returns-in_err-field-clause-refused
returns-in_err-field-clause-refused c =
    let p = err_from_is_err_and c.from_residual.result c.from_residual.ensures.1 in
    set_refused c.args.ctx.depth c.args.tag.number c.args.tag.wire_type c.args.buf.now.now c.read_record.new.buf.now c.args.records.now.records c.args.records.now.records c.args.ctx.budget.now c.args.ctx.budget.now c.from_residual.result
    (set_err c.args.ctx.depth c.args.tag.number c.args.tag.wire_type c.args.buf.now.now c.read_record.new.buf.now c.args.records.now.records c.from_residual.result _ _ p.1 p.2 c.args.ctx.budget.now
    c.unknown_left.result c.unknown_left.ensures c.in_err-field.ensures.reads).1

pub returns-in_err-field-clause-full : goal.returns-in_err-field-clause-full
returns-in_err-field-clause-full c =
    let p = err_from_is_err_and c.from_residual.result c.from_residual.ensures.1 in
    rw (p.1, p.2) c.in_err-field.ensures.full

pub returns-clause-merged : goal.returns-clause-merged
returns-clause-merged c =
    (set_ok c.args.ctx.depth c.args.tag.number c.args.tag.wire_type c.args.buf.now.now c.read_record.new.buf.now c.args.records.now.records (record_of c.in_ok-field.field) c.in_ok-field.left
    c.push.new.self.records c.args.ctx.budget.now _ c.unknown_left.result c.unknown_left.ensures c.in_ok-field.ensures.reads c.in_ok-push.ensures.ok
    (ap (λ z. z.unknown) c.with_element_memory.ensures ∙ c.new.ensures.unknown) (ap (λ z. z.memory) c.with_element_memory.ensures ∙ c.memory_left.ensures)).0

pub returns-clause-takes : goal.returns-clause-takes
returns-clause-takes c =
    (set_ok c.args.ctx.depth c.args.tag.number c.args.tag.wire_type c.args.buf.now.now c.read_record.new.buf.now c.args.records.now.records (record_of c.in_ok-field.field) c.in_ok-field.left
    c.push.new.self.records c.args.ctx.budget.now _ c.unknown_left.result c.unknown_left.ensures c.in_ok-field.ensures.reads c.in_ok-push.ensures.ok
    (ap (λ z. z.unknown) c.with_element_memory.ensures ∙ c.new.ensures.unknown) (ap (λ z. z.memory) c.with_element_memory.ensures ∙ c.memory_left.ensures)).1

pub returns-in_err-push-clause-full : goal.returns-in_err-push-clause-full
returns-in_err-push-clause-full c =
    let p = err_from_is_err_and c.from_residual-in_err-push.result c.from_residual-in_err-push.ensures.1 in
    rw (p.1, p.2) (λ full. record_no_end c.args.ctx.depth c.unknown_left.result c.args.tag.number c.args.tag.wire_type c.args.buf.now.now (record_of c.in_ok-field.field, c.in_ok-field.left, c.read_record.new.buf.now) c.in_ok-field.ensures.reads)
