use Rattle.std.proofs.Common.{map, refl}
use Rattle.std.proofs.lemmas.Result.{err_from_is_err_and}
use Rattle.buffa_wire.specs.Enums.{numbers}
use Rattle.buffa_fields.proofs.ClosedEnumListLemmas.{means_stay, numbers_full, numbers_refused, numbers_taken, numbers_unread, unread_refused}
use Rattle.buffa_fields.proofs.members.closed_enum_list.take_numbers.Goals as goal

pub returns-in_err-take_elements-clause-taken : goal.returns-in_err-take_elements-clause-taken
returns-in_err-take_elements-clause-taken g c =
    let p = err_from_is_err_and c.from_residual.result c.from_residual.ensures.1 in
    rw (p.1, p.2) (numbers_unread (numbers g.E.Enumeration.of_number g.E.Blank.blank_is) c.args.ctx.depth c.args.tag.number c.args.tag.wire_type c.args.buf.now.now c.args.ctx.budget.now (map g.E.Blank.meaning c.args.values.now.items) c.args.kept.now.records
    c.new-varints.result.items c.take_elements.new.values.items c.new-varints.ensures.items c.take_elements.new.buf.now c.in_err-take_elements.field-0.0 (c.in_err-take_elements.ensures.taken c.args.ctx.budget.now))

pub returns-in_err-take_elements-clause-refused : goal.returns-in_err-take_elements-clause-refused
returns-in_err-take_elements-clause-refused g c =
    let p = err_from_is_err_and c.from_residual.result c.from_residual.ensures.1 in
    rw (p.1, p.2) (λ e same. unread_refused (numbers g.E.Enumeration.of_number g.E.Blank.blank_is) c.args.ctx.depth c.args.tag.number c.args.tag.wire_type c.args.buf.now.now c.args.ctx.budget.now (map g.E.Blank.meaning c.args.values.now.items) c.args.kept.now.records
    c.new-varints.result.items c.take_elements.new.values.items c.new-varints.ensures.items c.take_elements.new.buf.now c.in_err-take_elements.field-0.0 e (c.in_err-take_elements.ensures.refused c.in_err-take_elements.field-0.0 refl) same)

pub returns-clause-taken : goal.returns-clause-taken
returns-clause-taken g c =
    numbers_taken (numbers g.E.Enumeration.of_number g.E.Blank.blank_is) c.args.ctx.depth c.args.tag.number c.args.tag.wire_type c.args.buf.now.now c.args.ctx.budget.now (map g.E.Blank.meaning c.args.values.now.items) c.args.kept.now.records
    c.new-varints.result.items c.take_elements.new.values.items c.new-varints.ensures.items c.take_elements.new.buf.now (c.in_ok-take_elements.ensures.taken c.args.ctx.budget.now)
    c.field_number.result c.field_number.ensures c.as_slice.result.now c.as_slice.ensures.value (map g.E.Blank.meaning c.put_numbers.new.values.items) c.put_numbers.new.kept.records c.put_numbers.new.budget
    c.put_numbers.result c.put_numbers.ensures.puts c.put_numbers.ensures.budget

pub returns-clause-full : goal.returns-clause-full
returns-clause-full g c =
    numbers_full (numbers g.E.Enumeration.of_number g.E.Blank.blank_is) c.args.ctx.depth c.args.tag.number c.args.tag.wire_type c.args.buf.now.now c.args.ctx.budget.now (map g.E.Blank.meaning c.args.values.now.items) c.args.kept.now.records
    c.new-varints.result.items c.take_elements.new.values.items c.new-varints.ensures.items c.take_elements.new.buf.now (c.in_ok-take_elements.ensures.taken c.args.ctx.budget.now)
    c.field_number.result c.field_number.ensures c.as_slice.result.now c.as_slice.ensures.value (map g.E.Blank.meaning c.put_numbers.new.values.items) c.put_numbers.new.kept.records c.put_numbers.new.budget
    c.put_numbers.result c.put_numbers.ensures.puts

pub returns-clause-refused : goal.returns-clause-refused
returns-clause-refused g c =
    numbers_refused (numbers g.E.Enumeration.of_number g.E.Blank.blank_is) c.args.ctx.depth c.args.tag.number c.args.tag.wire_type c.args.buf.now.now c.args.ctx.budget.now (map g.E.Blank.meaning c.args.values.now.items) c.args.kept.now.records
    c.new-varints.result.items c.take_elements.new.values.items c.new-varints.ensures.items c.take_elements.new.buf.now (c.in_ok-take_elements.ensures.taken c.args.ctx.budget.now)
    c.field_number.result c.field_number.ensures c.as_slice.result.now c.as_slice.ensures.value (map g.E.Blank.meaning c.put_numbers.new.values.items) c.put_numbers.new.kept.records c.put_numbers.new.budget
    c.put_numbers.result c.put_numbers.ensures.puts (means_stay g.E.Blank.meaning c.args.values.now.items c.put_numbers.new.values.items c.put_numbers.result c.put_numbers.ensures.list)
