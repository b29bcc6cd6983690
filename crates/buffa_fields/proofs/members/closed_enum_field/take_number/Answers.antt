use Rattle.std.proofs.Common.{◌≡◌, ◌∙◌, ap, of_z, rules, sym, to_z, w32}
use Rattle.std.proofs.lemmas.Int.{to_z-of_z}
use Rattle.std.specs.Option.{option_map}
use Rattle.std.specs.Prelude.{is_some}
use Rattle.std.proofs.lemmas.Result.{err_from_is_err_and}
use Rattle.buffa_bytes.proofs.WireLemmas.{checked_same}
use Rattle.buffa_bytes.specs.declared.wire_type.WireType.TheVariants.{Varint}
use Rattle.buffa_wire.specs.Enums.{numbers}
use Rattle.buffa_fields.proofs.ClosedEnumFieldLemmas.{unknowns_full, unknowns_refused, unknowns_stays, unknowns_taken, declared_as, fault_full, no_varint, not_some, number_fault, varint_of}
use Rattle.buffa_fields.proofs.members.closed_enum_field.take_number.Goals as goal

pub returns-in_err-number-clause-taken : goal.returns-in_err-number-clause-taken
returns-in_err-number-clause-taken g c =
    let w = checked_same c.args.tag.number Varint c.args.tag.wire_type c.in_ok-check_wire_type.ensures in
    let p = err_from_is_err_and c.from_residual-in_err-number.result c.from_residual-in_err-number.ensures.1 in
    rw (p.1, p.2) (number_fault (numbers g.E.Enumeration.of_number g.E.Blank.blank_is) c.args.ctx.depth c.args.tag.number c.args.tag.wire_type c.args.buf.now.now c.args.ctx.budget.now (option_map g.E.Blank.meaning c.args.part.now) c.args.kept.now.records
    c.in_err-number.field-0.0 c.decode_int32.new.buf.now w (no_varint c.args.buf.now.now c.in_err-number.field-0.0 c.in_err-number.ensures.reads))

pub returns-in_err-number-clause-full : goal.returns-in_err-number-clause-full
returns-in_err-number-clause-full g c =
    let p = err_from_is_err_and c.from_residual-in_err-number.result c.from_residual-in_err-number.ensures.1 in
    rw (p.1, p.2) (λ full. absurd (fault_full c.args.ctx.depth c.args.tag.number c.args.buf.now.now c.in_err-number.field-0.0 (no_varint c.args.buf.now.now c.in_err-number.field-0.0 c.in_err-number.ensures.reads) full))

pub returns-in-Some-clause-taken : goal.returns-in-Some-clause-taken
returns-in-Some-clause-taken g c =
    let w = checked_same c.args.tag.number Varint c.args.tag.wire_type c.in_ok-check_wire_type.ensures in
    let k = varint_of c.args.buf.now.now c.decode_int32.new.buf.now c.in_ok-number.number c.in_ok-number.ensures.reads in
    let range : to_z w32 (of_z w32 c.in_ok-number.number) ≡ c.in_ok-number.number = to_z-of_z w32 c.in_ok-number.number (search rules) in
    declared_as (numbers g.E.Enumeration.of_number g.E.Blank.blank_is) c.args.ctx.depth c.args.tag.number c.args.tag.wire_type c.args.buf.now.now c.args.ctx.budget.now (option_map g.E.Blank.meaning c.args.part.now) c.args.kept.now.records
    w k.0 c.decode_int32.new.buf.now k.1 c.in_ok-number.number (g.E.Blank.meaning c.in-Some.declared) k.2 (ap (λ z. is_some (g.E.Enumeration.of_number z)) (sym range) ∙ ap is_some (sym c.in-Some.ensures.value)) (c.in-Some.ensures.number ∙ range)

pub returns-clause-taken : goal.returns-clause-taken
returns-clause-taken g c =
    let w = checked_same c.args.tag.number Varint c.args.tag.wire_type c.in_ok-check_wire_type.ensures in
    let k = varint_of c.args.buf.now.now c.decode_int32.new.buf.now c.in_ok-number.number c.in_ok-number.ensures.reads in
    let range : to_z w32 (of_z w32 c.in_ok-number.number) ≡ c.in_ok-number.number = to_z-of_z w32 c.in_ok-number.number (search rules) in
    let none = ap (λ z. is_some (g.E.Enumeration.of_number z)) (k.2 ∙ sym range) ∙ ap is_some (sym c.from_i32.ensures.value) ∙ not_some c.from_i32.result c.in_default.not-Some in
    unknowns_taken (numbers g.E.Enumeration.of_number g.E.Blank.blank_is) c.args.ctx.depth c.args.tag.number c.args.tag.wire_type c.args.buf.now.now c.args.ctx.budget.now (option_map g.E.Blank.meaning c.args.part.now) c.args.kept.now.records
    w k.0 c.decode_int32.new.buf.now k.1 none c.keep.result c.keep.new.fields.records _ c.keep.new.buf.now c.keep.ensures

pub returns-clause-full : goal.returns-clause-full
returns-clause-full g c =
    let w = checked_same c.args.tag.number Varint c.args.tag.wire_type c.in_ok-check_wire_type.ensures in
    let k = varint_of c.args.buf.now.now c.decode_int32.new.buf.now c.in_ok-number.number c.in_ok-number.ensures.reads in
    let range : to_z w32 (of_z w32 c.in_ok-number.number) ≡ c.in_ok-number.number = to_z-of_z w32 c.in_ok-number.number (search rules) in
    let none = ap (λ z. is_some (g.E.Enumeration.of_number z)) (k.2 ∙ sym range) ∙ ap is_some (sym c.from_i32.ensures.value) ∙ not_some c.from_i32.result c.in_default.not-Some in
    unknowns_full (numbers g.E.Enumeration.of_number g.E.Blank.blank_is) c.args.ctx.depth c.args.tag.number c.args.tag.wire_type c.args.buf.now.now c.args.ctx.budget.now (option_map g.E.Blank.meaning c.args.part.now) c.args.kept.now.records
    w k.0 c.decode_int32.new.buf.now k.1 none c.keep.result c.keep.new.fields.records _ c.keep.new.buf.now c.keep.ensures

pub returns-clause-refused : goal.returns-clause-refused
returns-clause-refused g c =
    let w = checked_same c.args.tag.number Varint c.args.tag.wire_type c.in_ok-check_wire_type.ensures in
    let k = varint_of c.args.buf.now.now c.decode_int32.new.buf.now c.in_ok-number.number c.in_ok-number.ensures.reads in
    let range : to_z w32 (of_z w32 c.in_ok-number.number) ≡ c.in_ok-number.number = to_z-of_z w32 c.in_ok-number.number (search rules) in
    let none = ap (λ z. is_some (g.E.Enumeration.of_number z)) (k.2 ∙ sym range) ∙ ap is_some (sym c.from_i32.ensures.value) ∙ not_some c.from_i32.result c.in_default.not-Some in
    unknowns_refused (numbers g.E.Enumeration.of_number g.E.Blank.blank_is) c.args.ctx.depth c.args.tag.number c.args.tag.wire_type c.args.buf.now.now c.args.ctx.budget.now (option_map g.E.Blank.meaning c.args.part.now) c.args.kept.now.records
    w k.0 c.decode_int32.new.buf.now k.1 none c.keep.result c.keep.new.fields.records _ c.keep.new.buf.now c.keep.ensures

pub returns-clause-stays : goal.returns-clause-stays
returns-clause-stays g c =
    let w = checked_same c.args.tag.number Varint c.args.tag.wire_type c.in_ok-check_wire_type.ensures in
    let k = varint_of c.args.buf.now.now c.decode_int32.new.buf.now c.in_ok-number.number c.in_ok-number.ensures.reads in
    let range : to_z w32 (of_z w32 c.in_ok-number.number) ≡ c.in_ok-number.number = to_z-of_z w32 c.in_ok-number.number (search rules) in
    let none = ap (λ z. is_some (g.E.Enumeration.of_number z)) (k.2 ∙ sym range) ∙ ap is_some (sym c.from_i32.ensures.value) ∙ not_some c.from_i32.result c.in_default.not-Some in
    unknowns_stays (numbers g.E.Enumeration.of_number g.E.Blank.blank_is) c.args.ctx.depth c.args.tag.number c.args.tag.wire_type c.args.buf.now.now c.args.ctx.budget.now (option_map g.E.Blank.meaning c.args.part.now) c.args.kept.now.records
    w k.0 c.decode_int32.new.buf.now k.1 none c.keep.result c.keep.new.fields.records _ c.keep.new.buf.now c.keep.ensures
