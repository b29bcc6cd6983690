use Rattle.std.proofs.Common.{◌+◌, ◌∙◌, ap, refl, true}
use Rattle.buffa_bytes.proofs.SequenceLemmas.{err_same}
use Rattle.buffa_map.specs.Pairs.{means, put}
use Rattle.buffa_fields.proofs.ClosedEnumMapLemmas.{kept_err, kept_full, kept_ok, kept_refused}
use Rattle.buffa_fields.proofs.members.closed_enum_map.take_kept_entry.Goals as goal

pub returns-clause-taken : goal.returns-clause-taken
returns-clause-taken g c =
    let m = rw c.field_number.ensures at c.in_default.ensures.ok in
    kept_ok g.KC.MapValueDecode.reading g.VC.MapValueDecode.reading g.KC.Value.MapKey.same true (put g.KC.Value.MapKey.same) (g.KC.MapValueDecode.COST + g.VC.MapValueDecode.COST) c.args.ctx.depth c.args.tag.number c.args.tag.wire_type
    c.args.buf.now.now c.merge_entry_with_unknowns-answer.new.buf.now _ _ c.in_ok-check_wire_type.ensures
    (means g.KC.Value.Blank.meaning g.VC.Value.Blank.meaning c.args.map.now.entries) (means g.KC.Value.Blank.meaning g.VC.Value.Blank.meaning c.merge_entry_with_unknowns-answer.new.map.entries)
    m (m.order refl)

pub returns-in-Err-clause-taken : goal.returns-in-Err-clause-taken
returns-in-Err-clause-taken g c =
    let k = rw c.field_number.ensures at c.in-Err.ensures.err in
    kept_err g.KC.MapValueDecode.reading g.VC.MapValueDecode.reading g.KC.Value.MapKey.same true (put g.KC.Value.MapKey.same) (g.KC.MapValueDecode.COST + g.VC.MapValueDecode.COST) c.args.ctx.depth c.args.tag.number c.args.tag.wire_type
    c.args.buf.now.now c.merge_entry_with_unknowns-answer.new.buf.now _ _ _ c.in_ok-check_wire_type.ensures
    (means g.KC.Value.Blank.meaning g.VC.Value.Blank.meaning c.args.map.now.entries) (means g.KC.Value.Blank.meaning g.VC.Value.Blank.meaning c.merge_entry_with_unknowns-answer.new.map.entries)
    c.limits_are_reported_where_charges_are_not_left.ensures c.in-Err.error k
    (ap (λ z. z.unknown) c.with_element_memory.ensures ∙ c.new.ensures.unknown ∙ c.unknown_left-unknown.ensures) (ap (λ z. z.memory) c.with_element_memory.ensures ∙ c.memory_left.ensures)

pub returns-in-Err-clause-full : goal.returns-in-Err-clause-full
returns-in-Err-clause-full g c = λ full.
    let k = rw c.field_number.ensures at c.in-Err.ensures.err in
    kept_full g.KC.MapValueDecode.reading g.VC.MapValueDecode.reading g.KC.Value.MapKey.same true (put g.KC.Value.MapKey.same) (g.KC.MapValueDecode.COST + g.VC.MapValueDecode.COST) c.args.ctx.depth c.args.tag.number c.args.tag.wire_type c.args.buf.now.now
    c.args.ctx.budget.now c.in_ok-check_wire_type.ensures (k.memory full)

pub returns-in-Err-clause-refused : goal.returns-in-Err-clause-refused
returns-in-Err-clause-refused g c = λ e same.
    let k = rw c.field_number.ensures at c.in-Err.ensures.err in
    kept_refused g.KC.MapValueDecode.reading g.VC.MapValueDecode.reading g.KC.Value.MapKey.same true (put g.KC.Value.MapKey.same) (g.KC.MapValueDecode.COST + g.VC.MapValueDecode.COST) c.args.ctx.depth c.args.tag.number c.args.tag.wire_type
    c.args.buf.now.now c.merge_entry_with_unknowns-answer.new.buf.now _ _ c.in_ok-check_wire_type.ensures c.in-Err.error e (err_same same) k
