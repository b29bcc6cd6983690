use Rattle.std.proofs.Common.{◌+◌, ◌∙◌, ap, false}
use Rattle.buffa_bytes.proofs.SequenceLemmas.{err_same}
use Rattle.std.specs.BTreeMap.{insert_entry}
use Rattle.buffa_map.proofs.InsertLemmas.{is_put_by}
use Rattle.buffa_map.specs.Pairs.{means}
use Rattle.buffa_fields.proofs.OrderedLemmas.{means_ascend}
use Rattle.buffa_fields.proofs.ClosedEnumMapLemmas.{kept_err, kept_full, kept_ok, kept_refused}
use Rattle.buffa_fields.proofs.members.ordered_closed_enum_map.take_kept_ordered.Goals as goal

pub returns-clause-taken : goal.returns-clause-taken
returns-clause-taken g c =
    let order = g.KC.Value.OrderedKey.order in
    let key = g.KC.Value.Blank.meaning in
    let value = g.VC.Value.Blank.meaning in
    let old = c.args.map.now.entries in
    let new = c.merge_entry_with_unknowns-answer.new.map.entries in
    let m = rw c.field_number.ensures at c.in_default.ensures.ok in
    let first = means_ascend order key value g.KC.Value.Ord.cmp g.met.KC.Value.OrderedKey.compares old c.len-old.ensures.ordered in
    let last = means_ascend order key value g.KC.Value.Ord.cmp g.met.KC.Value.OrderedKey.compares new c.len-new.ensures.ordered in
    kept_ok g.KC.MapValueDecode.reading g.VC.MapValueDecode.reading g.KC.Value.MapKey.same false (insert_entry order) (g.KC.MapValueDecode.COST + g.VC.MapValueDecode.COST) c.args.ctx.depth c.args.tag.number c.args.tag.wire_type
    c.args.buf.now.now c.merge_entry_with_unknowns-answer.new.buf.now _ _ c.in_ok-check_wire_type.ensures (means key value old) (means key value new) m
    (is_put_by g.KC.Value.OrderedKey.total (means key value old) (means key value new) m.says first last g.KC.Value.MapKey.same g.met.KC.Value.OrderedKey.ties m.put)

pub returns-in-Err-clause-taken : goal.returns-in-Err-clause-taken
returns-in-Err-clause-taken g c =
    let k = rw c.field_number.ensures at c.in-Err.ensures.err in
    kept_err g.KC.MapValueDecode.reading g.VC.MapValueDecode.reading g.KC.Value.MapKey.same false (insert_entry g.KC.Value.OrderedKey.order) (g.KC.MapValueDecode.COST + g.VC.MapValueDecode.COST) c.args.ctx.depth c.args.tag.number c.args.tag.wire_type
    c.args.buf.now.now c.merge_entry_with_unknowns-answer.new.buf.now _ _ _ c.in_ok-check_wire_type.ensures
    (means g.KC.Value.Blank.meaning g.VC.Value.Blank.meaning c.args.map.now.entries) (means g.KC.Value.Blank.meaning g.VC.Value.Blank.meaning c.merge_entry_with_unknowns-answer.new.map.entries)
    c.limits_are_reported_where_charges_are_not_left.ensures c.in-Err.error k
    (ap (λ z. z.unknown) c.with_element_memory.ensures ∙ c.new.ensures.unknown ∙ c.unknown_left-unknown.ensures) (ap (λ z. z.memory) c.with_element_memory.ensures ∙ c.memory_left.ensures)

pub returns-in-Err-clause-full : goal.returns-in-Err-clause-full
returns-in-Err-clause-full g c = λ full.
    let k = rw c.field_number.ensures at c.in-Err.ensures.err in
    kept_full g.KC.MapValueDecode.reading g.VC.MapValueDecode.reading g.KC.Value.MapKey.same false (insert_entry g.KC.Value.OrderedKey.order) (g.KC.MapValueDecode.COST + g.VC.MapValueDecode.COST) c.args.ctx.depth c.args.tag.number c.args.tag.wire_type c.args.buf.now.now
    c.args.ctx.budget.now c.in_ok-check_wire_type.ensures (k.memory full)

pub returns-in-Err-clause-refused : goal.returns-in-Err-clause-refused
returns-in-Err-clause-refused g c = λ e same.
    let k = rw c.field_number.ensures at c.in-Err.ensures.err in
    kept_refused g.KC.MapValueDecode.reading g.VC.MapValueDecode.reading g.KC.Value.MapKey.same false (insert_entry g.KC.Value.OrderedKey.order) (g.KC.MapValueDecode.COST + g.VC.MapValueDecode.COST) c.args.ctx.depth c.args.tag.number c.args.tag.wire_type
    c.args.buf.now.now c.merge_entry_with_unknowns-answer.new.buf.now _ _ c.in_ok-check_wire_type.ensures c.in-Err.error e (err_same same) k
