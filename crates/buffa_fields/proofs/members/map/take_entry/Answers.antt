use Rattle.std.proofs.Common.{◌+◌, refl, true}
use Rattle.std.proofs.lemmas.Result.{err_from_is_err_and}
use Rattle.buffa_bytes.proofs.SequenceLemmas.{err_same}
use Rattle.buffa_map.specs.Pairs.{means, put}
use Rattle.buffa_fields.proofs.MapLemmas.{map_err, map_full, map_ok, map_refused, other_refused}
use Rattle.buffa_fields.proofs.members.map.take_entry.Goals as goal

pub returns-clause-taken : goal.returns-clause-taken
returns-clause-taken g c =
    map_ok g.KC.MapValueDecode.reading g.VC.MapValueDecode.reading g.KC.Value.MapKey.same true (put g.KC.Value.MapKey.same) (g.KC.MapValueDecode.COST + g.VC.MapValueDecode.COST) c.args.ctx.depth c.args.tag.number c.args.tag.wire_type
    c.args.buf.now.now c.merge_entry.new.buf.now _ _ c.in_ok-check_wire_type.ensures
    (means g.KC.Value.Blank.meaning g.VC.Value.Blank.meaning c.args.map.now.entries) (means g.KC.Value.Blank.meaning g.VC.Value.Blank.meaning c.merge_entry.new.map.entries)
    c.in_ok-merge_entry.ensures.ok (c.in_ok-merge_entry.ensures.ok.order refl)

pub returns-in_err-merge_entry-clause-taken : goal.returns-in_err-merge_entry-clause-taken
returns-in_err-merge_entry-clause-taken g c =
    let p = err_from_is_err_and c.from_residual-in_err-merge_entry.result c.from_residual-in_err-merge_entry.ensures.1 in
    rw (p.1, p.2) (map_err g.KC.MapValueDecode.reading g.VC.MapValueDecode.reading g.KC.Value.MapKey.same true (put g.KC.Value.MapKey.same) (g.KC.MapValueDecode.COST + g.VC.MapValueDecode.COST) c.args.ctx.depth c.args.tag.number c.args.tag.wire_type
    c.args.buf.now.now c.merge_entry.new.buf.now _ _ c.in_ok-check_wire_type.ensures
    (means g.KC.Value.Blank.meaning g.VC.Value.Blank.meaning c.args.map.now.entries) (means g.KC.Value.Blank.meaning g.VC.Value.Blank.meaning c.merge_entry.new.map.entries)
    c.limits_are_reported_where_charges_are_not_left.ensures c.in_err-merge_entry.field-0.0 c.in_err-merge_entry.ensures.err)

pub returns-in_err-merge_entry-clause-full : goal.returns-in_err-merge_entry-clause-full
returns-in_err-merge_entry-clause-full g c =
    let p = err_from_is_err_and c.from_residual-in_err-merge_entry.result c.from_residual-in_err-merge_entry.ensures.1 in
    rw (p.1, p.2) (λ full. map_full g.KC.MapValueDecode.reading g.VC.MapValueDecode.reading g.KC.Value.MapKey.same true (put g.KC.Value.MapKey.same) (g.KC.MapValueDecode.COST + g.VC.MapValueDecode.COST) c.args.ctx.depth c.args.tag.number c.args.tag.wire_type c.args.buf.now.now c.args.ctx.budget.now c.in_ok-check_wire_type.ensures
    (c.in_err-merge_entry.ensures.err.memory full))

pub returns-in_err-check_wire_type-clause-refused : goal.returns-in_err-check_wire_type-clause-refused
returns-in_err-check_wire_type-clause-refused g c =
    let p = err_from_is_err_and c.from_residual.result c.from_residual.ensures.1 in
    rw (p.1, p.2) (λ e same. other_refused g.KC.MapValueDecode.reading g.VC.MapValueDecode.reading g.KC.Value.MapKey.same true (put g.KC.Value.MapKey.same) (g.KC.MapValueDecode.COST + g.VC.MapValueDecode.COST) c.args.ctx.depth (means g.KC.Value.Blank.meaning g.VC.Value.Blank.meaning c.args.map.now.entries)
    c.args.tag.number c.args.tag.wire_type c.args.buf.now.now c.args.ctx.budget.now c.in_err-check_wire_type.field-0.0 e c.in_err-check_wire_type.ensures (err_same same))

pub returns-in_err-merge_entry-clause-refused : goal.returns-in_err-merge_entry-clause-refused
returns-in_err-merge_entry-clause-refused g c =
    let p = err_from_is_err_and c.from_residual-in_err-merge_entry.result c.from_residual-in_err-merge_entry.ensures.1 in
    rw (p.1, p.2) (λ e same. map_refused g.KC.MapValueDecode.reading g.VC.MapValueDecode.reading g.KC.Value.MapKey.same true (put g.KC.Value.MapKey.same) (g.KC.MapValueDecode.COST + g.VC.MapValueDecode.COST) c.args.ctx.depth c.args.tag.number c.args.tag.wire_type
    c.args.buf.now.now c.merge_entry.new.buf.now _ _ c.in_ok-check_wire_type.ensures c.in_err-merge_entry.field-0.0 e (err_same same) c.in_err-merge_entry.ensures.err)
