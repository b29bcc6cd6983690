use Rattle.std.proofs.Common.{◌≡◌, ◌∙◌, Err, ap, refl, sym}
use Rattle.std.proofs.lemmas.Result.{err_from_is_err_and}
use Rattle.buffa_bytes.specs.Readings.{check_wire}
use Rattle.buffa_bytes.proofs.WireLemmas.{checked_same, other_not_full}
use Rattle.buffa_map.specs.Codec.{value_charge}
use Rattle.buffa_bytes.proofs.SequenceLemmas.{err_same}
use Rattle.buffa_fields.proofs.ValueLemmas.{kept_by, refused_plain, value_err, value_ok, value_reported, wire_err, wire_reported}
use Rattle.buffa_fields.proofs.members.value.take_value.Goals as goal

pub returns-in_err-check_wire_type-clause-taken : goal.returns-in_err-check_wire_type-clause-taken
returns-in_err-check_wire_type-clause-taken g c =
    let codec = g.C.MapValueDecode.reading in
    let wire = c.WIRE_TYPE.result in
    let wire_is : codec.wire ≡ wire = g.met.C.MapValueDecode.wire ∙ sym c.WIRE_TYPE.ensures in
    let n = c.args.tag.number in
    let w = c.args.tag.wire_type in
    let p = err_from_is_err_and c.from_residual.result c.from_residual.ensures.1 in
    rw (p.1, p.2) (wire_err codec g.met.C.MapCodec.plain g.met.C.MapValueDecode.no_limit c.args.ctx.depth (g.C.Value.Blank.meaning c.args.value.now) n w c.args.buf.now.now c.args.ctx.budget.now c.in_err-check_wire_type.field-0.0
    (ap (λ z. check_wire n z w) wire_is ∙ c.in_err-check_wire_type.ensures))

pub returns-clause-taken : goal.returns-clause-taken
returns-clause-taken g c =
    let codec = g.C.MapValueDecode.reading in
    let wire = c.WIRE_TYPE.result in
    let wire_is : codec.wire ≡ wire = g.met.C.MapValueDecode.wire ∙ sym c.WIRE_TYPE.ensures in
    let n = c.args.tag.number in
    let w = c.args.tag.wire_type in
    let d = c.args.ctx.depth in
    let bs = c.args.buf.now.now in
    let same = checked_same n wire w c.in_ok-check_wire_type.ensures in
    value_ok codec g.met.C.MapCodec.plain g.met.C.MapValueDecode.no_limit d (g.C.Value.Blank.meaning c.args.value.now) n w bs c.args.ctx.budget.now (g.C.Value.Blank.meaning c.merge.new.value) _ c.merge.new.buf.now _
    (same ∙ sym wire_is) (kept_by codec.nested _ c.args.ctx.budget.now (value_charge codec d bs) _ g.met.C.MapCodec.plain c.in_ok-merge.ensures.spends) c.in_ok-merge.ensures.ok

pub returns-in_err-merge-clause-taken : goal.returns-in_err-merge-clause-taken
returns-in_err-merge-clause-taken g c =
    let codec = g.C.MapValueDecode.reading in
    let wire = c.WIRE_TYPE.result in
    let wire_is : codec.wire ≡ wire = g.met.C.MapValueDecode.wire ∙ sym c.WIRE_TYPE.ensures in
    let n = c.args.tag.number in
    let w = c.args.tag.wire_type in
    let d = c.args.ctx.depth in
    let bs = c.args.buf.now.now in
    let old = g.C.Value.Blank.meaning c.args.value.now in
    let same = checked_same n wire w c.in_ok-check_wire_type.ensures in
    let p = err_from_is_err_and c.from_residual-in_err-merge.result c.from_residual-in_err-merge.ensures.1 in
    rw (p.1, p.2) (value_err codec g.met.C.MapCodec.plain g.met.C.MapValueDecode.no_limit d old n w bs c.args.ctx.budget.now c.in_err-merge.field-0.0 (g.C.Value.Blank.meaning c.merge.new.value) c.merge.new.buf.now _
    (same ∙ sym wire_is) (kept_by codec.nested _ c.args.ctx.budget.now (value_charge codec d bs) _ g.met.C.MapCodec.plain c.in_err-merge.ensures.spends)
    (λ ne. refused_plain codec.nested codec d old bs c.args.ctx.budget.now c.in_err-merge.field-0.0 g.met.C.MapCodec.plain (c.in_err-merge.ensures.fault ne)) (λ full. (c.in_err-merge.ensures.full full).2))

pub returns-in_err-check_wire_type-clause-full : goal.returns-in_err-check_wire_type-clause-full
returns-in_err-check_wire_type-clause-full g c =
    let p = err_from_is_err_and c.from_residual.result c.from_residual.ensures.1 in
    rw (p.1, p.2) (other_not_full c.args.tag.number c.WIRE_TYPE.result c.args.tag.wire_type c.in_err-check_wire_type.field-0.0 c.in_err-check_wire_type.ensures)

pub returns-in_err-merge-clause-full : goal.returns-in_err-merge-clause-full
returns-in_err-merge-clause-full g c =
    let n = c.args.tag.number in
    let w = c.args.tag.wire_type in
    let p = err_from_is_err_and c.from_residual-in_err-merge.result c.from_residual-in_err-merge.ensures.1 in
    rw (p.1, p.2) (λ full. let same = checked_same n c.WIRE_TYPE.result w c.in_ok-check_wire_type.ensures in (
      same ∙ (c.WIRE_TYPE.ensures ∙ sym g.met.C.MapValueDecode.wire),
      c.in_err-merge.ensures.full full,
      λ nothing. let k = c.in_err-merge.ensures.empty nothing in cc,
    ))

pub returns-in_err-check_wire_type-clause-refused : goal.returns-in_err-check_wire_type-clause-refused
returns-in_err-check_wire_type-clause-refused g c =
    let codec = g.C.MapValueDecode.reading in
    let wire_is : codec.wire ≡ c.WIRE_TYPE.result = g.met.C.MapValueDecode.wire ∙ sym c.WIRE_TYPE.ensures in
    let n = c.args.tag.number in
    let p = err_from_is_err_and c.from_residual.result c.from_residual.ensures.1 in
    rw (p.1, p.2) (λ e same. let w = c.args.tag.wire_type in (
      refl,
      λ ne. wire_reported codec c.args.ctx.depth (g.C.Value.Blank.meaning c.args.value.now) n w c.args.buf.now.now e
          (ap (λ z. check_wire n z w) wire_is ∙ c.in_err-check_wire_type.ensures ∙ ap (λ x. Err x) (err_same same)),
    ))

pub returns-in_err-merge-clause-refused : goal.returns-in_err-merge-clause-refused
returns-in_err-merge-clause-refused g c =
    let codec = g.C.MapValueDecode.reading in
    let plain = g.met.C.MapCodec.plain in
    let wire_is : codec.wire ≡ c.WIRE_TYPE.result = g.met.C.MapValueDecode.wire ∙ sym c.WIRE_TYPE.ensures in
    let n = c.args.tag.number in
    let w = c.args.tag.wire_type in
    let d = c.args.ctx.depth in
    let bs = c.args.buf.now.now in
    let old = g.C.Value.Blank.meaning c.args.value.now in
    let p = err_from_is_err_and c.from_residual-in_err-merge.result c.from_residual-in_err-merge.ensures.1 in
    rw (p.1, p.2) (λ e same. let error = err_same same in (
      sym (c.in_err-merge.ensures.err plain),
      λ ne. value_reported codec d old n w bs e (ap (λ z. check_wire n z w) wire_is ∙ c.in_ok-check_wire_type.ensures)
          (refused_plain codec.nested codec d old bs c.args.ctx.budget.now c.in_err-merge.field-0.0 plain (c.in_err-merge.ensures.fault (λ full. ne (sym error ∙ full))) ∙ ap (λ x. Err x) error),
    ))
