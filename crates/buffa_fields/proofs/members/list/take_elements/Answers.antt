use Rattle.std.proofs.Common.{◌≡◌, ◌∙◌, inl, inr, Err, IsOk, ap, map, refl, sym}
use Rattle.buffa_bytes.specs.PayloadValue.{payload_value_at}
use Rattle.buffa_bytes.specs.declared.wire_type.WireType.TheVariants.{LengthDelimited}
use Rattle.buffa_bytes.specs.Readings.{check_wire}
use Rattle.buffa_bytes.proofs.WireLemmas.{checked_same, checked_other, other_not_full}
use Rattle.buffa_fields.proofs.ListLemmas.{element_refused, element_taken, neither_err, neither_refused, other_wire, own_wire, packed_refused, packed_taken, packed_wire}
use Rattle.buffa_fields.specs.Lists.{ElementsTakeMemory, PackedTakeMemory}
use Rattle.buffa_bytes.proofs.SequenceLemmas.{err_same}
use Rattle.buffa_wire.specs.BudgetLeft.{nothing}
use Rattle.buffa_wire.proofs.TakesLemmas.{full_weaker}
use Rattle.buffa_fields.proofs.members.list.take_elements.Goals as goal

pub returns-in-Ok-clause-taken : goal.returns-in-Ok-clause-taken
returns-in-Ok-clause-taken g c = λ left.
    let codec = g.C.MapValueDecode.reading in
    let wire_is : codec.wire ≡ c.WIRE_TYPE.result = g.met.C.MapValueDecode.wire ∙ sym c.WIRE_TYPE.ensures in
    let n = c.args.tag.number in
    let w = c.args.tag.wire_type in
    let same = checked_same n c.WIRE_TYPE.result w c.in-Ok.ensures in
    element_taken codec g.met.C.MapCodec.plain g.met.C.MapValueDecode.no_limit c.args.depth (map g.C.Value.Blank.meaning c.args.values.now.items) n w c.args.buf.now.now left c.take_element.result (map g.C.Value.Blank.meaning c.take_element.new.values.items) c.take_element.new.buf.now (same ∙ sym wire_is) c.take_element.ensures.reads c.take_element.ensures.full

pub returns-in-Ok-check_wire_type-clause-taken : goal.returns-in-Ok-check_wire_type-clause-taken
returns-in-Ok-check_wire_type-clause-taken g c = λ left.
    let codec = g.C.MapValueDecode.reading in
    let wire_is : codec.wire ≡ c.WIRE_TYPE.result = g.met.C.MapValueDecode.wire ∙ sym c.WIRE_TYPE.ensures in
    let n = c.args.tag.number in
    let w = c.args.tag.wire_type in
    let bad = checked_other n c.WIRE_TYPE.result w c.in-Err.error c.in-Err.ensures in
    let held = checked_same n LengthDelimited w c.in-Ok-check_wire_type.ensures in
    packed_taken codec g.met.C.MapCodec.plain g.met.C.MapValueDecode.no_limit c.args.depth (map g.C.Value.Blank.meaning c.args.values.now.items) n w c.args.buf.now.now left c.take_packed.result (map g.C.Value.Blank.meaning c.take_packed.new.values.items) c.take_packed.new.buf.now (λ h. bad.0 (h ∙ wire_is)) held c.take_packed.ensures.taken

pub returns-in-Err-check_wire_type-clause-taken : goal.returns-in-Err-check_wire_type-clause-taken
returns-in-Err-check_wire_type-clause-taken g c = λ left.
    let codec = g.C.MapValueDecode.reading in
    let wire_is : codec.wire ≡ c.WIRE_TYPE.result = g.met.C.MapValueDecode.wire ∙ sym c.WIRE_TYPE.ensures in
    let n = c.args.tag.number in
    let w = c.args.tag.wire_type in
    let other = checked_other n LengthDelimited w c.in-Err-check_wire_type.field-0 c.in-Err-check_wire_type.ensures in
    neither_err codec g.met.C.MapCodec.plain g.met.C.MapValueDecode.no_limit c.args.depth (map g.C.Value.Blank.meaning c.args.values.now.items) n w c.args.buf.now.now left c.in-Err.error (ap (λ z. check_wire n z w) wire_is ∙ c.in-Err.ensures) other.0

pub returns-in-Ok-clause-full : goal.returns-in-Ok-clause-full
returns-in-Ok-clause-full g c =
    let codec = g.C.MapValueDecode.reading in
    let n = c.args.tag.number in
    let w = c.args.tag.wire_type in
    let bs = c.args.buf.now.now in
    let same = checked_same n c.WIRE_TYPE.result w c.in-Ok.ensures in
    full_weaker (IsOk (payload_value_at codec.wire bs)) (ElementsTakeMemory codec c.args.depth n w bs) c.take_element.result c.take_element.ensures.full
    (λ whole. inl (same ∙ (c.WIRE_TYPE.ensures ∙ sym g.met.C.MapValueDecode.wire), whole))

pub returns-in-Ok-check_wire_type-clause-full : goal.returns-in-Ok-check_wire_type-clause-full
returns-in-Ok-check_wire_type-clause-full g c =
    let codec = g.C.MapValueDecode.reading in
    let n = c.args.tag.number in
    let w = c.args.tag.wire_type in
    let bs = c.args.buf.now.now in
    let held = checked_same n LengthDelimited w c.in-Ok-check_wire_type.ensures in
    full_weaker (PackedTakeMemory codec bs) (ElementsTakeMemory codec c.args.depth n w bs) c.take_packed.result c.take_packed.ensures.full (λ packed. inr (held, packed))

pub returns-in-Err-check_wire_type-clause-full : goal.returns-in-Err-check_wire_type-clause-full
returns-in-Err-check_wire_type-clause-full g c = other_not_full c.args.tag.number c.WIRE_TYPE.result c.args.tag.wire_type c.in-Err.error c.in-Err.ensures

pub returns-in-Ok-clause-wire : goal.returns-in-Ok-clause-wire
returns-in-Ok-clause-wire g c = λ e reported.
    let n = c.args.tag.number in
    let w = c.args.tag.wire_type in
    absurd (own_wire n g.C.MapValueDecode.WIRE_TYPE w e reported (ap (λ z. check_wire n z w) (sym c.WIRE_TYPE.ensures) ∙ c.in-Ok.ensures))

pub returns-in-Ok-check_wire_type-clause-wire : goal.returns-in-Ok-check_wire_type-clause-wire
returns-in-Ok-check_wire_type-clause-wire g c = λ e reported.
    let n = c.args.tag.number in
    let w = c.args.tag.wire_type in
    absurd (packed_wire n g.C.MapValueDecode.WIRE_TYPE w e reported (checked_same n LengthDelimited w c.in-Ok-check_wire_type.ensures))

pub returns-in-Err-check_wire_type-clause-wire : goal.returns-in-Err-check_wire_type-clause-wire
returns-in-Err-check_wire_type-clause-wire g c = λ e reported.
    let n = c.args.tag.number in
    let w = c.args.tag.wire_type in
    let other = checked_other n LengthDelimited w c.in-Err-check_wire_type.field-0 c.in-Err-check_wire_type.ensures in
    (sym c.in-Err.ensures ∙ (ap (λ z. check_wire n z w) c.WIRE_TYPE.ensures ∙ other_wire n g.C.MapValueDecode.WIRE_TYPE w e reported other.0), refl, refl)

pub returns-in-Ok-clause-refused : goal.returns-in-Ok-clause-refused
returns-in-Ok-clause-refused g c = λ e bad.
    let m = g.C.Value.Blank.meaning in
    let codec = g.C.MapValueDecode.reading in
    let wire_is : codec.wire ≡ c.WIRE_TYPE.result = g.met.C.MapValueDecode.wire ∙ sym c.WIRE_TYPE.ensures in
    let n = c.args.tag.number in
    let w = c.args.tag.wire_type in
    let same = checked_same n c.WIRE_TYPE.result w c.in-Ok.ensures in
    element_refused codec g.met.C.MapCodec.plain g.met.C.MapValueDecode.no_limit c.args.depth (map m c.args.values.now.items) n w c.args.buf.now.now nothing c.take_element.result (map m c.take_element.new.values.items) c.take_element.new.buf.now e bad
    (same ∙ sym wire_is) (ap (λ z. check_wire n z w) wire_is ∙ c.in-Ok.ensures) c.take_element.ensures.stays c.take_element.ensures.reads

pub returns-in-Ok-check_wire_type-clause-refused : goal.returns-in-Ok-check_wire_type-clause-refused
returns-in-Ok-check_wire_type-clause-refused g c = λ e bad.
    let m = g.C.Value.Blank.meaning in
    let codec = g.C.MapValueDecode.reading in
    let wire_is : codec.wire ≡ c.WIRE_TYPE.result = g.met.C.MapValueDecode.wire ∙ sym c.WIRE_TYPE.ensures in
    let n = c.args.tag.number in
    let w = c.args.tag.wire_type in
    let off = checked_other n c.WIRE_TYPE.result w c.in-Err.error c.in-Err.ensures in
    let held = checked_same n LengthDelimited w c.in-Ok-check_wire_type.ensures in
    packed_refused codec g.met.C.MapCodec.plain g.met.C.MapValueDecode.no_limit c.args.depth (map m c.args.values.now.items) n w c.args.buf.now.now nothing c.take_packed.result (map m c.take_packed.new.values.items) e bad
    (λ h. off.0 (h ∙ wire_is)) held c.take_packed.ensures.refused

pub returns-in-Err-check_wire_type-clause-refused : goal.returns-in-Err-check_wire_type-clause-refused
returns-in-Err-check_wire_type-clause-refused g c = λ e same.
    let codec = g.C.MapValueDecode.reading in
    let wire_is : codec.wire ≡ c.WIRE_TYPE.result = g.met.C.MapValueDecode.wire ∙ sym c.WIRE_TYPE.ensures in
    let n = c.args.tag.number in
    let w = c.args.tag.wire_type in
    let other = checked_other n LengthDelimited w c.in-Err-check_wire_type.field-0 c.in-Err-check_wire_type.ensures in
    neither_refused codec g.met.C.MapCodec.plain g.met.C.MapValueDecode.no_limit c.args.depth (map g.C.Value.Blank.meaning c.args.values.now.items) n w c.args.buf.now.now nothing e other.0
    (ap (λ z. check_wire n z w) wire_is ∙ c.in-Err.ensures ∙ ap (λ z. Err z) (err_same same))
