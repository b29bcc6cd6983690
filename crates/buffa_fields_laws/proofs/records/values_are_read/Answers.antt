use Rattle.std.proofs.Common.{Some, ap, refl, ◌∙◌}
use Rattle.std.specs.Option.{option_map}
use Rattle.buffa_bytes.proofs.FieldLemmas.{same_false}
use Rattle.buffa_fields_laws.proofs.RecordLemmas.{value_is_refused, value_is_taken}
use Rattle.buffa_fields_laws.proofs.records.values_are_read.Goals as goal

pub returns-clause-plain : goal.returns-clause-plain
returns-clause-plain g k = λ d n v x p c known has reads. value_is_taken g.C.MapValueDecode.reading g.met.C.MapCodec.plain g.C.MapValueDecode.WIRE_TYPE g.met.C.MapValueDecode.wire d n p c has v (x, known) reads

pub returns-clause-optional : goal.returns-clause-optional
returns-clause-optional g k = λ d n v x p c known has reads.
    let codec = g.C.MapValueDecode.reading in
    let start = ap (λ z. codec.reads d z c) g.met.C.MapValueDecode.blank in
    ap (option_map (λ x. Some x)) (value_is_taken g.C.MapValueDecode.reading g.met.C.MapCodec.plain g.C.MapValueDecode.WIRE_TYPE g.met.C.MapValueDecode.wire d n p c has codec.blank (x, known) (start ∙ reads))

pub returns-clause-refused : goal.returns-clause-refused
returns-clause-refused g k = λ d n v p c e has reads. value_is_refused g.C.MapValueDecode.reading g.met.C.MapCodec.plain g.C.MapValueDecode.WIRE_TYPE g.met.C.MapValueDecode.wire d n p c has v e reads

pub returns-clause-optional_refused : goal.returns-clause-optional_refused
returns-clause-optional_refused g k = λ d n v p c e has reads.
    let codec = g.C.MapValueDecode.reading in
    let start = ap (λ z. codec.reads d z c) g.met.C.MapValueDecode.blank in
    ap (option_map (λ x. Some x)) (value_is_refused g.C.MapValueDecode.reading g.met.C.MapCodec.plain g.C.MapValueDecode.WIRE_TYPE g.met.C.MapValueDecode.wire d n p c has codec.blank e (start ∙ reads))

pub returns-clause-others : goal.returns-clause-others
returns-clause-others g k = λ d n v o w p other.
    let codec = g.C.MapValueDecode.reading in
    let off = same_false codec.wire w (λ same. other (same ∙ g.met.C.MapValueDecode.wire)) in
    (rw off refl, rw off refl)
