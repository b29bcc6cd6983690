use Rattle.std.proofs.Common.{ap, ◌∙◌}
use Rattle.buffa_fields_laws.proofs.RecordLemmas.{element_is_appended, element_is_refused, elements_are_appended}
use Rattle.buffa_fields_laws.proofs.records.elements_are_appended.Goals as goal

pub returns-clause-one : goal.returns-clause-one
returns-clause-one g k = λ d n vs p c x known has reads.
    let start = ap (λ z. g.C.MapValueDecode.reading.reads d z c) g.met.C.MapValueDecode.blank in
    element_is_appended g.C.MapValueDecode.reading g.met.C.MapCodec.plain g.C.MapValueDecode.WIRE_TYPE g.met.C.MapValueDecode.wire d n p c has vs (x, known) (start ∙ reads)

pub returns-clause-refused : goal.returns-clause-refused
returns-clause-refused g k = λ d n vs p c e has reads.
    let start = ap (λ z. g.C.MapValueDecode.reading.reads d z c) g.met.C.MapValueDecode.blank in
    element_is_refused g.C.MapValueDecode.reading g.met.C.MapCodec.plain g.C.MapValueDecode.WIRE_TYPE g.met.C.MapValueDecode.wire d n p c has vs e (start ∙ reads)

pub returns-clause-behind : goal.returns-clause-behind
returns-clause-behind g k = λ d n vs w p. elements_are_appended g.C.MapValueDecode.reading d n vs w p
