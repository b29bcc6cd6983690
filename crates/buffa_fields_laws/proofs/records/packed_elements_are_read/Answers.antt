use Rattle.std.proofs.Common.{ap, arith, length-append, ◌∙◌}
use Rattle.buffa_bytes.proofs.PayloadValueLemmas.{has_byte}
use Rattle.buffa_fields_laws.proofs.RecordLemmas.{broken_is_not_packed, more_are_packed, none_are_packed, value_before}
use Rattle.buffa_fields_laws.proofs.records.packed_elements_are_read.Goals as goal

pub returns-clause-none : goal.returns-clause-none
returns-clause-none g k = λ d n vs t h. none_are_packed g.C.MapValueDecode.reading d g.met.C.Packable.differs_only n vs t h

pub returns-clause-more : goal.returns-clause-more
returns-clause-more g k = λ d n vs t s p b c x known has reads h j.
    let codec = g.C.MapValueDecode.reading in
    let start = ap (λ z. codec.reads d z c) g.met.C.MapValueDecode.blank in
    more_are_packed codec d g.met.C.Packable.differs_only n vs t s p b (x, known) (omega (arith, has_byte g.C.MapValueDecode.WIRE_TYPE p c has, length-append p b))
    (value_before g.C.MapValueDecode.reading g.met.C.MapCodec.plain g.C.MapValueDecode.WIRE_TYPE g.met.C.MapValueDecode.wire d n p c has codec.blank (x, known) (start ∙ reads) b) h j

pub returns-clause-refused : goal.returns-clause-refused
returns-clause-refused g k = λ d n vs t b e some bad h. broken_is_not_packed g.C.MapValueDecode.reading d g.met.C.Packable.differs_only n vs t b e some bad h
