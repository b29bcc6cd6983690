use Rattle.std.proofs.Common.{length, ap, ◌∙◌, arith}
use Rattle.buffa_wire.specs.Records.{Held}
use Rattle.buffa_wire.specs.Encoding.{records_encoding}
use Rattle.buffa_wire.specs.RecordsOfValues.{record_of, records_in}
use Rattle.buffa_wire.proofs.ByValueLemmas.{length_more, length_parts}
use Rattle.buffa_wire.proofs.EncodingLemmas.{records_by_value}
use Rattle.buffa_wire.proofs.unknown_fields.+size.Goals as goal

pub UnknownFields::encoded_len-loop-field-preserved : goal.UnknownFields::encoded_len-loop-field-preserved
UnknownFields::encoded_len-loop-field-preserved t c =
    omega (
      arith,
      c.in-Some.ensures.0,
      c.in-Some.ensures.1,
      c.loop-field.invariant,
      c.field_len-len.ensures,
      length_more records_by_value record_of c.deref-field-items.result.now c.loop-field.field-index c.field-item.result c.loop-field-test.true c.field-item.is,
    )

pub UnknownFields::encoded_len-returns-in_default : goal.UnknownFields::encoded_len-returns-in_default
UnknownFields::encoded_len-returns-in_default t c =
    let all = ap records_in c.deref-field-items.ensures.value ∙ ap (λ (h : Held). h.records) c.self.view_is in
    omega (
      arith,
      c.in_default.ensures,
      c.loop-field.invariant,
      c.field_len-len.ensures,
      ap (λ z. length (records_encoding z)) all,
      length_parts records_by_value record_of c.deref-field-items.result.now c.loop-field.field-index c.field-item.result c.loop-field-test.true c.field-item.is,
    )
