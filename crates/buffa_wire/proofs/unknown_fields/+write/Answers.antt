use Rattle.std.proofs.Common.{◌≡◌, ◌++◌, ◌∙◌, ap, arith, false, is_err, length, refl, subst, sym, true, rules}
use Rattle.buffa_bytes.specs.Values.{tag_encoding}
use Rattle.buffa_bytes.specs.Varint.{varint_encoding}
use Rattle.buffa_bytes.specs.declared.wire_type.WireType.TheVariants.{EndGroup, StartGroup}
use Rattle.buffa_bytes.specs.Written.{WritesFront}
use Rattle.buffa_bytes.proofs.SinkLemmas.{front_first, front_second}
use Rattle.buffa_wire.specs.Records.{Held}
use Rattle.buffa_wire.specs.Encoding.{tagged_encoding, records_encoding}
use Rattle.buffa_wire.specs.RecordsOfValues.{field_data_of, record_of, records_in}
use Rattle.buffa_wire.proofs.ByValueLemmas.{length_more, length_parts, write_more, write_stops}
use Rattle.buffa_wire.proofs.EncodingLemmas.{records_by_value, err_front, ok_whole, room_no, room_yes, reported_no, reported_yes}
use Rattle.buffa_wire.proofs.unknown_fields.+write.Goals as goal

pub UnknownFields::write_to-loop-field-preserved : goal.UnknownFields::write_to-loop-field-preserved
UnknownFields::write_to-loop-field-preserved g t c =
    let xs = c.deref-field-items.result.now in
    let i = c.loop-field.field-index in
    let yes : c.write_field.result ≡ true = search (rules, c.if-not-write_field.false) in
    record {
      written = write_more records_by_value record_of xs i c.field-item.result c.loop-field-test.true c.field-item.is (g.S.EncodeSink.written c.args.sink.now) (g.S.EncodeSink.written c.loop-field.sink) (g.S.EncodeSink.written c.write_field.new.sink) c.loop-field.invariant.written (reported_yes _ yes (g.S.EncodeSink.written c.loop-field.sink) (tagged_encoding c.field-item.result.number (field_data_of c.field-item.result.payload)) (g.S.EncodeSink.written c.write_field.new.sink) c.write_field.ensures.writes);
      room = omega (arith, room_yes _ yes (g.S.EncodeSink.room c.loop-field.sink) (g.S.EncodeSink.room c.write_field.new.sink) (tagged_encoding c.field-item.result.number (field_data_of c.field-item.result.payload)) c.write_field.ensures.room, c.loop-field.invariant.room, length_more records_by_value record_of xs i c.field-item.result c.loop-field-test.true c.field-item.is);
    }

pub UnknownFields::write_to-returns-then-not-write_field-clause-writes : goal.UnknownFields::write_to-returns-then-not-write_field-clause-writes
UnknownFields::write_to-returns-then-not-write_field-clause-writes g t c =
    let no : c.write_field.result ≡ false = search (rules, c.if-not-write_field.true) in
    let all = ap records_in c.deref-field-items.ensures.value ∙ ap (λ (h : Held). h.records) c.self.view_is in
    (refl, subst (λ z. WritesFront (g.S.EncodeSink.written c.args.sink.now) (records_encoding z) (g.S.EncodeSink.written c.write_field.new.sink)) all (write_stops records_by_value record_of c.deref-field-items.result.now c.loop-field.field-index c.field-item.result c.loop-field-test.true c.field-item.is (g.S.EncodeSink.written c.args.sink.now) (g.S.EncodeSink.written c.loop-field.sink) (g.S.EncodeSink.written c.write_field.new.sink) c.loop-field.invariant.written (reported_no _ no (g.S.EncodeSink.written c.loop-field.sink) (tagged_encoding c.field-item.result.number (field_data_of c.field-item.result.payload)) (g.S.EncodeSink.written c.write_field.new.sink) c.write_field.ensures.writes)))

pub UnknownFields::write_to-returns-then-not-write_field-clause-room : goal.UnknownFields::write_to-returns-then-not-write_field-clause-room
UnknownFields::write_to-returns-then-not-write_field-clause-room g t c =
    let no : c.write_field.result ≡ false = search (rules, c.if-not-write_field.true) in
    let all = ap records_in c.deref-field-items.ensures.value ∙ ap (λ (h : Held). h.records) c.self.view_is in
    omega (arith, room_no _ no (g.S.EncodeSink.room c.loop-field.sink) (g.S.EncodeSink.room c.write_field.new.sink) (tagged_encoding c.field-item.result.number (field_data_of c.field-item.result.payload)) c.write_field.ensures.room, c.loop-field.invariant.room, length_parts records_by_value record_of c.deref-field-items.result.now c.loop-field.field-index c.field-item.result c.loop-field-test.true c.field-item.is, ap (λ z. length (records_encoding z)) all)

pub write::write_group-returns-then-is_err-2-clause-writes : goal.write::write_group-returns-then-is_err-2-clause-writes
write::write_group-returns-then-is_err-2-clause-writes g t c =
    let no : is_err c.encode_varint.result ≡ false = sym c.is_err.ensures.value ∙ c.if-is_err.false in
    let yes : is_err c.write_to.result ≡ true = sym c.is_err-2.ensures.value ∙ c.if-is_err-2.true in
    let w = g.S.EncodeSink.written in
    let start = tag_encoding c.args.number StartGroup in
    let end = tag_encoding c.args.number EndGroup in
    let inner = records_encoding c.args.group.now.records in
    let begun = ok_whole c.encode_varint.result no (w c.args.sink.now) (varint_encoding c.tag_value.result) (w c.encode_varint.new.sink) c.encode_varint.ensures.writes ∙ ap (λ z. w c.args.sink.now ++ varint_encoding z) c.tag_value.ensures in (
      refl,
      front_second (w c.args.sink.now) start (inner ++ end) (w c.encode_varint.new.sink) (w c.write_to.new.sink) begun
          (front_first (w c.encode_varint.new.sink) inner end (w c.write_to.new.sink) (err_front c.write_to.result yes (w c.encode_varint.new.sink) inner (w c.write_to.new.sink) c.write_to.ensures.writes)),
    )
