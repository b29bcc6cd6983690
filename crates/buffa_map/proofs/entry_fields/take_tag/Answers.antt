use Rattle.std.proofs.Common.{◌≡◌, ◌*◌, ◌+◌, ◌∙◌, sym, ap}
use Rattle.buffa_bytes.specs.Number.{wire_number}
use Rattle.buffa_map.proofs.FieldsLemmas.{tag_of_byte}
use Rattle.buffa_map.proofs.entry_fields.take_tag.Goals as goal

pub returns-clause-taken : goal.returns-clause-taken
returns-clause-taken g c =
    let first = c.in_ok-byte.ensures.item.3 in
    let byte = c.in_ok-byte.field-0.now in
    let is : byte ≡ c.args.number * 8 + wire_number c.args.wire_type = sym c.from.ensures ∙ c.if-from-number.false ∙ ap (λ z. c.args.number * 8 + z) c.number.ensures in
    rw (c.new.ensures.number, c.new.ensures.wire_type, c.advance.ensures.rest) (tag_of_byte _ _ _ _ _ _ c.chunk.ensures first.0 (first.1 0) is c.requires)
