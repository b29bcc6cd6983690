-- Slots, consumed in order, are the lengths in the encoding of a map field of messages.
use Rattle.std.proofs.Common.{◌≡◌, ℕ, ◌+◌, List, [], ◌∷◌, ◌++◌, length, refl, sym, ap, ◌∙◌, arith, append_assoc, length-append}
use Rattle.buffa_bytes.specs.declared.wire_type.WireType.TheVariants.{LengthDelimited}
use Rattle.buffa_wire.specs.Passes.{IsSmall, cap}
use Rattle.buffa_bytes.specs.Values.{tag_encoding}
use Rattle.buffa_bytes.specs.Varint.{varint_encoding}
use Rattle.buffa_map.specs.Codec.{Writing}
use Rattle.buffa_map.specs.MessageField.{entry_size, field_slots}
use Rattle.buffa_map.specs.Scalars.{delimited_writing}
use Rattle.buffa_map.specs.Encoding.{entry_encoding, field_encoding, record_encoding}
use Rattle.buffa_map.proofs.SizeLemmas.{length-entry_encoding}
use Rattle.buffa.specs.Slots.{AreSmall, WrittenBySlots, record_by}

module _ {K M : Type 0} (key : Writing K) (encoding slots : M → List ℕ) (n : ℕ) where
  same_size : (p : K × M) → length (entry_encoding key (delimited_writing encoding) p) ≡ entry_size key p.0 (length (encoding p.1))
  same_size p = length-entry_encoding key (delimited_writing encoding) p ∙ ap (λ (m : ℕ). 2 + (length (key.encoding p.0) + m)) (length-append (varint_encoding (length (encoding p.1))) (encoding p.1))

  -- the record with the length of the message is the pair's record
  same_record : (p : K × M) → record_encoding key (delimited_writing encoding) n p ≡ record_by key encoding slots n p (length (encoding p.1))
  same_record p =
      let tag = tag_encoding n LengthDelimited in
      let first = tag_encoding 1 key.wire ++ key.encoding p.0 in
      let second = tag_encoding 2 LengthDelimited in
      let len = varint_encoding (length (encoding p.1)) in
      let whole = entry_encoding key (delimited_writing encoding) p in
      let split : whole ≡ (first ++ (second ++ len)) ++ encoding p.1 =
      sym (append_assoc first (second ++ len) (encoding p.1) ∙ ap (λ z. first ++ z) (append_assoc second len (encoding p.1))) in
      sym (append_assoc tag (varint_encoding (length whole)) whole)
      ∙ (λ i. (tag ++ varint_encoding (same_size p i)) ++ split i)

  semantics : (p : K × M) → IsSmall (encoding p.1) → cap (length (encoding p.1)) ≡ length (encoding p.1)
  semantics p h = omega (arith, h)

  pub slots_are_lengths : (l : List (K × M)) (rest : List ℕ) → AreSmall encoding l →
      WrittenBySlots key encoding slots n l (field_slots encoding slots l ++ rest) (field_encoding key (delimited_writing encoding) n l) rest
  slots_are_lengths [] rest h = (refl, refl)
  slots_are_lengths (p ∷ ps) rest h = (
    length (encoding p.1),
    field_slots encoding slots ps ++ rest,
    field_encoding key (delimited_writing encoding) n ps,
    refl,
    ap (λ m. m ∷ (slots p.1 ++ field_slots encoding slots ps) ++ rest) (semantics p h.0) ∙ ap (λ z. length (encoding p.1) ∷ z) (append_assoc (slots p.1) (field_slots encoding slots ps) rest),
    ap (λ z. z ++ field_encoding key (delimited_writing encoding) n ps) (same_record p),
    slots_are_lengths ps rest h.1,
  )
