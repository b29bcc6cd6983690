-- The encoding of an Item.
use Rattle.std.proofs.Common.{◌≡◌, ℕ, ◌<◌, List, [], ◌∷◌, ◌++◌, length, arith, ap, refl, sym, ◌∙◌, append_assoc, length-append}
use Rattle.buffa_bytes.specs.Values.{delimited_encoding, tag_encoding}
use Rattle.buffa_bytes.specs.Varint.{varint_encoding}
use Rattle.buffa_bytes.specs.declared.wire_type.WireType.TheVariants.{Varint, LengthDelimited, StartGroup, EndGroup}
use Rattle.buffa_bytes.proofs.ShortestLemmas.{varint_encoding-last}
use Rattle.buffa_message_set.specs.Item.{body_encoding, item_head, item_size, item_encoding}

pub length-item_encoding : (id : ℕ) (msg : List ℕ) → length (item_encoding id msg) ≡ item_size id (length msg)
length-item_encoding id msg =
    omega (
      arith,
      ap length (varint_encoding-last 11 (omega arith)),
      ap length (varint_encoding-last 16 (omega arith)),
      ap length (varint_encoding-last 26 (omega arith)),
      ap length (varint_encoding-last 12 (omega arith)),
      length-append (tag_encoding 1 StartGroup) (body_encoding id msg),
      length-append (tag_encoding 2 Varint) (varint_encoding id ++ (tag_encoding 3 LengthDelimited ++ (delimited_encoding msg ++ tag_encoding 1 EndGroup))),
      length-append (varint_encoding id) (tag_encoding 3 LengthDelimited ++ (delimited_encoding msg ++ tag_encoding 1 EndGroup)),
      length-append (tag_encoding 3 LengthDelimited) (delimited_encoding msg ++ tag_encoding 1 EndGroup),
      length-append (delimited_encoding msg) (tag_encoding 1 EndGroup),
      length-append (varint_encoding (length msg)) msg,
    )

parts_joined : (a b c d e f g : List ℕ) → (a ++ (b ++ (c ++ (d ++ e)))) ++ (f ++ g) ≡ a ++ (b ++ (c ++ (d ++ ((e ++ f) ++ g))))
parts_joined a b c d e f g =
    append_assoc a (b ++ (c ++ (d ++ e))) (f ++ g) ∙ ap (λ z. a ++ z) (append_assoc b (c ++ (d ++ e)) (f ++ g)
    ∙ ap (λ z. b ++ z) (append_assoc c (d ++ e) (f ++ g) ∙ ap (λ z. c ++ z) (append_assoc d e (f ++ g) ∙ ap (λ z. d ++ z) (sym (append_assoc e f g)))))

-- the start tag and the tag of the type id, before what follows them
pub two_tags : (rest : List ℕ) → 11 ∷ 16 ∷ rest ≡ tag_encoding 1 StartGroup ++ (tag_encoding 2 Varint ++ rest)
two_tags rest = rw (varint_encoding-last 11 (omega arith), varint_encoding-last 16 (omega arith)) refl

-- what stands before the message's bytes, where its type id and its length are short
pub short_head : (id len : ℕ) (bytes : List ℕ) → bytes ≡ varint_encoding id → len < 128 →
    11 ∷ 16 ∷ (bytes ++ (26 ∷ len ∷ [])) ≡ item_head id len
short_head id len bytes e h =
    rw (varint_encoding-last 11 (omega arith), varint_encoding-last 16 (omega arith), varint_encoding-last 26 (omega arith), varint_encoding-last len h, e) refl

-- and with the message's bytes and the end tag behind it
pub head_then : (id : ℕ) (msg : List ℕ) → item_head id (length msg) ++ (msg ++ tag_encoding 1 EndGroup) ≡ item_encoding id msg
head_then id msg = parts_joined (tag_encoding 1 StartGroup) (tag_encoding 2 Varint) (varint_encoding id) (tag_encoding 3 LengthDelimited) (varint_encoding (length msg)) msg (tag_encoding 1 EndGroup)
