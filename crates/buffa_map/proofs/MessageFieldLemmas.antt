-- A map field of messages, pair by pair.
use Rattle.std.proofs.Common.{◌≡◌, ℕ, ◌+◌, ◌^◌, ◌<◌, ◌≤◌, List, [], ◌∷◌, ◌++◌, length, inl, inr, refl, sym, ap, subst, ◌∙◌, arith, append_assoc, length-append, Result, Err}
use Rattle.std.proofs.lemmas.Bool.{cases_lt}
use Rattle.std.proofs.lemmas.List.Elements.{Contains-append_right}
use Rattle.std.specs.List.{Contains}
use Rattle.std.specs.Map.{values_of}
use Rattle.buffa_bytes.specs.declared.wire_type.WireType.TheVariants.{LengthDelimited}
use Rattle.buffa_bytes.proofs.SinkLemmas.{room_first, room_then}
use Rattle.buffa_bytes.specs.Written.{UsesRoom, WritesFront}
use Rattle.buffa_bytes.specs.declared.error.EncodeError.{EncodeError}
use Rattle.buffa_bytes.specs.declared.error.EncodeError.TheVariants.{OutOfMemory}
use Rattle.buffa_wire.specs.Cache.{Cache, advanced}
use Rattle.buffa_wire.specs.Passes.{IsSmall, IsWritten, cap}
use Rattle.buffa_wire.proofs.PassLemmas.{written_behind, written_put, written_same, written_then}
use Rattle.buffa_wire.specs.Pinned.{done, refusal}
use Rattle.buffa_bytes.specs.Values.{tag_encoding}
use Rattle.buffa_bytes.specs.Varint.{varint_encoding}
use Rattle.buffa_map.specs.Codec.{Writing}
use Rattle.buffa_map.specs.MessageField.{IsRecordWritten, IsSmallField, IsSmallPair, UsesRecordRoom, entry_size, head_encoding}
use Rattle.buffa_map.specs.Scalars.{delimited_writing}
use Rattle.buffa_map.specs.Encoding.{entry_encoding, field_size, record_encoding, saturated}
use Rattle.buffa_map.proofs.SizeLemmas.{length-entry_encoding}

module _ {K M : Type 0} (key : Writing K) (encoding : M → List ℕ) (p : K × M) (inner : ℕ) (is : inner ≡ cap (length (encoding p.1))) where
  abbrev whole : List ℕ
  whole = entry_encoding key (delimited_writing encoding) p

  abbrev sized : ℕ
  sized = entry_size key p.0 inner

  length_whole : length whole ≡ 2 + (length (key.encoding p.0) + (length (varint_encoding (length (encoding p.1))) + length (encoding p.1)))
  length_whole = length-entry_encoding key (delimited_writing encoding) p ∙ ap (λ (n : ℕ). 2 + (length (key.encoding p.0) + n)) (length-append (varint_encoding (length (encoding p.1))) (encoding p.1))

  -- the length that was told is the length
  reported : length (encoding p.1) < 2 ^ 32 → inner ≡ length (encoding p.1)
  reported h = omega (arith, is)

  same_size : length (encoding p.1) < 2 ^ 32 → sized ≡ length whole
  same_size h = ap (λ (n : ℕ). entry_size key p.0 n) (reported h) ∙ sym length_whole

  same_len : length (encoding p.1) < 2 ^ 32 → length whole < 2 ^ 64 → saturated sized ≡ length whole
  same_len h k = omega (arith, same_size h)

  module _ (t total rest added next : ℕ) (recorded : added ≡ saturated (t + (length (varint_encoding (saturated sized)) + sized))) (summed : next ≡ saturated (total + added)) where
    exact : length (encoding p.1) < 2 ^ 32 → length whole < 2 ^ 64 → saturated (next + rest) ≡ saturated (total + (t + (length (varint_encoding (length whole)) + length whole) + rest))
    exact h k = omega (arith, recorded, summed, same_size h, ap (λ (n : ℕ). length (varint_encoding n)) (same_len h k))

    at_large : 2 ^ 32 ≤ length (encoding p.1) → cap (next + rest) ≡ cap (total + (t + (length (varint_encoding (length whole)) + length whole) + rest))
    at_large h = omega (arith, recorded, summed, is, length_whole)

    at_long : 2 ^ 64 ≤ length whole → length (encoding p.1) < 2 ^ 32 → cap (next + rest) ≡ cap (total + (t + (length (varint_encoding (length whole)) + length whole) + rest))
    at_long k h = omega (arith, recorded, summed, same_size h)

    pub size_capped : cap (next + rest) ≡ cap (total + (t + (length (varint_encoding (length whole)) + length whole) + rest))
    size_capped = elim (cases_lt (length (encoding p.1)) (2 ^ 32)) [
      | inl h ↦ elim (cases_lt (length whole) (2 ^ 64)) [ inl k ↦ omega (arith, exact h k) | inr k ↦ at_long (omega (arith, k)) h ]
      | inr h ↦ at_large (omega (arith, h))
    ]

    pub size_exact : IsSmall (encoding p.1) → length whole < 2 ^ 64 → saturated (next + rest) ≡ saturated (total + (t + (length (varint_encoding (length whole)) + length whole) + rest))
    size_exact h k = exact (omega (arith, h)) k

  -- the head, and then the message's encoding, are the record
  pub head_then : (n : ℕ) → IsSmall (encoding p.1) → length whole < 2 ^ 64 → head_encoding key n p.0 inner ++ encoding p.1 ≡ record_encoding key (delimited_writing encoding) n p
  head_then n h k =
      let tag = tag_encoding n LengthDelimited in
      let first = tag_encoding 1 key.wire ++ key.encoding p.0 in
      let second = tag_encoding 2 LengthDelimited in
      let len = varint_encoding (length (encoding p.1)) in
      let a : head_encoding key n p.0 inner ≡ (tag ++ varint_encoding (length whole)) ++ (first ++ (second ++ len)) =
      (λ i. (tag ++ varint_encoding (same_len (omega (arith, h)) k i)) ++ (first ++ (second ++ varint_encoding (reported (omega (arith, h)) i)))) in
      let b : (first ++ (second ++ len)) ++ encoding p.1 ≡ whole = append_assoc first (second ++ len) (encoding p.1) ∙ ap (λ z. first ++ z) (append_assoc second len (encoding p.1)) in
      ap (λ z. z ++ encoding p.1) a ∙ append_assoc (tag ++ varint_encoding (length whole)) (first ++ (second ++ len)) (encoding p.1) ∙ ap (λ z. (tag ++ varint_encoding (length whole)) ++ z) b ∙ append_assoc tag (varint_encoding (length whole)) whole

-- the value after the first pairs is among the values
module _ {K X : Type 0} (p : K × X) (rest : List (K × X)) where
  here_at : (done : List (K × X)) → Contains (values_of (done ++ p ∷ rest)) p.1
  here_at [] = (0, omega arith, refl)
  here_at (d ∷ done) = Contains-append_right (d.1 ∷ []) (values_of (done ++ p ∷ rest)) p.1 (here_at done)

  pub here : (es done : List (K × X)) → es ≡ done ++ p ∷ rest → Contains (values_of es) p.1
  here es done e = subst (λ (xs : List (K × X)). Contains (values_of xs) p.1) (sym e) (here_at done)

  pub onward : (es done : List (K × X)) → es ≡ done ++ p ∷ rest → (more : List (K × X)) × (es ≡ more ++ rest)
  onward es done e = (done ++ p ∷ [], e ∙ sym (append_assoc done (p ∷ []) rest))

-- a pair of small ones is small
module _ {K M : Type 0} (key : Writing K) (encoding : M → List ℕ) where
  small_in : (done : List (K × M)) (p : K × M) (rest : List (K × M)) → IsSmallField key encoding (done ++ p ∷ rest) → IsSmallPair key encoding p
  small_in [] p rest s = s.0
  small_in (q ∷ done) p rest s = small_in done p rest s.1

  pub small_at : (all done : List (K × M)) (p : K × M) (rest : List (K × M)) → all ≡ done ++ p ∷ rest → IsSmallField key encoding all → IsSmallPair key encoding p
  small_at all done p rest e h = small_in done p rest (subst (IsSmallField key encoding) e h)

-- where a field isn't longer than a message may be, it is a small one
pub small_field : {K M : Type 0} (key : Writing K) (encoding : M → List ℕ) (t : ℕ) (l : List (K × M)) → field_size key (delimited_writing encoding) t l < 2 ^ 31 → IsSmallField key encoding l
small_field key encoding t [] h = tt
small_field key encoding t (p ∷ ps) h =
    let w = length-entry_encoding key (delimited_writing encoding) p ∙ ap (λ (n : ℕ). 2 + (length (key.encoding p.0) + n)) (length-append (varint_encoding (length (encoding p.1))) (encoding p.1)) in
    ((omega (arith, w), omega (arith, w)), small_field key encoding t ps (omega arith))

-- a record: its head, and then the message's encoding, behind a slot that tells its length
module _ {K M : Type 0} (key : Writing K) (encoding slots : M → List ℕ) (n : ℕ) (p : K × M) (inner : ℕ) (c0 c1 c2 : Cache) (b0 b1 b2 : List ℕ)
    (is : inner ≡ cap (length (encoding p.1))) (on : c1 ≡ advanced 1 c0) where
  small_head : IsSmallPair key encoding p → IsSmallPair key encoding p × IsSmall (encoding p.1)
  small_head h = (h, h.0)

  -- the room of a record, whose head was refused, or written
  pub head_no_room : {r : Result (Unit {0}) EncodeError} {e : EncodeError} → r ≡ Err e → (room left : ℕ) → room < length (head_encoding key n p.0 inner) → UsesRecordRoom key encoding n p r room left
  head_no_room {r = r} e room left w s =
      subst (λ z. UsesRoom r room z left) (head_then key encoding p inner is n s.0 s.1) (room_first e room left (head_encoding key n p.0 inner) (encoding p.1) w)

  pub record_room : (r : Result (Unit {0}) EncodeError) (room mid left : ℕ) → room ≤ mid + length (head_encoding key n p.0 inner) → UsesRoom r mid (encoding p.1) left → UsesRecordRoom key encoding n p r room left
  record_room r room mid left h w s =
      subst (λ z. UsesRoom r room z left) (head_then key encoding p inner is n s.0 s.1) (room_then r room mid left (head_encoding key n p.0 inner) (encoding p.1) h w)

  pub record_written : (r : Result (Unit {0}) EncodeError) → b1 ≡ b0 ++ head_encoding key n p.0 inner → IsWritten (encoding p.1) (slots p.1) c1 b1 r c2 b2 → IsRecordWritten key encoding slots n p c0 b0 r c2 b2
  record_written r h w =
      let head = head_encoding key n p.0 inner in
      let put = written_put (IsSmallPair key encoding p) head c1 b0 b1 done h in
      let both = written_then (IsSmallPair key encoding p) (IsSmall (encoding p.1)) (IsSmallPair key encoding p) head (encoding p.1) [] (slots p.1) c1 c1 c2 b0 b1 b2 small_head r put w in
      let same = written_same (IsSmallPair key encoding p) (IsSmallPair key encoding p) (head ++ encoding p.1) (record_encoding key (delimited_writing encoding) n p) (slots p.1) 0 c1 c2 c2 b0 b2 (λ s. s) (λ s. head_then key encoding p inner is n s.0 s.1) r both in
      written_behind (IsSmallPair key encoding p) (IsSmallPair key encoding p) (record_encoding key (delimited_writing encoding) n p) [] (slots p.1) (cap (length (encoding p.1))) c0 c1 c2 b0 b2 on r same

  pub head_short : (e : EncodeError) → (e ≡ OutOfMemory) × WritesFront b0 (head_encoding key n p.0 inner) b1 → IsRecordWritten key encoding slots n p c0 b0 (refusal e) c1 b1
  head_short e (m, (front, rest, split, is_new, more)) = (
    front,
    is_new,
    (
      m,
      λ s. (
        rest ++ encoding p.1,
        sym (head_then key encoding p inner is n s.0 s.1) ∙ ap (λ z. z ++ encoding p.1) split ∙ append_assoc front rest (encoding p.1),
        omega (arith, more, length-append rest (encoding p.1)),
      ),
      (1, omega arith, on),
    ),
  )
