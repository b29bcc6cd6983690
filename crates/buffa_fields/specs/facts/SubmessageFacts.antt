-- What is proved of messages as members.
use Rattle.std.proofs.Common.{◌≡◌, inl, inr, ℕ, zero, suc, ◌+◌, ◌^◌, ◌<◌, ◌≤◌, List, [], ◌∷◌, ◌++◌, length, Option, Some, Result, sym, ap, ◌∙◌, arith, append_assoc, append-nil, length-append}
use Rattle.std.proofs.lemmas.Bool.{cases_lt}
use Rattle.buffa_bytes.specs.declared.error.EncodeError.{EncodeError}
use Rattle.buffa_bytes.specs.declared.error.EncodeError.TheVariants as encode
use Rattle.buffa_bytes.specs.declared.wire_type.WireType.TheVariants.{LengthDelimited}
use Rattle.buffa_bytes.specs.Written.{WritesFront}
use Rattle.buffa_wire.proofs.PassLemmas.{consumes_none, written_put, written_same, written_then}
use Rattle.buffa_wire.specs.Cache.{Cache}
use Rattle.buffa_bytes.specs.Field.{Payload}
use Rattle.buffa_bytes.specs.Number.{IsNumber}
use Rattle.buffa_wire.specs.Passes.{IsSmall, IsWritten, cap}
use Rattle.buffa_wire.specs.Records.{bytes}
use Rattle.buffa_wire.specs.Encoding.{records_encoding}
use Rattle.buffa_bytes.specs.Values.{delimited_encoding, tag_encoding}
use Rattle.buffa_bytes.specs.Varint.{varint_encoding}
use Rattle.buffa_fields.specs.Submessages.{message_merged}
use Rattle.buffa_wire.specs.Pinned.{done, refusal}
use Rattle.buffa_fields.specs.facts.ValueFacts.{delimited_payload, delimited_whole}

-- ---- the encoding
-- what stands before a message's encoding
abbrev pub head : ℕ → ℕ → List ℕ
head n inner = tag_encoding n LengthDelimited ++ varint_encoding inner

-- a length is told, unless it is too large for a message
abbrev pub TellsLength : ℕ → List ℕ → Type 0
TellsLength inner encoding = (length encoding < 4294967295 → inner ≡ length encoding) × (4294967295 ≤ length encoding → 4294967295 ≤ inner)

module _ (n inner : ℕ) (encoding : List ℕ) (is : TellsLength inner encoding) where
  head_then : length encoding < 4294967295 → head n inner ++ encoding ≡ records_encoding ((n, bytes encoding) ∷ [])
  head_then h =
      let tag = tag_encoding n LengthDelimited in
      append_assoc tag (varint_encoding inner) encoding ∙ ap (λ (k : ℕ). tag ++ (varint_encoding k ++ encoding)) (is.0 h) ∙ sym (append-nil (tag ++ delimited_encoding encoding))

  whole_length : length (records_encoding ((n, bytes encoding) ∷ [])) ≡ length (tag_encoding n LengthDelimited) + (length (varint_encoding (length encoding)) + length encoding)
  whole_length =
      let tag = tag_encoding n LengthDelimited in
      ap length (append-nil (tag ++ delimited_encoding encoding)) ∙ length-append tag (delimited_encoding encoding) ∙ ap (λ (z : ℕ). length tag + z) (length-append (varint_encoding (length encoding)) encoding)

  pub record_size : (tag len total : ℕ) → tag ≡ length (tag_encoding n LengthDelimited) → len ≡ length (varint_encoding inner) → cap total ≡ cap (tag + (len + inner)) → cap total ≡ cap (length (records_encoding ((n, bytes encoding) ∷ [])))
  record_size tag len total h k e = elim (cases_lt (length encoding) 4294967295) [
    | inl small ↦
        let same = is.0 (omega (arith, small)) in
        let l = ap (λ (z : ℕ). length (varint_encoding z)) same in
        e ∙ ap cap (omega (arith, h, k, whole_length, same, l))
    | inr large ↦ let much = is.1 (omega (arith, large)) in omega (arith, e, whole_length, much, large)
  ]

  abbrev pub spelled_one : List ℕ
  spelled_one = records_encoding ((n, bytes encoding) ∷ [])

  small_encoding : IsSmall spelled_one → IsSmall encoding
  small_encoding h = omega (arith, h, whole_length)

  -- the head, and then the encoding
  module _ (slots : List ℕ) (c1 c2 : Cache) (b0 b1 b2 : List ℕ) where
    pub record_after : (r : Result (Unit {0}) EncodeError) → b1 ≡ b0 ++ head n inner → IsWritten encoding slots c1 b1 r c2 b2 → IsWritten spelled_one slots c1 b0 r c2 b2
    record_after r h w =
        let put = written_put (IsSmall spelled_one) (head n inner) c1 b0 b1 done h in
        let both = written_then (IsSmall spelled_one) (IsSmall encoding) (IsSmall spelled_one) (head n inner) encoding [] slots c1 c1 c2 b0 b1 b2 (λ s. (s, small_encoding s)) r put w in
        written_same (IsSmall spelled_one) (IsSmall spelled_one) (head n inner ++ encoding) spelled_one slots 0 c1 c2 c2 b0 b2 (λ s. s) (λ s. head_then (omega (arith, small_encoding s))) r both

    pub head_cut : (e : EncodeError) → (e ≡ encode.OutOfMemory) × WritesFront b0 (head n inner) b1 → IsWritten spelled_one slots c1 b0 (refusal e) c1 b1
    head_cut e (m, (front, rest, split, is_new, more)) = (
      front,
      is_new,
      (
        m,
        λ s. (
          rest ++ encoding,
          sym (head_then (omega (arith, small_encoding s))) ∙ ap (λ z. z ++ encoding) split ∙ append_assoc front rest encoding,
          omega (arith, more, length-append rest encoding),
        ),
        consumes_none slots c1,
      ),
    )

-- ---- it reads back
module _ {X : Type 0} (merged : ℕ → X → List ℕ → Option X) (blank : X) (encoding : X → List ℕ) (level : X → ℕ) (Normal : X → Type 0)
    (back : (d : ℕ) (v : X) → Normal v → level v ≤ d → merged d blank (encoding v) ≡ Some v) (n : ℕ) (number : IsNumber n) where
  pub message_again : (d : ℕ) (v : X) → length (encoding v) < 2 ^ 64 → Normal v → suc (level v) ≤ d →
      Payload d n LengthDelimited (delimited_encoding (encoding v)) × (message_merged merged d blank n LengthDelimited (delimited_encoding (encoding v)) ≡ Some v)
  unfolding message_merged
  message_again zero v fits normal low = absurd (omega arith)
  message_again (suc d) v fits normal low = (delimited_payload (suc d) n (encoding v) fits, rw (delimited_whole (encoding v) fits) (back d v normal (omega (arith, low))))
