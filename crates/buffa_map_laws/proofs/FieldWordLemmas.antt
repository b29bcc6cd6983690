-- Encodings of map fields, and rewrites, in the words of bytes.
use Rattle.std.proofs.Common.{arith, ◌≡◌, ◌⊎◌, inl, inr, ℕ, ◌+◌, ◌*◌, ◌^◌, ◌<◌, ◌≤◌, ◌-◌, List, [], ◌∷◌, ◌++◌, length, take, refl, sym, ap, subst, ◌∙◌, append_assoc, length-append, map}
use Rattle.std.specs.Prelude.{min}
use Rattle.std.specs.List.{AllByRecursion, flat_map}
use Rattle.std.proofs.Math.Seq.{take-append_seam}
use Rattle.buffa_bytes.proofs.FieldLemmas.{wire_small}
use Rattle.buffa_bytes.proofs.ShortestLemmas.{varint_encoding-last}
use Rattle.buffa_bytes.specs.Values.{tag_encoding}
use Rattle.buffa_bytes.specs.Number.{wire_number}
use Rattle.buffa_bytes.specs.declared.wire_type.WireType.{WireType}
use Rattle.buffa_bytes.specs.declared.error.EncodeError.{EncodeError}
use Rattle.buffa_bytes.specs.declared.error.EncodeError.TheVariants.{GroupRefused, MessageTooLarge, OutOfMemory}
use Rattle.buffa_wire.specs.Encoding.{records_encoding}
use Rattle.buffa_wire.specs.Records.{bytes}
use Rattle.buffa_map.specs.Codec.{Writing}
use Rattle.buffa_map.specs.Encoding.{AllHold, HasEncoding, RefusesField, entry_encoding, field_encoding, record_encoding}
use Rattle.buffa_map_laws.specs.FieldWords.{EndsInRecord, EnumsAreNumbers, FieldsAreRecords, IsPartOf, MessageFieldsAreRecords, RewritesAreFields, pair_bytes, record_bytes}
use Rattle.buffa_map.specs.Merge.{Rules}
use Rattle.buffa_map.specs.MessageField.{IsSmallField, field_slots}
use Rattle.buffa_map.specs.Rewrite.{RefusesRewrite}
use Rattle.buffa_map.specs.Pairs.{ListsOnce}
use Rattle.buffa_map.specs.Run.{EntryRecord, fold_entries, undeclared, undeclared_records}
use Rattle.buffa_map.specs.Scalars.{delimited_writing}

small_tag : (n : ℕ) (w : WireType) → n < 15 → tag_encoding n w ≡ (8 * n + wire_number w) ∷ []
small_tag n w h = varint_encoding-last (8 * n + wire_number w) (omega (arith, wire_small w))

-- behind old bytes these come first
old_first : (old more : List ℕ) → take (length old) (old ++ more) ≡ old
old_first old more = take-append_seam old more

first_of : (old new more : List ℕ) → new ≡ old ++ more → take (length old) new ≡ old
first_of old new more h = ap (take (length old)) h ∙ old_first old more

module _ {K V : Type 0} (key : Writing K) (val : Writing V) where
  same_pair : (p : K × V) → entry_encoding key val p ≡ pair_bytes key val p
  same_pair p = rw (small_tag 1 key.wire (omega arith), small_tag 2 val.wire (omega arith)) refl

  same_record : (n : ℕ) (p : K × V) → record_encoding key val n p ≡ record_bytes n (pair_bytes key val p)
  same_record n p = ap (record_bytes n) (same_pair p)

  same_field : (n : ℕ) (l : List (K × V)) → field_encoding key val n l ≡ flat_map (λ p. record_bytes n (pair_bytes key val p)) l
  same_field n [] = refl
  same_field n (p ∷ l) = ap (λ z. z ++ field_encoding key val n l) (same_record n p) ∙ ap (λ z. record_bytes n (pair_bytes key val p) ++ z) (same_field n l)

  lengths_of : (l : List (K × V)) → HasEncoding key val l → AllByRecursion (λ p. length (pair_bytes key val p) < 2 ^ 64) l
  lengths_of [] h = tt
  lengths_of (p ∷ l) h = (subst (λ z. length z < 2 ^ 64) (same_pair p) h.0, lengths_of l h.1)

  of_lengths : (l : List (K × V)) → AllByRecursion (λ p. length (pair_bytes key val p) < 2 ^ 64) l → HasEncoding key val l
  of_lengths [] h = tt
  of_lengths (p ∷ l) h = (subst (λ z. length z < 2 ^ 64) (sym (same_pair p)) h.0, of_lengths l h.1)

  held_by : (P : K → Type 0) (Q : V → Type 0) (l : List (K × V)) → AllHold P Q l → AllByRecursion (λ p. P p.0 × Q p.1) l
  held_by P Q [] h = tt
  held_by P Q (p ∷ l) h = ((h.0, h.1), held_by P Q l h.2)

  holds_of : (P : K → Type 0) (Q : V → Type 0) (l : List (K × V)) → AllByRecursion (λ p. P p.0 × Q p.1) l → AllHold P Q l
  holds_of P Q [] h = tt
  holds_of P Q (p ∷ l) h = (h.0.0, h.0.1, holds_of P Q l h.1)

  field_of_both : (n : ℕ) (a b : List (K × V)) → field_encoding key val n (a ++ b) ≡ field_encoding key val n a ++ field_encoding key val n b
  field_of_both n [] b = refl
  field_of_both n (p ∷ a) b = ap (λ z. record_encoding key val n p ++ z) (field_of_both n a b) ∙ sym (append_assoc (record_encoding key val n p) (field_encoding key val n a) (field_encoding key val n b))

  -- a beginning of a record stands behind whole ones
  ends_in : (n : ℕ) (old new : List ℕ) (l : List (K × V)) → RefusesField key val n old new l OutOfMemory → EndsInRecord key val n old new l
  ends_in n old new l (a, p, b, is, has, fits, (front, rest, split, new_is, some)) = (
    a,
    p,
    b,
    front,
    is,
    has,
    subst (λ z. length z < 2 ^ 64) (same_pair p) fits,
    new_is ∙ append_assoc old (field_encoding key val n a) front,
    (rest, sym (same_record n p) ∙ split, some),
  )

  -- which is a beginning of the field
  part_of : (n : ℕ) (old new : List ℕ) (l : List (K × V)) → RefusesField key val n old new l OutOfMemory → (front : List ℕ) × (new ≡ old ++ front) × IsPartOf front (field_encoding key val n l)
  part_of n old new l (a, p, b, is, has, fits, (front, rest, split, new_is, some)) =
      let begun = field_encoding key val n a in
      let behind = field_encoding key val n b in (
        begun ++ front,
        new_is ∙ append_assoc old begun front,
        (
          rest ++ behind,
          ap (field_encoding key val n) is ∙ field_of_both n a (p ∷ b) ∙ ap (λ z. begun ++ (z ++ behind)) split ∙ ap (λ z. begun ++ z) (append_assoc front rest behind) ∙ sym (append_assoc begun front (rest ++ behind)),
          omega (arith, some, length-append rest behind),
        ),
      )

  pub fields_are_records : (P : K → Type 0) (Q : V → Type 0) → FieldsAreRecords key val P Q
  fields_are_records P Q = record {
    encoding = same_field;
    no_size = λ t. refl;
    size = λ t p l. rw (same_pair p) refl;
    lengths = λ l. (lengths_of l, of_lengths l);
    holds = λ l. (held_by P Q l, holds_of P Q l);
    written = λ n old new l h. h;
    too_long = λ n old new l h. (h.0, h.1, h.2, h.3, h.4, subst (λ z. 2 ^ 64 ≤ length z) (same_pair h.1) h.5, h.6);
    no_room = ends_in;
    no_group = λ n old new l e h. h;
    room = λ before after encoding. ((λ h. h), (λ h. h));
    full = λ before after encoding h. h refl;
  }

  -- ---- rewrites
  same_kept : (n : ℕ) (ks : List (List ℕ)) → records_encoding (map (λ e. (n, bytes e)) ks) ≡ flat_map (record_bytes n) ks
  same_kept n [] = refl
  same_kept n (k ∷ ks) = ap (λ z. record_bytes n k ++ z) (same_kept n ks)

  module _ (r : Rules K V) (KeyFits : K → Type 0) (ValFits : V → Type 0) (Walks : List (K × V) → Type 0) where
    refused_behind : (n : ℕ) (es : List (EntryRecord K V)) (old new : List ℕ) (l : List (K × V)) (e : EncodeError) → RefusesRewrite key val n (undeclared_records n es) old new l e → take (length old) new ≡ old
    refused_behind n es old new l OutOfMemory (inl h) = let part = part_of n old new l h in first_of old new part.0 part.1
    refused_behind n es old new l OutOfMemory (inr (has, (front, rest, split, is, some))) =
        first_of old new (field_encoding key val n l ++ front) (is ∙ append_assoc old (field_encoding key val n l) front)
    refused_behind n es old new l MessageTooLarge h = first_of old new (field_encoding key val n h.0) h.6
    refused_behind n es old new l (GroupRefused e) h = absurd h

    -- what was written of a rewrite where memory ran out
    part_written : (n : ℕ) (es : List (EntryRecord K V)) (old new : List ℕ) (l : List (K × V)) → RefusesRewrite key val n (undeclared_records n es) old new l OutOfMemory →
        EndsInRecord key val n old new l ⊎ (HasEncoding key val l × (front : List ℕ) × (new ≡ old ++ (field_encoding key val n l ++ front)) × IsPartOf front (flat_map (record_bytes n) (undeclared es)))
    part_written n es old new l (inl h) = inl (ends_in n old new l h)
    part_written n es old new l (inr (has, (front, rest, split, is, some))) =
        inr (has, front, is ∙ append_assoc old (field_encoding key val n l) front, (rest, sym (same_kept n (undeclared es)) ∙ split, some))

    pub rewrites_are_fields : RewritesAreFields key val r KeyFits ValFits Walks
    rewrites_are_fields = record {
      rewrite = λ n es out. (
        λ h. (h.0, h.1, h.2, h.3, h.4 ∙ ap (λ z. field_encoding key val n h.0 ++ z) (same_kept n (undeclared es))),
        λ h. (h.0, h.1, h.2, h.3, h.4 ∙ ap (λ z. field_encoding key val n h.0 ++ z) (sym (same_kept n (undeclared es)))),
      );
      rewritten = λ left over bs rest old written new before after h. (h.read.entries, h.out, h.read.run, h.read.folded, h.rewrite, h.encoding, h.read.whole);
      not_decoded = λ left over bs unread old written new f h. (h.2, h.0, h.1);
      not_encoded = λ left over bs rest old written new before e h. (refused_behind r.number h.read.entries old written h.walk e h.encoding, (h.read.entries, h.read.run, h.read.folded));
      ordered = λ left over bs rest old written new before after h keeps.
          (h.read.entries, h.read.run, h.encoding ∙ ap (λ z. old ++ z) (h.ordered keeps ∙ ap (λ z. field_encoding key val r.number (fold_entries r.same [] h.read.entries) ++ z) (same_kept r.number (undeclared h.read.entries))));
      no_room = λ left over bs rest old written new before h.
          (h.read.entries, h.walk, h.read.run, h.once, h.walked, h.walks, subst (λ z. before < length (field_encoding key val r.number h.walk ++ z)) (same_kept r.number (undeclared h.read.entries)) (h.room refl), part_written r.number h.read.entries old written h.walk h.encoding);
      too_long = λ left over bs rest old written new before h.
          let part = h.encoding in (
            h.read.entries,
            part.0,
            part.1,
            part.2,
            h.read.run,
            subst (λ z. ListsOnce r.same (fold_entries r.same [] h.read.entries) z) part.3 h.once,
            λ keeps. sym part.3 ∙ h.walked keeps,
            subst Walks part.3 h.walks,
            part.4,
            subst (λ z. 2 ^ 64 ≤ length z) (same_pair part.1) part.5,
            part.6,
          );
      no_group = λ left over bs rest old written new before e h. h.encoding;
    }

-- ---- fields of messages
module _ {K M : Type 0} (key : Writing K) (encoding slots : M → List ℕ) where
  same_slots : (l : List (K × M)) → field_slots encoding slots l ≡ flat_map (λ p. min (length (encoding p.1)) (2 ^ 32 - 1) ∷ slots p.1) l
  same_slots [] = refl
  same_slots (p ∷ l) = ap (λ z. min (length (encoding p.1)) (2 ^ 32 - 1) ∷ slots p.1 ++ z) (same_slots l)

  abbrev Small : K × M → Type 0
  Small p = (length (encoding p.1) < 2 ^ 31) × (length (pair_bytes key (delimited_writing encoding) p) < 2 ^ 64)

  small_of : (l : List (K × M)) → IsSmallField key encoding l → AllByRecursion Small l
  small_of [] h = tt
  small_of (p ∷ l) h = ((h.0.0, subst (λ z. length z < 2 ^ 64) (same_pair key (delimited_writing encoding) p) h.0.1), small_of l h.1)

  of_small : (l : List (K × M)) → AllByRecursion Small l → IsSmallField key encoding l
  of_small [] h = tt
  of_small (p ∷ l) h = ((h.0.0, subst (λ z. length z < 2 ^ 64) (sym (same_pair key (delimited_writing encoding) p)) h.0.1), of_small l h.1)

  pub message_fields_are_records : MessageFieldsAreRecords key encoding slots
  message_fields_are_records = record {
    these = same_slots;
    small = λ l. (small_of l, of_small l);
    sized = λ t n l old new h. (ap (λ z. z.slots) h.2, ap (λ z. z.next) h.2, h.1, h.0);
    not_sized = λ t l old new e h. (h.0, first_of old.slots new.slots h.1.0 (ap (λ z. z.slots) h.1.1), ap (λ z. z.next) h.1.1);
    written = λ n l old new before after h. (
      ap (λ z. z.slots) h.2.0,
      ap (λ z. z.next) h.2.0,
      first_of before after h.0 h.1,
      λ fits. h.1 ∙ ap (λ z. before ++ z) (h.2.1 fits),
    );
    not_written = λ n l old new before after e h. (h.2.0, ap (λ z. z.slots) h.2.2.2, first_of before after h.0 h.1);
  }

pub enums_are_numbers : EnumsAreNumbers
enums_are_numbers = record { refines = λ e f. ((λ h. h), (λ h. h)); blank = λ e. ((λ h. h), (λ h. h)) }
