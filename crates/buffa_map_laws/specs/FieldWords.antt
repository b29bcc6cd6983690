-- What the laws say of the encodings of map fields, and of rewrites, in the words of bytes and lists.
-- Source: the protobuf encoding guide, "Maps".
use Rattle.std.specs.Prelude.{◌≡◌, ◌↔◌, ◌⊎◌, ℕ, ℤ, ◌+◌, ◌-◌, ◌*◌, ◌^◌, ◌<◌, ◌≤◌, true, List, [], ◌∷◌, ◌++◌, length, min, take, Ok, Err}
use Rattle.std.specs.List.{AllByRecursion, flat_map}
use Rattle.buffa_bytes.specs.Varint.{varint_encoding}
use Rattle.buffa_bytes.specs.Number.{wire_number}
use Rattle.buffa_bytes.specs.declared.error.DecodeError.{DecodeError}
use Rattle.buffa_bytes.specs.declared.error.EncodeError.{EncodeError}
use Rattle.buffa_bytes.specs.declared.error.EncodeError.TheVariants.{GroupRefused, MessageTooLarge, OutOfMemory}
use Rattle.buffa_wire.specs.BudgetLeft.{BudgetLeft}
use Rattle.buffa_wire.specs.Cache.{Cache}
use Rattle.buffa_wire.specs.Enums.{DeclaresBlank, Numbers, Refines}
use Rattle.buffa_wire.specs.Pinned.{done, refusal}
use Rattle.buffa_map.specs.Codec.{Writing}
use Rattle.buffa_map.specs.Encoding.{AllHold, HasEncoding, UsesRoomOf, WritesField, field_encoding, field_size}
use Rattle.buffa_map.specs.Merge.{RefusesRun, Rules, state}
use Rattle.buffa_map.specs.MessageField.{IsFieldSized, IsFieldWritten, IsSmallField, field_slots}
use Rattle.buffa_map.specs.Pairs.{ListsOnce, SamePairs}
use Rattle.buffa_map.specs.Rewrite.{IsRewrite, RefusesDecoding, RefusesEncoding, RewritesRun}
use Rattle.buffa_map.specs.Run.{EntryRecord, Run, fold_entries, undeclared}
use Rattle.buffa_map.specs.Scalars.{delimited_writing}

-- a tag of number n for a length and bytes, their length, and they
abbrev pub record_bytes : ℕ → List ℕ → List ℕ
record_bytes n b = varint_encoding (8 * n + 2) ++ (varint_encoding (length b) ++ b)

-- front begins all, and isn't all of it
abbrev pub IsPartOf : List ℕ → List ℕ → Type 0
IsPartOf front all = (rest : List ℕ) × (all ≡ front ++ rest) × (0 < length rest)

module _ {K V : Type 0} (key : Writing K) (val : Writing V) where
  -- an entry: a tag of one byte, the key, a tag of one byte, the value
  abbrev pub pair_bytes : K × V → List ℕ
  pair_bytes p = ((8 + wire_number key.wire) ∷ key.encoding p.0) ++ ((16 + wire_number val.wire) ∷ val.encoding p.1)

  -- behind the old bytes are the records of the pairs in front of one, and a beginning of its own; none of these is too long
  abbrev pub EndsInRecord : ℕ → List ℕ → List ℕ → List (K × V) → Type 0
  EndsInRecord n old new l =
      (done : List (K × V)) × (p : K × V) × (rest : List (K × V)) × (front : List ℕ) × (l ≡ done ++ p ∷ rest) × HasEncoding key val done
      × (length (pair_bytes p) < 2 ^ 64) × (new ≡ old ++ (field_encoding key val n done ++ front)) × IsPartOf front (record_bytes n (pair_bytes p))

  -- A field is a record for each pair, in order; its size is the sum of their lengths. It is written whole; or up to a pair
  -- whose entry is too long for its length to be a varint; or a beginning of it, where memory runs out.
  pub record FieldsAreRecords (P : K → Type 0) (Q : V → Type 0) : Type 0 where
    pub encoding : (n : ℕ) (l : List (K × V)) → field_encoding key val n l ≡ flat_map (λ p. record_bytes n (pair_bytes p)) l
    pub no_size : (t : ℕ) → field_size key val t [] ≡ 0
    pub size : (t : ℕ) (p : K × V) (l : List (K × V)) →
        field_size key val t (p ∷ l) ≡ t + (length (varint_encoding (length (pair_bytes p))) + length (pair_bytes p)) + field_size key val t l
    pub lengths : (l : List (K × V)) → HasEncoding key val l ↔ AllByRecursion (λ p. length (pair_bytes p) < 2 ^ 64) l
    pub holds : (l : List (K × V)) → AllHold P Q l ↔ AllByRecursion (λ p. P p.0 × Q p.1) l
    pub written : (n : ℕ) (old new : List ℕ) (l : List (K × V)) → WritesField key val n old new done l → HasEncoding key val l × (new ≡ old ++ field_encoding key val n l)
    pub too_long : (n : ℕ) (old new : List ℕ) (l : List (K × V)) → WritesField key val n old new (refusal MessageTooLarge) l →
        (front : List (K × V)) × (p : K × V) × (rest : List (K × V)) × (l ≡ front ++ p ∷ rest) × HasEncoding key val front × (2 ^ 64 ≤ length (pair_bytes p)) × (new ≡ old ++ field_encoding key val n front)
    pub no_room : (n : ℕ) (old new : List ℕ) (l : List (K × V)) → WritesField key val n old new (refusal OutOfMemory) l → EndsInRecord n old new l
    pub no_group : (n : ℕ) (old new : List ℕ) (l : List (K × V)) (e : DecodeError) → WritesField key val n old new (refusal (GroupRefused e)) l → ⊥
    pub room : (before after : ℕ) (encoding : List ℕ) → UsesRoomOf done before encoding after ↔ (before ≤ after + length encoding)
    pub full : (before after : ℕ) (encoding : List ℕ) → UsesRoomOf (refusal OutOfMemory) before encoding after → before < length encoding

  -- A rewrite is the field of the map that the entries make of the empty one, its pairs in any order, and behind it a record
  -- for each undeclared entry, in order. It is written behind what the sink has, or a beginning of it is: up to a record for which
  -- there is no room, or to a pair whose entry is too long. The pairs are in an order that a walk of the map has, and a map that keeps
  -- the order of the keys is written in it, also where it is refused.
  module _ (r : Rules K V) (KeyFits : K → Type 0) (ValFits : V → Type 0) (Walks : List (K × V) → Type 0) where
    pub record RewritesAreFields : Type 0 where
      pub rewrite : (n : ℕ) (es : List (EntryRecord K V)) (out : List ℕ) → IsRewrite r.same key val KeyFits ValFits n es out ↔
          ((l : List (K × V)) × ListsOnce r.same (fold_entries r.same [] es) l × HasEncoding key val l × AllHold KeyFits ValFits l
          × (out ≡ field_encoding key val n l ++ flat_map (record_bytes n) (undeclared es)))
      pub rewritten : (left over : BudgetLeft) (bs rest old written : List ℕ) (new : List (K × V)) (before after : ℕ) →
          RewritesRun r key val KeyFits ValFits Walks left bs new over rest old written before after →
          (es : List (EntryRecord K V)) × (out : List ℕ) × Run r.key r.val r.depth r.number bs es × SamePairs r.same (fold_entries r.same [] es) new
          × IsRewrite r.same key val KeyFits ValFits r.number es out × (written ≡ old ++ out) × (rest ≡ [])
      pub not_decoded : (left over : BudgetLeft) (bs unread old written : List ℕ) (new : List (K × V)) (f : DecodeError) →
          RefusesDecoding r left bs new over unread old written f →
          (written ≡ old) × (kept : _) × RefusesRun r (state [] [] left) bs (state new kept over) unread f
      pub not_encoded : (left over : BudgetLeft) (bs rest old written : List ℕ) (new : List (K × V)) (before : ℕ) (e : EncodeError) →
          RefusesEncoding r key val Walks left bs new over rest old written before e →
          (take (length old) written ≡ old) × ((es : List (EntryRecord K V)) × Run r.key r.val r.depth r.number bs es × SamePairs r.same (fold_entries r.same [] es) new)
      pub ordered : (left over : BudgetLeft) (bs rest old written : List ℕ) (new : List (K × V)) (before after : ℕ) →
          RewritesRun r key val KeyFits ValFits Walks left bs new over rest old written before after → r.keeps_order ≡ true →
          (es : List (EntryRecord K V)) × Run r.key r.val r.depth r.number bs es
          × (written ≡ old ++ (field_encoding key val r.number (fold_entries r.same [] es) ++ flat_map (record_bytes r.number) (undeclared es)))
      pub no_room : (left over : BudgetLeft) (bs rest old written : List ℕ) (new : List (K × V)) (before : ℕ) →
          RefusesEncoding r key val Walks left bs new over rest old written before OutOfMemory →
          (es : List (EntryRecord K V)) × (l : List (K × V)) × Run r.key r.val r.depth r.number bs es × ListsOnce r.same (fold_entries r.same [] es) l
          × (r.keeps_order ≡ true → l ≡ fold_entries r.same [] es) × Walks l
          × (before < length (field_encoding key val r.number l ++ flat_map (record_bytes r.number) (undeclared es)))
          × (EndsInRecord r.number old written l
          ⊎ (HasEncoding key val l × (front : List ℕ) × (written ≡ old ++ (field_encoding key val r.number l ++ front))
          × IsPartOf front (flat_map (record_bytes r.number) (undeclared es))))
      pub too_long : (left over : BudgetLeft) (bs rest old written : List ℕ) (new : List (K × V)) (before : ℕ) →
          RefusesEncoding r key val Walks left bs new over rest old written before MessageTooLarge →
          (es : List (EntryRecord K V)) × (front : List (K × V)) × (p : K × V) × (behind : List (K × V)) × Run r.key r.val r.depth r.number bs es
          × ListsOnce r.same (fold_entries r.same [] es) (front ++ p ∷ behind) × (r.keeps_order ≡ true → front ++ p ∷ behind ≡ fold_entries r.same [] es) × Walks (front ++ p ∷ behind)
          × HasEncoding key val front × (2 ^ 64 ≤ length (pair_bytes p)) × (written ≡ old ++ field_encoding key val r.number front)
      pub no_group : (left over : BudgetLeft) (bs rest old written : List ℕ) (new : List (K × V)) (before : ℕ) (e : DecodeError) →
          RefusesEncoding r key val Walks left bs new over rest old written before (GroupRefused e) → ⊥

-- A field of messages has a slot for the length of each message, and then the message's own. The size pass appends them, and
-- leaves the old slots first; the write pass consumes them, and leaves the sink's old bytes first.
module _ {K M : Type 0} (key : Writing K) (encoding slots : M → List ℕ) where
  pub record MessageFieldsAreRecords : Type 0 where
    pub these : (l : List (K × M)) → field_slots encoding slots l ≡ flat_map (λ p. min (length (encoding p.1)) (2 ^ 32 - 1) ∷ slots p.1) l
    pub small : (l : List (K × M)) → IsSmallField key encoding l
        ↔ AllByRecursion (λ p. (length (encoding p.1) < 2 ^ 31) × (length (pair_bytes key (delimited_writing encoding) p) < 2 ^ 64)) l
    pub sized : (t n : ℕ) (l : List (K × M)) (old new : Cache) → IsFieldSized key encoding slots t l old (Ok n) new →
        (new.slots ≡ old.slots ++ field_slots encoding slots l) × (new.next ≡ old.next)
        × (IsSmallField key encoding l → n ≡ min (field_size key (delimited_writing encoding) t l) (2 ^ 64 - 1))
        × (min n (2 ^ 32 - 1) ≡ min (field_size key (delimited_writing encoding) t l) (2 ^ 32 - 1))
    pub not_sized : (t : ℕ) (l : List (K × M)) (old new : Cache) (e : EncodeError) → IsFieldSized key encoding slots t l old (Err e) new →
        (e ≡ OutOfMemory) × (take (length old.slots) new.slots ≡ old.slots) × (new.next ≡ old.next)
    pub written : (n : ℕ) (l : List (K × M)) (old new : Cache) (before after : List ℕ) → IsFieldWritten key encoding slots n l old before done new after →
        (new.slots ≡ old.slots) × (new.next ≡ old.next + length (field_slots encoding slots l)) × (take (length before) after ≡ before)
        × (IsSmallField key encoding l → after ≡ before ++ field_encoding key (delimited_writing encoding) n l)
    pub not_written : (n : ℕ) (l : List (K × M)) (old new : Cache) (before after : List ℕ) (e : EncodeError) → IsFieldWritten key encoding slots n l old before (refusal e) new after →
        (e ≡ OutOfMemory) × (new.slots ≡ old.slots) × (take (length before) after ≡ before)

-- what is asked of the enums of two readers
pub record EnumsAreNumbers : Type 0 where
  pub refines : (e f : Numbers) → Refines e f ↔ (((n : ℤ) → e.declares n ≡ true → f.declares n ≡ true) × (e.blank ≡ f.blank))
  pub blank : (e : Numbers) → DeclaresBlank e ↔ (e.declares e.blank ≡ true)
