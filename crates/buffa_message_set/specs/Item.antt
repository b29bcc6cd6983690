-- The Items of a MessageSet: what follows an Item's start tag, up to and with its end tag.
-- Source: the documentation of buffa, "MessageSet wire format helpers"; the protobuf encoding guide, "Groups".
use Rattle.std.specs.Prelude.{◌≡◌, ◌≢◌, ℕ, suc, ◌+◌, ◌^◌, ◌<◌, ◌≤◌, ◌==◌, ◌&&◌, nat_lt, ◌⊎◌, Bool, List, [], ◌++◌, length, Option, None, Some, Result, Ok, Err, if◌then◌else◌}
use Rattle.buffa_bytes.specs.Varint.{IsVarint, TakesVarint, VarintFault, varint_encoding}
use Rattle.buffa_bytes.specs.Values.{delimited_encoding, tag_encoding}
use Rattle.buffa_bytes.specs.Field.{Field, Group, IsTag, LengthFault, PayloadFault, TagFault, TakesDelimited, TakesTag}
use Rattle.buffa_bytes.specs.Readings.{delimited_at, skip_at, tag_at, varint_at, ◌>>=◌, same_wire}
use Rattle.buffa_bytes.specs.Scan.{Scanned, parsed, scan, ParsesTo}
use Rattle.buffa_bytes.specs.Scan.Scanned.{ends}
use Rattle.buffa_wire.specs.BudgetLeft.{BudgetLeft}
use Rattle.buffa_bytes.specs.declared.wire_type.WireType.{WireType}
use Rattle.buffa_bytes.specs.declared.wire_type.WireType.TheVariants.{Varint, LengthDelimited, StartGroup, EndGroup}
use Rattle.buffa_bytes.specs.declared.error.DecodeError.{DecodeError}
use Rattle.buffa_bytes.specs.declared.error.DecodeError.TheVariants.{InvalidMessageSet, UnexpectedEof, UnknownFieldLimitExceeded}
use Rattle.buffa_bytes.specs.declared.error.MessageSetFault.TheVariants.{MissingTypeId, TypeIdOutOfRange}
use Rattle.buffa_message_set.specs.declared.message_set.ItemParts.{ItemParts}

-- the numbers that a type id may be, and the others
abbrev pub IsTypeId : ℕ → Type 0
IsTypeId n = (0 < n) × (n < 2 ^ 31)

abbrev pub IsOutOfRange : ℕ → Type 0
IsOutOfRange n = (n ≡ 0) ⊎ (2 ^ 31 ≤ n)

-- what the fields of an Item have said: the last type id, where one was there, and the bytes of the message
pub record Said : Type 0 where
  pub type_id : Option ℕ
  pub message : List ℕ

-- what no field has said, and what an Item says
abbrev pub unsaid : Said
unsaid = record { type_id = None; message = [] }

abbrev pub said : Option ℕ → List ℕ → Said
said id msg = record { type_id = id; message = msg }

abbrev pub says : ℕ → List ℕ → Said
says id msg = said (Some id) msg

abbrev pub said_by : ItemParts → Said
said_by parts = said parts.type_id parts.message.items

-- ---- the grammar

-- a field of this number and wire type is no type id and no message, and no end tag of the Item
abbrev pub IsOther : ℕ → WireType → Type 0
IsOther n w = (n ≡ 2 → w ≢ Varint) × (n ≡ 3 → w ≢ LengthDelimited) × (n ≡ 1 → w ≢ EndGroup)

-- f is a field that takes what was said from s to t: a type id, which takes the place of the one before
abbrev pub IsTypeIdField : Said → List ℕ → Said → Type 0
IsTypeIdField s f t =
    (tag : List ℕ) × (p : List ℕ) × (id : ℕ) × IsTag tag 2 Varint × IsVarint p id × IsTypeId id
    × (f ≡ tag ++ p) × (t ≡ record s { type_id = Some id })

-- message bytes, which go behind the others
abbrev pub IsMessageField : Said → List ℕ → Said → Type 0
IsMessageField s f t =
    (tag : List ℕ) × (l : List ℕ) × (b : List ℕ) × IsTag tag 3 LengthDelimited × IsVarint l (length b)
    × (f ≡ tag ++ (l ++ b)) × (t ≡ record s { message = s.message ++ b })

module _ (d : ℕ) where
  -- any other field, with groups nested at most d deep, which says nothing
  abbrev pub IsOtherField : Said → List ℕ → Said → Type 0
  IsOtherField s f t = (n : ℕ) × (w : WireType) × IsOther n w × Field d n w f × (t ≡ s)

  abbrev pub IsItemField : Said → List ℕ → Said → Type 0
  IsItemField s f t = IsTypeIdField s f t ⊎ (IsMessageField s f t ⊎ IsOtherField s f t)

  -- fields begin the bytes and say s, and rest follows them
  abbrev pub Reaches : List ℕ → Said → List ℕ → Type 0
  Reaches bs s rest = ParsesTo IsItemField unsaid bs s rest

  -- b is fields that give a type id, the last of them id, and the message bytes msg; and an end tag of number 1
  abbrev pub Item : List ℕ → ℕ → List ℕ → Type 0
  Item b id msg = (end : List ℕ) × IsTag end 1 EndGroup × Reaches b (says id msg) end

  -- an Item begins the bytes, and rest follows it
  abbrev pub TakesItem : List ℕ → ℕ → List ℕ → List ℕ → Type 0
  TakesItem bs id msg rest = (b : List ℕ) × Item b id msg × (bs ≡ b ++ rest)

  -- after some fields, a message field with all its bytes, and some are there
  abbrev pub HasMessage : List ℕ → Type 0
  HasMessage bs =
      (s : Said) × (field : List ℕ) × (payload : List ℕ) × (b : List ℕ) × (rest : List ℕ)
      × Reaches bs s field × TakesTag field 3 LengthDelimited payload × TakesDelimited payload b rest × (b ≢ [])

-- ---- the first fault

-- why no type id begins these bytes
abbrev pub TypeIdFault : List ℕ → DecodeError → Type 0
TypeIdFault bs e =
    VarintFault bs e
    ⊎ ((n : ℕ) × (rest : List ℕ) × TakesVarint bs n rest × IsOutOfRange n × (e ≡ InvalidMessageSet TypeIdOutOfRange))

-- the end tag is there, and no type id was
abbrev pub EndFault : Said → List ℕ → DecodeError → Type 0
EndFault s bs e =
    (rest : List ℕ) × TakesTag bs 1 EndGroup rest × (s.type_id ≡ None) × (e ≡ InvalidMessageSet MissingTypeId)

module _ (d : ℕ) where
  -- Why neither a field nor an end tag of number 1 begins these bytes. The fault of an end tag of another number is
  -- that it ends a group which isn't open.
  abbrev pub ItemFieldFault : List ℕ → DecodeError → Type 0
  ItemFieldFault bs e =
      TagFault bs e
      ⊎ (((rest : List ℕ) × TakesTag bs 2 Varint rest × TypeIdFault rest e)
      ⊎ (((rest : List ℕ) × TakesTag bs 3 LengthDelimited rest × LengthFault rest e)
      ⊎ ((n : ℕ) × (w : WireType) × (rest : List ℕ) × IsOther n w × TakesTag bs n w rest × PayloadFault d n w rest e)))

  -- e is the first fault of what follows the fields that begin the bytes
  abbrev pub ItemFault : List ℕ → DecodeError → Type 0
  ItemFault bs e = (s : Said) × (rest : List ℕ) × Reaches d bs s rest × (ItemFieldFault rest e ⊎ EndFault s rest e)

-- ---- the reading

abbrev pub type_id_at : List ℕ → Result (ℕ × List ℕ) DecodeError
type_id_at bs = varint_at bs >>= (λ n.
    if nat_lt 0 n.0 && nat_lt n.0 (2 ^ 31) then Ok n else Err (InvalidMessageSet TypeIdOutOfRange))

-- message bytes behind those that were there
abbrev pub appended_at : List ℕ → List ℕ → Result (List ℕ × List ℕ) DecodeError
appended_at msg bs = delimited_at bs >>= (λ x. Ok (msg ++ x.0, x.1))

-- a length that isn't 0, and so many bytes
abbrev pub BytesAt : List ℕ → Type 0
BytesAt bs = (b : List ℕ) × (rest : List ℕ) × (delimited_at bs ≡ Ok (b, rest)) × (b ≢ [])

-- a message field of number n and wire type w, with all its bytes, and some are there
abbrev pub IsMessageAt : ℕ → WireType → List ℕ → Type 0
IsMessageAt n w bs = (n ≡ 3) × (w ≡ LengthDelimited) × BytesAt bs

-- what is said after a type id, and after message bytes
abbrev pub id_then : Said → List ℕ → Result (Said × List ℕ) DecodeError
id_then s bs = type_id_at bs >>= (λ x. Ok (record s { type_id = Some x.0 }, x.1))

abbrev pub message_then : Said → List ℕ → Result (Said × List ℕ) DecodeError
message_then s bs = appended_at s.message bs >>= (λ x. Ok (record s { message = x.0 }, x.1))

-- what is said after the field of number n and wire type w, whose payload is at the front, and what follows it
abbrev pub item_field_at : ℕ → Said → ℕ → WireType → List ℕ → Result (Said × List ℕ) DecodeError
item_field_at d s n w bs =
    if (n == 2) && same_wire Varint w then id_then s bs else (
    if (n == 3) && same_wire LengthDelimited w then message_then s bs else (skip_at d n w bs >>= (λ rest. Ok (s, rest))))

-- what an Item that has ended says, and what follows it
abbrev pub ended : Option ℕ → List ℕ → List ℕ → Result (ℕ × List ℕ × List ℕ) DecodeError
ended None msg rest = Err (InvalidMessageSet MissingTypeId)
ended (Some id) msg rest = Ok (id, msg, rest)

-- the same of the parts that were read
abbrev pub ended_by : ItemParts → List ℕ → Result (ℕ × List ℕ × List ℕ) DecodeError
ended_by parts rest = ended parts.type_id parts.message.items rest

-- whether a tag is the Item's end tag
abbrev pub ends_item : ℕ → WireType → Bool
ends_item n w = (n == 1) && same_wire EndGroup w

-- a tag of an Item, where s was said: its end tag ends it, and any other field is read
abbrev pub item_step : ℕ → Said → Result (ℕ × WireType × List ℕ) DecodeError → Scanned Said (Result (ℕ × List ℕ × List ℕ) DecodeError)
item_step d s (Ok t) = if ends_item t.0 t.1 then ends (ended s.type_id s.message t.2) else parsed (item_field_at d s t.0 t.1 t.2)
item_step d s (Err e) = ends (Err e)

-- The Item, where s was said already. The scan itself never answers: where no byte is left, `tag_at` has the fault.
unfoldable pub item_from : ℕ → Said → List ℕ → Result (ℕ × List ℕ × List ℕ) DecodeError
item_from d s bs = scan (λ t rest. item_step d t (tag_at rest)) (Err UnexpectedEof) s bs

-- the type id, the message bytes and what follows the Item
unfoldable pub item_at : ℕ → List ℕ → Result (ℕ × List ℕ × List ℕ) DecodeError
item_at d bs = item_from d unsaid bs

-- the same, where so many unknown fields are left, and one is taken first
abbrev pub item_in : ℕ → ℕ → List ℕ → Result (ℕ × List ℕ × List ℕ) DecodeError
item_in d unknown bs = if unknown == 0 then Err UnknownFieldLimitExceeded else item_at d bs

-- an unknown field is spent, and nothing else; or none was left, and nothing is spent
abbrev pub SpendsUnknown : BudgetLeft → BudgetLeft → Type 0
SpendsUnknown old new = ((old.unknown ≡ 0) × (new ≡ old)) ⊎ ((new.unknown + 1 ≡ old.unknown) × (new.memory ≡ old.memory))

-- ---- the encoding

-- the type id, the message, the end tag; and the same with the start tag first
abbrev pub body_encoding : ℕ → List ℕ → List ℕ
body_encoding id msg =
    tag_encoding 2 Varint ++ (varint_encoding id ++ (tag_encoding 3 LengthDelimited ++ (delimited_encoding msg ++ tag_encoding 1 EndGroup)))

abbrev pub item_encoding : ℕ → List ℕ → List ℕ
item_encoding id msg = tag_encoding 1 StartGroup ++ body_encoding id msg

-- a type id, and the tag and the length of a message that has so many bytes
abbrev pub id_and_length : ℕ → ℕ → List ℕ
id_and_length id len = varint_encoding id ++ (tag_encoding 3 LengthDelimited ++ varint_encoding len)

-- what stands before the message's bytes
abbrev pub item_head : ℕ → ℕ → List ℕ
item_head id len = tag_encoding 1 StartGroup ++ (tag_encoding 2 Varint ++ id_and_length id len)

-- the length of the encoding, where the message has so many bytes
abbrev pub item_size : ℕ → ℕ → ℕ
item_size id len = 4 + length (varint_encoding id) + length (varint_encoding len) + len

-- ---- laws

-- the encoding of an Item, without its start tag, is that Item
abbrev pub WrittenIsItem : Type 0
WrittenIsItem = (d id : ℕ) (msg : List ℕ) → IsTypeId id → length msg < 2 ^ 64 → Item d (body_encoding id msg) id msg

-- and whatever follows it, no other front of the bytes is an Item
abbrev pub NoOtherFront : Type 0
NoOtherFront =
    (d id : ℕ) (msg rest : List ℕ) → IsTypeId id → length msg < 2 ^ 64 → (front after other : List ℕ) (n : ℕ) →
    Item d front n other → body_encoding id msg ++ rest ≡ front ++ after →
    (front ≡ body_encoding id msg) × (n ≡ id) × (other ≡ msg)

-- an Item is what follows the start tag of a group of number 1, one level deeper
abbrev pub ItemsAreGroups : Type 0
ItemsAreGroups = (d : ℕ) (b msg : List ℕ) (id : ℕ) → Item d b id msg → Group (suc d) 1 b

-- bytes are read as an Item up to their end, or are refused for one fault, whatever follows them
abbrev pub IsReadAlike : ℕ → List ℕ → Type 0
IsReadAlike d p =
    ((id : ℕ) × (msg : List ℕ) × ((x : List ℕ) → item_at d (p ++ x) ≡ Ok (id, msg, x)))
    ⊎ ((e : DecodeError) × ((x : List ℕ) → item_at d (p ++ x) ≡ Err e))

-- so are the bytes of such a group
abbrev pub GroupsAreReadAlike : Type 0
GroupsAreReadAlike = (d : ℕ) (p : List ℕ) → Group (suc d) 1 p → IsReadAlike d p
