-- What faults bytes have: no budget makes one, and no lack of memory.
use Rattle.std.proofs.Common.{◌≡◌, ℕ, zero, suc, inl, inr, List, sym, subst}
use Rattle.buffa_bytes.specs.declared.wire_type.WireType.{WireType}
use Rattle.buffa_bytes.specs.declared.wire_type.WireType.TheVariants.{Varint, Fixed64, LengthDelimited, StartGroup, EndGroup, Fixed32}
use Rattle.buffa_bytes.specs.declared.error.DecodeError.{DecodeError}
use Rattle.buffa_bytes.specs.declared.error.DecodeError.TheVariants as error
use Rattle.buffa_bytes.specs.PayloadValue.{PayloadValueFault}
use Rattle.buffa_bytes.specs.Field.{BadTag, FieldFaultOver, GroupFault, LengthFault, PayloadFault, PayloadFaultOver, TagFault}
use Rattle.buffa_bytes.specs.Varint.{VarintFault}

-- an error that bytes make
abbrev pub IsOfBytes : DecodeError → Type 0
IsOfBytes error.UnknownFieldLimitExceeded = ⊥
IsOfBytes error.ElementMemoryLimitExceeded = ⊥
IsOfBytes error.OutOfMemory = ⊥
IsOfBytes _ = Unit {0}

pub as_of_bytes : (e f : DecodeError) → e ≡ f → IsOfBytes f → IsOfBytes e
as_of_bytes e f h k = subst IsOfBytes (sym h) k

pub varint_fault : (bs : List ℕ) (e : DecodeError) → VarintFault bs e → IsOfBytes e
varint_fault bs error.UnexpectedEof h = tt
varint_fault bs error.VarintTooLong h = tt
varint_fault bs _ h = absurd h

bad_tag : (n : ℕ) (e : DecodeError) → BadTag n e → IsOfBytes e
bad_tag n error.InvalidFieldNumber h = tt
bad_tag n (error.InvalidWireType w) h = tt
bad_tag n _ h = absurd h

pub tag_fault : (bs : List ℕ) (e : DecodeError) → TagFault bs e → IsOfBytes e
tag_fault bs e (inl h) = varint_fault bs e h
tag_fault bs e (inr (n, rest, t, h)) = bad_tag n e h

pub length_fault : (bs : List ℕ) (e : DecodeError) → LengthFault bs e → IsOfBytes e
length_fault bs e (inl h) = varint_fault bs e h
length_fault bs e (inr (n, rest, t, l, h)) = as_of_bytes e error.UnexpectedEof h tt

pub payload_value_fault : (w : WireType) (bs : List ℕ) (e : DecodeError) → PayloadValueFault w bs e → IsOfBytes e
payload_value_fault Varint bs e h = varint_fault bs e h
payload_value_fault Fixed64 bs e h = as_of_bytes e error.UnexpectedEof h.1 tt
payload_value_fault LengthDelimited bs e h = length_fault bs e h
payload_value_fault StartGroup bs e h = as_of_bytes e (error.InvalidWireType 3) h tt
payload_value_fault EndGroup bs e h = as_of_bytes e (error.InvalidWireType 4) h tt
payload_value_fault Fixed32 bs e h = as_of_bytes e error.UnexpectedEof h.1 tt

module _ (G : ℕ → List ℕ → DecodeError → Type 0) (g : (f : ℕ) (bs : List ℕ) (e : DecodeError) → G f bs e → IsOfBytes e) where
  payload_over : (f : ℕ) (w : WireType) (bs : List ℕ) (e : DecodeError) → PayloadFaultOver G f w bs e → IsOfBytes e
  payload_over f Varint bs e h = varint_fault bs e h
  payload_over f Fixed64 bs e h = as_of_bytes e error.UnexpectedEof h.1 tt
  payload_over f LengthDelimited bs e h = length_fault bs e h
  payload_over f StartGroup bs e h = g f bs e h
  payload_over f EndGroup bs e h = as_of_bytes e (error.InvalidEndGroup f) h tt
  payload_over f Fixed32 bs e h = as_of_bytes e error.UnexpectedEof h.1 tt

  field_over : (f : ℕ) (bs : List ℕ) (e : DecodeError) → FieldFaultOver G f bs e → IsOfBytes e
  field_over f bs e (inl h) = tag_fault bs e h
  field_over f bs e (inr (inl (n, rest, t, other, h))) = as_of_bytes e (error.InvalidEndGroup n) h tt
  field_over f bs e (inr (inr (n, w, rest, t, other, h))) = payload_over n w rest e h

group_fault : (d f : ℕ) (bs : List ℕ) (e : DecodeError) → GroupFault d f bs e → IsOfBytes e
unfolding GroupFault
group_fault zero f bs e h = as_of_bytes e error.RecursionLimitExceeded h tt
group_fault (suc d) f bs e (body, rest, joined, split, h) = field_over (GroupFault d) (group_fault d) f rest e h

pub payload_fault : (d f : ℕ) (w : WireType) (bs : List ℕ) (e : DecodeError) → PayloadFault d f w bs e → IsOfBytes e
payload_fault d f w bs e h = payload_over (GroupFault d) (group_fault d) f w bs e h
