-- The number in the data of a record, by its form.
use Rattle.std.specs.Prelude.{◌≡◌, ℕ, Option, None, Some}
use Rattle.buffa_wire.specs.Records.{FieldData, varint, fixed32, fixed64}

abbrev pub varint_in : FieldData → Option ℕ
varint_in (varint n) = Some n
varint_in _ = None

abbrev pub fixed32_in : FieldData → Option ℕ
fixed32_in (fixed32 n) = Some n
fixed32_in _ = None

abbrev pub fixed64_in : FieldData → Option ℕ
fixed64_in (fixed64 n) = Some n
fixed64_in _ = None

-- no other data have the number
pub varint_only : (d : FieldData) (n : ℕ) → varint_in d ≡ Some n → d ≡ varint n
varint_only (varint m) n h = cc
varint_only _ n h = cc

pub fixed32_only : (d : FieldData) (n : ℕ) → fixed32_in d ≡ Some n → d ≡ fixed32 n
fixed32_only (fixed32 m) n h = cc
fixed32_only _ n h = cc

pub fixed64_only : (d : FieldData) (n : ℕ) → fixed64_in d ≡ Some n → d ≡ fixed64 n
fixed64_only (fixed64 m) n h = cc
fixed64_only _ n h = cc
