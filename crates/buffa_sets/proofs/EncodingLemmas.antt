-- The encoding of a MessageSet, one record after another.
use Rattle.std.proofs.Common.{◌≡◌, ℕ, ◌<◌, ◌^◌, nat_lt, true, refl, arith}
use Rattle.std.proofs.lemmas.Bool.{and_parts, ltb-true}
use Rattle.buffa_wire.specs.Records.{FieldData}
use Rattle.buffa_wire.proofs.ByValueLemmas.{ByValue}
use Rattle.buffa_bytes.proofs.ShortestLemmas.{ten_at_most}
use Rattle.buffa_message_set.specs.Item.{item_size}
use Rattle.buffa_sets.specs.Set.{is_type_id, set_record_encoding, set_encoding}

-- ---- a record
pub type_id_small : (n : ℕ) → is_type_id n ≡ true → n < 2 ^ 31
type_id_small n e = let h = and_parts (nat_lt 0 n) (nat_lt n (2 ^ 31)) e in ltb-true n (2 ^ 31) h.1

-- the encoding of an Item under a type id, of a message in memory, is no longer than can be told
pub item_fits : (n len : ℕ) → is_type_id n ≡ true → len < 2 ^ 63 → item_size n len < 2 ^ 64
item_fits n len h k =
    let small = type_id_small n h in
    omega (arith, ten_at_most n (omega (arith, small)), ten_at_most len (omega (arith, k)), k)

-- ---- records
abbrev pub set_by_value : ByValue (ℕ × FieldData)
set_by_value = record { list = set_encoding; value = λ r. set_record_encoding r.0 r.1; none = refl; next = λ r rs. refl }
