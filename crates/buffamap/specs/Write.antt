-- What `write N` answers: the field of a map whose pairs are given in lines.
use Rattle.std.specs.Prelude.{◌≡◌, ℕ, nat_lt, Bool, List, length, ◌^◌, codes, Option, Some, None, if◌then◌else◌}
use Rattle.std.specs.List.{list_all}
use Rattle.buffa_map.specs.Codec.{Writing}
use Rattle.buffa_map.specs.Encoding.{entry_encoding, field_encoding}
use Rattle.buffa_map.specs.Scalars.{int32_writing, text_writing}
use Rattle.buffamap.specs.Lines.{ListedInOrder, Pair, map_in}
use Rattle.buffamap.specs.Reply.{Reply, bad_input, success, fault, hex_line}

-- no entry is too long for its length to be a varint
abbrev pub has_field : {K V : Type 0} → Writing K → Writing V → List (K × V) → Bool
has_field key val ps = list_all (λ p. nat_lt (length (entry_encoding key val p)) (2 ^ 64)) ps

-- the field of pairs in hexadecimal
abbrev pub field_reply : ℕ → List Pair → Reply
field_reply n ps =
    if has_field text_writing int32_writing ps then success (hex_line (field_encoding text_writing int32_writing n ps))
    else fault (codes "MessageTooLarge")

abbrev pub IsFieldReply : ℕ → List Pair → Reply → Type 0
IsFieldReply n ps reply = reply ≡ field_reply n ps

-- the field of the map's pairs, in the order of the keys' bytes
abbrev pub RepliesToMap : ℕ → Option (List Pair) → Reply → Type 0
RepliesToMap n None reply = reply ≡ bad_input
RepliesToMap n (Some m) reply = (ps : List Pair) × ListedInOrder m ps × IsFieldReply n ps reply

abbrev pub RepliesToWrite : ℕ → List ℕ → Reply → Type 0
RepliesToWrite n input = RepliesToMap n (map_in input)
