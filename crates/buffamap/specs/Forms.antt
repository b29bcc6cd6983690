-- The forms of words and inputs: decimal digits, hexadecimal digits, a final newline.
use Rattle.std.specs.Prelude.{ℕ, ◌-◌, ◌==◌, ◌&&◌, List, length, take, nat_le, if◌then◌else◌, slice_index, Option, Some, None}
use Rattle.std.specs.Char.{is_ascii_digit}
use Rattle.std.specs.List.{list_all}
use Rattle.std.specs.Result.{result_ok}
use Rattle.std.specs.Str.Parse.{digits_value}
use Rattle.hex.specs.Hex.{decode_of}

-- the number that one to `most` decimal digits spell
abbrev pub decimal : ℕ → List ℕ → Option ℕ
decimal most digits =
    if list_all is_ascii_digit digits && nat_le 1 (length digits) && nat_le (length digits) most
    then Some (digits_value 10 digits) else None

-- the bytes that pairs of hexadecimal digits spell, of either case
abbrev pub hex_bytes : List ℕ → Option (List ℕ)
hex_bytes digits = result_ok (decode_of digits)

-- a text without its final newline, if it has one
abbrev pub without_newline : List ℕ → List ℕ
without_newline text = if slice_index text (length text - 1) == 10 then take (length text - 1) text else text
