-- What `item` answers: the number, the message bytes and the rest of an Item whose start tag was read.
use Rattle.std.specs.Prelude.{◌≡◌, ℕ, List, ◌++◌, Option, Some, None, Result, Ok, Err}
use Rattle.std.specs.Fmt.{decimal}
use Rattle.buffa_message_set.specs.Item.{item_in}
use Rattle.buffa_bytes.specs.declared.error.DecodeError.{DecodeError}
use Rattle.buffa_bytes.specs.ErrorText.{decode_error_text}
use Rattle.buffamap.specs.Forms.{hex_bytes, without_newline}
use Rattle.buffamap.specs.Reply.{Reply, bad_input, success, fault, hex_line, line}

-- the number, the message bytes and what follows the Item, or the first fault: fields that are passed over 99 levels
-- deep, and a million unknown fields left
abbrev pub item_of_input : List ℕ → Result (ℕ × List ℕ × List ℕ) DecodeError
item_of_input bytes = item_in 99 1000000 bytes

-- a line each
abbrev pub item_lines : ℕ → List ℕ → List ℕ → List ℕ
item_lines number payload rest = line (decimal number) ++ (hex_line payload ++ hex_line rest)

-- the Item that was read, in lines; or the fault
abbrev pub IsFound : Result (ℕ × List ℕ × List ℕ) DecodeError → Reply → Type 0
IsFound (Ok item) reply = reply ≡ success (item_lines item.0 item.1 item.2)
IsFound (Err f) reply = reply ≡ fault (decode_error_text f)

-- the same of bytes, where the input has any
abbrev pub IsFoundIn : Option (List ℕ) → Reply → Type 0
IsFoundIn None reply = reply ≡ bad_input
IsFoundIn (Some bytes) reply = IsFound (item_of_input bytes) reply

-- the input is what follows the start tag, in hexadecimal, which one newline may end
abbrev pub RepliesToItem : List ℕ → Reply → Type 0
RepliesToItem input = IsFoundIn (hex_bytes (without_newline input))
