-- What `again node` and `again set` answer: the encoding of what bytes mean to a blank message.
use Rattle.std.specs.Prelude.{◌≡◌, ◌≢◌, ◌⊎◌, ◌^◌, ℕ, List, length, nat_lt, codes, Option, Some, None, if◌then◌else◌}
use Rattle.buffa_bytes.specs.declared.error.DecodeError.{DecodeError}
use Rattle.buffa_bytes.specs.declared.error.DecodeError.TheVariants.{OutOfMemory}
use Rattle.buffa_wire.specs.BudgetLeft.{BudgetLeft, Lacks, defaults}
use Rattle.buffa_bytes.specs.ErrorText.{decode_error_text}
use Rattle.buffa_wire.specs.Message.{MergeFault}
use Rattle.buffamap.specs.Forms.{hex_bytes, without_newline}
use Rattle.buffamap.specs.Reply.{Reply, bad_input, success, fault, hex_line}

-- an encoding in hexadecimal, or that it is longer than a message may be
abbrev pub encoding_reply : List ℕ → Reply
encoding_reply encoding = if nat_lt (length encoding) (2 ^ 31) then success (hex_line encoding) else fault (codes "MessageTooLarge")

-- bytes that mean so and cost so much
module _ {X : Type 0} (meant : Option X) (cost : BudgetLeft) where
  -- their value is encoded, where the default budget has the cost
  abbrev pub IsEncoded : (X → List ℕ) → Reply → Type 0
  IsEncoded encoding reply =
      (v : X) × (meant ≡ Some v) × (Lacks defaults cost → ⊥) × (reply ≡ encoding_reply (encoding v))

  -- or a fault is named, which isn't that memory ran out: they mean no value, or a budget hasn't the cost
  abbrev pub RefusesMessageBytes : Reply → Type 0
  RefusesMessageBytes reply =
      (e : DecodeError) × (e ≢ OutOfMemory) × MergeFault meant cost defaults e × (reply ≡ fault (decode_error_text e))

-- a type of messages, by what bytes make of a value and cost, by the encoding of a value, and by the blank one
module _ {X : Type 0} (merged : ℕ → X → List ℕ → Option X) (cost : ℕ → List ℕ → BudgetLeft) (encoding : X → List ℕ) (blank : X) where
  abbrev pub IsReadAgain : List ℕ → Reply → Type 0
  IsReadAgain bytes reply =
      IsEncoded (merged 100 blank bytes) (cost 100 bytes) encoding reply
      ⊎ RefusesMessageBytes (merged 100 blank bytes) (cost 100 bytes) reply

  abbrev pub IsReadAgainIn : Option (List ℕ) → Reply → Type 0
  IsReadAgainIn None reply = reply ≡ bad_input
  IsReadAgainIn (Some bytes) reply = IsReadAgain bytes reply

  -- the input is the message in hexadecimal, which one newline may end
  abbrev pub RepliesToAgain : List ℕ → Reply → Type 0
  RepliesToAgain input = IsReadAgainIn (hex_bytes (without_newline input))
