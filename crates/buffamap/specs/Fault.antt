-- Why a call has no answer, and what is printed of it.
use Rattle.std.specs.Prelude.{◌≡◌, ◌≢◌, ℕ, Bool, true, false, ◌⊎◌, Option, None}
use Rattle.hex.specs.declared.error.FromHexError.{FromHexError}
use Rattle.hex.specs.declared.error.FromHexError.TheVariants as of_digits
use Rattle.buffa_bytes.specs.declared.error.DecodeError.{DecodeError}
use Rattle.buffa_bytes.specs.declared.error.DecodeError.TheVariants as of_bytes
use Rattle.buffa_bytes.specs.declared.error.EncodeError.{EncodeError}
use Rattle.buffa_bytes.specs.declared.error.EncodeError.TheVariants as of_encoding
use Rattle.buffa_map.specs.declared.rewrite.RewriteError.{RewriteError}
use Rattle.buffa_map.specs.declared.rewrite.RewriteError.TheVariants.{Decode, Encode}
use Rattle.buffa_bytes.specs.ErrorText.{decode_error_text, encode_error_text}
use Rattle.buffamap.specs.declared.fault.Fault.{Fault}
use Rattle.buffamap.specs.declared.fault.Fault.TheVariants.{Form, OutOfMemory, RefusedBytes, RefusedEncoding, Stream, Words}
use Rattle.buffamap.specs.Streams.{StreamChange}
use Rattle.buffamap.specs.Reply.{GivesReply, Reply, bad_input, broken, fault, no_memory, wrong_words}

-- the fault that an error of a layer below is: out of memory is out of memory
abbrev pub IsOfDigits : FromHexError → Fault → Type 0
IsOfDigits e f = (e ≡ of_digits.OutOfMemory → f ≡ OutOfMemory) × (e ≢ of_digits.OutOfMemory → f ≡ Form)

abbrev pub IsOfBytes : DecodeError → Fault → Type 0
IsOfBytes e f = (e ≡ of_bytes.OutOfMemory → f ≡ OutOfMemory) × (e ≢ of_bytes.OutOfMemory → f ≡ RefusedBytes e)

abbrev pub IsOfEncoding : EncodeError → Fault → Type 0
IsOfEncoding e f = (e ≡ of_encoding.OutOfMemory → f ≡ OutOfMemory) × (e ≢ of_encoding.OutOfMemory → f ≡ RefusedEncoding e)

abbrev pub IsOfRewrite : RewriteError → Fault → Type 0
IsOfRewrite (Decode e) f = IsOfBytes e f
IsOfRewrite (Encode e) f = IsOfEncoding e f

-- what is printed of a fault
abbrev pub fault_reply : Fault → Reply
fault_reply Words = wrong_words
fault_reply Form = bad_input
fault_reply Stream = broken
fault_reply OutOfMemory = no_memory
fault_reply (RefusedBytes e) = fault (decode_error_text e)
fault_reply (RefusedEncoding e) = fault (encode_error_text e)

-- why a reader wasn't read to its end: memory, or a call that failed
abbrev pub StopsReading : Bool → Fault → Type 0
StopsReading failed f = ((f ≡ OutOfMemory) × (failed ≡ false)) ⊎ ((f ≡ Stream) × (failed ≡ true))

-- memory aside, what is printed of the fault is a P
abbrev pub TellsReply : (Reply → Type 0) → Fault → Type 0
TellsReply P f = f ≢ OutOfMemory → P (fault_reply f)

-- what was given isn't in the stated form, so that it says nothing, memory aside
abbrev pub SaysNone : {A : Type 0} → Option A → Fault → Type 0
SaysNone o f = f ≢ OutOfMemory → (f ≡ Form) × (o ≡ None)

-- what is printed of the fault was given; or, where naming the fault takes memory, that there is none
abbrev pub TellsFault : Fault → StreamChange → StreamChange → ℕ → Type 0
TellsFault f out err status = GivesReply (fault_reply f) out err status ⊎ (((fault_reply f).status ≡ 1) × GivesReply no_memory out err status)
