-- What the reply relations leave open: nothing, but for what is said here.
use Rattle.std.specs.Prelude.{◌≡◌, ◌≢◌, ◌⊎◌, ◌++◌, ℕ, List, Bool, false, Option, Some}
use Rattle.buffa_bytes.specs.declared.error.DecodeError.{DecodeError}
use Rattle.buffa_bytes.specs.ErrorText.{decode_error_text}
use Rattle.buffamap.specs.declared.command.Command.{Command}
use Rattle.buffamap.specs.declared.command.Command.TheVariants.{AgainNode, AgainSet}
use Rattle.buffamap.specs.Command.{command_of, texts}
use Rattle.buffamap.specs.Engine.{AnswersCall}
use Rattle.buffamap.specs.Reply.{Reply, success, fault}
use Rattle.buffamap.specs.Streams.{StreamChange, Known, Source}
use denote.Ref.{Bor}

-- one input has one reply, and what is accepted isn't refused
pub record ReplyIsPinned (R : List ℕ → Reply → Type 0) : Type 0 where
  pub one : (input : List ℕ) (a b : Reply) → R input a → R input b → a ≡ b
  pub refused : (input text : List ℕ) (b : Reply) → R input (success text) → R input b → b.status ≡ 0

-- bytes are refused, and why is said
abbrev pub NamesFault : Reply → Type 0
NamesFault reply = (e : DecodeError) × (reply ≡ fault (decode_error_text e))

-- one input has one reply, but that why its bytes are refused may be said in two ways; what is accepted has one
pub record ReplyIsPinnedButForFaults (R : List ℕ → Reply → Type 0) : Type 0 where
  pub one : (input : List ℕ) (a b : Reply) → R input a → R input b → (a ≡ b) ⊎ (NamesFault a × NamesFault b)
  pub accepted : (input text : List ℕ) (b : Reply) → R input (success text) → R input b → b ≡ success text

-- every input has a reply
abbrev pub HasReply : (List ℕ → Reply → Type 0) → Type 0
HasReply R = (input : List ℕ) → (reply : Reply) × R input reply

-- a reader that had these bytes; and a writer that held these, and holds those; and whether a call of it failed
abbrev pub having : Bool → List ℕ → Source
having failed input = record { bytes = Some input; failed = failed }

abbrev pub holding : Bool → List ℕ → Known → StreamChange
holding failed old new = record { old = Some old; new = new; failed = failed }

-- which fault is named of bytes that are refused isn't said, of these commands alone
abbrev pub LeavesFaultOpen : Option Command → Type 0
LeavesFaultOpen (Some AgainNode) = Unit {0}
LeavesFaultOpen (Some AgainSet) = Unit {0}
LeavesFaultOpen _ = ⊥

-- an output that held these bytes has the line that names a fault behind them, and no more
abbrev pub HasFaultLine : List ℕ → Known → Type 0
HasFaultLine out a = (e : DecodeError) × (a ≡ Some (out ++ (fault (decode_error_text e)).text))

-- so that two outputs may differ, of words that name such a command, where the status is 1, and each has a fault's line
abbrev pub MayDiffer : List (Bor (List ℕ)) → List ℕ → Known → Known → ℕ → Type 0
MayDiffer words out a b status =
    LeavesFaultOpen (command_of (texts words)) × (status ≡ 1) × HasFaultLine out a × HasFaultLine out b

-- what is said of two answers to one call
module _ (words : List (Bor (List ℕ))) (input out err : List ℕ) where
  -- streams that don't fail: where memory doesn't run out, one status, and the writers are left in one way, but for the
  -- name of such a fault
  abbrev pub SureCallIsPinned : Type 0
  SureCallIsPinned =
      (a b p q : Known) (s t : ℕ) →
      AnswersCall words (having false input) (holding false out a) (holding false err p) s →
      AnswersCall words (having false input) (holding false out b) (holding false err q) t →
      (s ≢ 4) × (t ≢ 4) → (s ≡ t) × ((a ≡ b) ⊎ MayDiffer words out a b s) × (p ≡ q)

  -- any streams, whichever fail: where memory doesn't run out, and no stream is reported as failed, one status, and one output
  abbrev pub AnyCallIsPinned : Type 0
  AnyCallIsPinned =
      (f g h i j k : Bool) (a b p q : Known) (s t : ℕ) →
      AnswersCall words (having f input) (holding g out a) (holding h err p) s →
      AnswersCall words (having i input) (holding j out b) (holding k err q) t →
      (s ≢ 3) × (s ≢ 4) → (t ≢ 3) × (t ≢ 4) → (s ≡ t) × ((a ≡ b) ⊎ MayDiffer words out a b s)

-- one call has one answer
abbrev pub CallIsPinned : List (Bor (List ℕ)) → Type 0
CallIsPinned words = (input out err : List ℕ) → SureCallIsPinned words input out err × AnyCallIsPinned words input out err
