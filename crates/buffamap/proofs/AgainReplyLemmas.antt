-- What is answered of a message that was read and written again.
use Rattle.std.proofs.Common.{◌≡◌, ◌≢◌, ℕ, List, Option, Some, Result, Ok, Err, refl, sym, subst}
use Rattle.std.specs.Prelude.{IfErr}
use Rattle.std.specs.Result.{IsErrAnd}
use Rattle.buffa_bytes.specs.declared.error.DecodeError.{DecodeError}
use Rattle.buffa_bytes.specs.declared.error.DecodeError.TheVariants as of_bytes
use Rattle.buffa_wire.specs.BudgetLeft.{BudgetLeft, defaults}
use Rattle.buffa_wire.specs.Message.{MergeFault}
use Rattle.buffamap.specs.declared.fault.Fault.{Fault}
use Rattle.buffamap.specs.Again.{IsReadAgain, IsReadAgainIn, RefusesMessageBytes, RepliesToAgain}
use Rattle.buffamap.specs.Fault.{IsOfBytes, TellsReply, fault_reply}
use Rattle.buffamap.specs.Reply.{Reply}

-- what is told of an error that was passed on
pub passed_on : {T : Type 0} (P : Reply → Type 0) (IsOf : Fault → Type 0) (r : Result T Fault) → IsErrAnd r IsOf → ((f : Fault) → IsOf f → TellsReply P f) → IfErr r (TellsReply P)
passed_on P IsOf (Ok x) h tells = absurd h
passed_on P IsOf (Err f) h tells = tells f h

-- bytes that weren't merged
pub refused : {X : Type 0} (meant : Option X) (cost : BudgetLeft) (e : DecodeError) (f : Fault) → IsOfBytes e f → (e ≢ of_bytes.OutOfMemory → MergeFault meant cost defaults e) → TellsReply (RefusesMessageBytes meant cost) f
refused meant cost e f is says real_fault =
    let real : e ≢ of_bytes.OutOfMemory = λ h. real_fault (is.0 h) in
    subst (λ z. RefusesMessageBytes meant cost (fault_reply z)) (sym (is.1 real)) (e, real, says real, refl)

-- what is told of bytes, of an input that spells them
module _ {X : Type 0} (merged : ℕ → X → List ℕ → Option X) (cost : ℕ → List ℕ → BudgetLeft) (encoding : X → List ℕ) (blank : X) where
  pub spelled : {T : Type 0} (r : Result T Fault) (o : Option (List ℕ)) (bytes : List ℕ) → o ≡ Some bytes → IfErr r (TellsReply (IsReadAgain merged cost encoding blank bytes)) → IfErr r (TellsReply (IsReadAgainIn merged cost encoding blank o))
  spelled r o bytes is h = subst (λ z. IfErr r (TellsReply (IsReadAgainIn merged cost encoding blank z))) (sym is) h

-- a type whose words are these is read again in these words
pub again_as : {X : Type 0} {merged merged2 : ℕ → X → List ℕ → Option X} {cost cost2 : ℕ → List ℕ → BudgetLeft} {encoding encoding2 : X → List ℕ} (blank : X) → merged ≡ merged2 → cost ≡ cost2 → encoding ≡ encoding2 →
    (says : (List ℕ → Reply → Type 0) → Type 0) → says (RepliesToAgain merged cost encoding blank) → says (RepliesToAgain merged2 cost2 encoding2 blank)
again_as {X} {merged} {merged2} {cost} {cost2} {encoding} {encoding2} blank m c e says h =
    subst (λ z. says (RepliesToAgain merged2 cost2 z blank)) e (subst (λ z. says (RepliesToAgain merged2 z encoding blank)) c (subst (λ z. says (RepliesToAgain z cost encoding blank)) m h))
