-- What is told of a call.
use Rattle.std.proofs.Common.{rules, ◌≡◌, ◌⊎◌, inl, inr, ℕ, List, ◌++◌, Bool, false, true, None, Some, Option, Result, Ok, Err, refl, ap, subst, arith, String, string_bytes}
use Rattle.std.specs.Prelude.{IfOk}
use Rattle.buffamap.specs.declared.command.Command.{Command}
use Rattle.buffamap.specs.declared.fault.Fault.{Fault}
use Rattle.buffamap.specs.Engine.{Answers}
use Rattle.buffamap.specs.Fault.{TellsFault, fault_reply}
use Rattle.buffamap.specs.Reply.{GivesLine, GivesReply, Reply, failed_line, no_memory, reply}
use Rattle.buffamap.specs.Streams.{Known, StreamChange, Source, WritesOrBreaks}

-- where there was memory for the line it was given, else that there was none
pub named_or_not : {Z E : Type 0} (r : Result (String Z) E) (line : List ℕ) (out err : StreamChange) (status : ℕ) →
    IfOk r (λ t. string_bytes t ≡ line) → GivesLine r out err status → GivesReply (reply 1 line) out err status ⊎ (◌≡◌ {A = ℕ} 1 1 × GivesReply no_memory out err status)
named_or_not (Ok t) line out err status is given = inl (subst (λ z. GivesReply (reply 1 z) out err status) is given)
named_or_not (Err e) line out err status is given = inr (refl, given)

-- a fault that a line names isn't that a call of the reader failed
named_well : (c : Command) (from : Source) (f : Fault) → Answers (Some c) from (fault_reply f) → (fault_reply f).status ≡ 1 → from.failed ≡ false
named_well c from f (inl h) one = h.3
named_well c from f (inr (inl h)) one = h.1
named_well c from f (inr (inr h)) one =
    let three : (fault_reply f).status ≡ 3 = ap (λ (r : Reply). r.status) h.0 in
    absurd (omega (arith, three, one))

-- what is told of the fault answers the call
pub answers_reported : (o : Option Command) (from : Source) (f : Fault) (out err : StreamChange) (status : ℕ) →
    Answers o from (fault_reply f) → TellsFault f out err status → (r : Reply) × Answers o from r × GivesReply r out err status
answers_reported o from f out err status h (inl g) = (fault_reply f, h, g)
answers_reported None from f out err status h (inr k) =
    let two : (fault_reply f).status ≡ 2 = ap (λ (r : Reply). r.status) h in
    absurd (omega (arith, two, k.0))
answers_reported (Some c) from f out err status h (inr k) = (no_memory, inr (inl (refl, named_well c from f h k.0)), k.1)

-- the errors have a beginning of the line behind what they held
line_begun : (err text : List ℕ) (b : Known) (failed : Bool) → WritesOrBreaks (record { old = Some err; new = b; failed = failed }) text →
    (front : List ℕ) × (rest : List ℕ) × (text ≡ front ++ rest) × (b ≡ Some (err ++ front))
line_begun err text b failed (inl w) = search rules
line_begun err text b failed (inr w) = search rules

-- of the reply's, or of the one on a failed stream
pub errors_begun : (r : Reply) (output : StreamChange) (err : List ℕ) (b : Known) (failed : Bool) (s : ℕ) →
    GivesReply r output (record { old = Some err; new = b; failed = failed }) s →
    (text : List ℕ) × (front : List ℕ) × (rest : List ℕ) × ((text ≡ r.complaint) ⊎ ((text ≡ failed_line) × (output.failed ≡ true))) × (text ≡ front ++ rest) × (b ≡ Some (err ++ front))
errors_begun r output err b failed s (inl h) = let l = line_begun err r.complaint b failed h.2 in (r.complaint, l.0, l.1, inl refl, l.2, l.3)
errors_begun r output err b failed s (inr h) = let l = line_begun err failed_line b failed h.2 in (failed_line, l.0, l.1, inr (refl, h.1.1), l.2, l.3)
