-- The words of messages in records, one case after the other.
use Rattle.std.proofs.Common.{◌≡◌, ℕ, ◌<◌, ◌^◌, Bool, true, false, List, ◌∷◌, length, nat_lt, Option, Some, None, refl, ap, if◌then◌else◌}
use Rattle.std.proofs.lemmas.Bool.{ltb-true}
use Rattle.std.specs.Option.{option_and_then}
use Rattle.buffa_bytes.specs.declared.error.EncodeError.{EncodeError}
use Rattle.buffa_bytes.specs.declared.error.EncodeError.TheVariants.{MessageTooLarge}
use Rattle.buffa_wire.specs.BudgetLeft.{BudgetLeft, Covers, Lacks}
use Rattle.buffa_ext.specs.Messages.{cost_all, encoding_refusal, merged_all, message_of}
use Rattle.buffa_ext.specs.MessageFacts.{left_no, left_yes}

module _ {X : Type 0} (merged : X → List ℕ → Option X) where
  pub merged_next : (old new : X) (b : List ℕ) (bs : List (List ℕ)) → merged old b ≡ Some new → merged_all merged old (b ∷ bs) ≡ merged_all merged new bs
  merged_next old new b bs h = ap (option_and_then (λ v. merged_all merged v bs)) h

  pub merged_none : (old : X) (b : List ℕ) (bs : List (List ℕ)) → merged old b ≡ None → merged_all merged old (b ∷ bs) ≡ None
  merged_none old b bs h = ap (option_and_then (λ v. merged_all merged v bs)) h

  module _ (cost : List ℕ → BudgetLeft) (blank : X) (left : BudgetLeft) (b : List ℕ) (bs : List (List ℕ)) where
    pub message_left : Covers left (cost_all cost (b ∷ bs)) → message_of merged cost blank left (b ∷ bs) ≡ merged_all merged blank (b ∷ bs)
    message_left h = ap (λ c. if c then merged_all merged blank (b ∷ bs) else None) (left_yes left (cost_all cost (b ∷ bs)) h)

    pub message_lacking : Lacks left (cost_all cost (b ∷ bs)) → message_of merged cost blank left (b ∷ bs) ≡ None
    message_lacking h = ap (λ c. if c then merged_all merged blank (b ∷ bs) else None) (left_no left (cost_all cost (b ∷ bs)) h)

both_none : (b : Bool) (o : Option EncodeError) (e : EncodeError) → (if b then o else Some e) ≡ None → (b ≡ true) × (o ≡ None)
both_none true o e h = (refl, h)
both_none false o e h = cc

-- an encoding that isn't refused is short enough, and can be held
pub short_held : (refusal : List ℕ → Option EncodeError) (t : List ℕ) → encoding_refusal refusal t ≡ None → (length t < 2 ^ 31) × (refusal t ≡ None)
short_held refusal t h = let k = both_none (nat_lt (length t) (2 ^ 31)) (refusal t) MessageTooLarge h in (ltb-true (length t) (2 ^ 31) k.0, k.1)
