-- What the codec of messages owes.
use Rattle.std.proofs.Common.{◌≡◌, Bool, true, Option, Some, None, Ok, Err}
use Rattle.buffa_wire.specs.BudgetLeft.{IsLimit}
use Rattle.buffa_bytes.specs.declared.error.DecodeError.{DecodeError}
use Rattle.buffa_bytes.specs.declared.error.DecodeError.TheVariants.{UnexpectedEof}
use Rattle.buffa_map.specs.Message.{merged_value}
use Rattle.buffa_map.specs.ScalarFacts.{always_known}

-- a message is declared
pub merged_known : {V : Type 0} (o : Option V) (new : V) (known : Bool) → merged_value o ≡ Ok (new, known) → known ≡ true
merged_known (Some v) new known h = always_known new known h
merged_known None new known h = cc

-- the fault that stands for any is none of the two errors of a budget
pub merged_no_limit : {V : Type 0} (o : Option V) (x : DecodeError) → merged_value o ≡ Err x → IsLimit x → ⊥
merged_no_limit (Some v) x h l = cc
merged_no_limit None UnexpectedEof h l = l
merged_no_limit None _ h l = cc
