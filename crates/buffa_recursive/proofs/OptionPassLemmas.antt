-- What is proved of the passes over one message of the type itself, which may be absent.
use Rattle.std.proofs.Common.{◌≡◌, ℕ, List, [], ◌∷◌, length, append-nil, Option, Some, None, Result, refl, sym, ap, subst, ◌∙◌}
use Rattle.buffa_bytes.specs.declared.error.EncodeError.{EncodeError}
use Rattle.buffa_wire.specs.Cache.{Cache}
use Rattle.buffa_wire.specs.Encoding.{records_encoding}
use Rattle.buffa_wire.specs.Passes.{IsNext, IsSized, IsWritten, cap}
use Rattle.buffa_wire.specs.Pinned.{done}
use Rattle.buffa_wire.specs.Records.{bytes}
use Rattle.buffa_fields.proofs.InsideLemmas.{none_written}
use Rattle.buffa_fields.specs.facts.SchemaFacts.{sum}
use Rattle.buffa_fields.specs.MemberRecords.{explicit_records}
use Rattle.buffa_fields.specs.Submessages.{message_records, message_slots}

-- ---- a message that may be absent
module _ {X : Type 0} (encoding slots : X → List ℕ) (n : ℕ) (v : Option X) where
  abbrev record_of : List ℕ
  record_of = records_encoding (message_records encoding n v)

  abbrev slots_of : List ℕ
  slots_of = message_slots encoding slots v

  pub none_sized : v ≡ None → (c : Cache) → IsSized record_of slots_of c (sum 0) c
  unfolding explicit_records message_slots
  none_sized is c = rw is (refl, λ i. record { slots = sym (append-nil c.slots) i; next = c.next })

  module _ (x : X) (is : v ≡ Some x) where
    abbrev here : List ℕ
    here = records_encoding ((n, bytes (encoding x)) ∷ [])

    abbrev here_slots : List ℕ
    here_slots = cap (length (encoding x)) ∷ slots x

    pub some_sized : (c0 c1 : Cache) (r : Result ℕ EncodeError) → IsSized here here_slots c0 r c1 → IsSized record_of slots_of c0 r c1
    unfolding explicit_records message_slots
    some_sized c0 c1 r h = rw is h

    pub some_has_slot : slots_of ≡ [] → ⊥
    unfolding message_slots
    some_has_slot none = let two = ap (message_slots encoding slots) (sym is) ∙ none in cc

    pub some_written : (c0 c1 : Cache) (b0 b1 : List ℕ) (r : Result (Unit {0}) EncodeError) → IsWritten here here_slots c0 b0 r c1 b1 → IsWritten record_of slots_of c0 b0 r c1 b1
    unfolding explicit_records message_slots
    some_written c0 c1 b0 b1 r h = rw is h

    pub some_next : (c : Cache) → IsNext slots_of c → IsNext here_slots c
    unfolding message_slots
    some_next c h = subst (λ z. IsNext (message_slots encoding slots z) c) is h

  pub none_put : v ≡ None → (c : Cache) (b : List ℕ) → IsWritten record_of slots_of c b done c b
  unfolding explicit_records message_slots
  none_put is c b = none_written (message_records encoding n v) (message_slots encoding slots v) c b (ap (message_records encoding n) is) (ap (message_slots encoding slots) is)
