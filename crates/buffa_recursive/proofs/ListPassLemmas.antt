-- What is proved of the passes over a list of messages of a message's own type.
use Rattle.std.proofs.Common.{◌≡◌, ℕ, ◌+◌, ◌<◌, min, List, [], ◌∷◌, length, map, take, get_or, refl, sym, ap, subst, ◌∙◌}
use Rattle.buffa_bytes.specs.declared.error.EncodeError.{EncodeError}
use Rattle.buffa_wire.specs.Cache.{Cache}
use Rattle.buffa_wire.specs.Encoding.{records_encoding}
use Rattle.buffa_wire.specs.Passes.{IsNext, IsSized, IsWritten, cap}
use Rattle.buffa_wire.specs.Pinned.{done, refusal}
use Rattle.buffa_wire.specs.Records.{FieldData}
use Rattle.buffa_fields.specs.facts.SchemaFacts.{failed, sum}
use Rattle.buffa_fields.specs.Lists.{element_records}
use Rattle.buffa_fields.specs.RepeatedMessages.{messages_slots}
use Rattle.buffa_fields.specs.facts.RepeatedMessageFacts as each

pub map_same : {X : Type 0} (xs : List X) → map (λ v. v) xs ≡ xs
map_same [] = refl
map_same {X} (x ∷ xs) = ap (λ (ys : List X). x ∷ ys) (map_same xs)

-- the passes over messages that mean themselves
module _ {X : Type 0} (field_data : X → FieldData) (encoding slots : X → List ℕ) (n : ℕ) (xs : List X) (i : ℕ) (x : X) (lt : i < length xs) (is : x ≡ get_or xs i x) where
  abbrev written : List X → List ℕ
  written vs = records_encoding (element_records field_data n vs)

  abbrev slotted : List X → List ℕ
  slotted vs = messages_slots encoding slots vs

  abbrev here : List ℕ
  here = records_encoding ((n, field_data x) ∷ [])

  abbrev here_slots : List ℕ
  here_slots = cap (length (encoding x)) ∷ slots x

  pub have_slots : slotted xs ≡ [] → ⊥
  have_slots none = each.messages_have_slots field_data encoding slots n (λ v. v) xs i x lt is (ap slotted (map_same xs) ∙ none)

  pub size_on : (c0 c1 c2 : Cache) (total len new : ℕ) → IsSized (written (take i xs)) (slotted (take i xs)) c0 (sum total) c1 → IsSized here here_slots c1 (sum len) c2 → new ≡ min (total + len) 4294967295 →
      IsSized (written (take (i + 1) xs)) (slotted (take (i + 1) xs)) c0 (sum new) c2
  size_on c0 c1 c2 total len new h k e =
      subst (λ vs. IsSized (written vs) (slotted vs) c0 (sum new) c2) (map_same (take (i + 1) xs))
      (each.size_on field_data encoding slots n (λ v. v) xs i x lt is c0 c1 c2 total len new (subst (λ vs. IsSized (written vs) (slotted vs) c0 (sum total) c1) (sym (map_same (take i xs))) h) k e)

  pub size_stops : (c0 c1 c2 : Cache) (total : ℕ) (e : EncodeError) → IsSized (written (take i xs)) (slotted (take i xs)) c0 (sum total) c1 → IsSized here here_slots c1 (failed e) c2 → IsSized (written xs) (slotted xs) c0 (failed e) c2
  size_stops c0 c1 c2 total e h k =
      subst (λ vs. IsSized (written vs) (slotted vs) c0 (failed e) c2) (map_same xs)
      (each.size_stops field_data encoding slots n (λ v. v) xs i x lt is c0 c1 c2 total e (subst (λ vs. IsSized (written vs) (slotted vs) c0 (sum total) c1) (sym (map_same (take i xs))) h) k)

  pub next_of : (c0 c1 : Cache) (b0 b1 : List ℕ) → IsNext (slotted xs) c0 → IsWritten (written (take i xs)) (slotted (take i xs)) c0 b0 done c1 b1 → IsNext here_slots c1
  next_of c0 c1 b0 b1 h k =
      each.next_of field_data encoding slots n (λ v. v) xs i x lt is c0 c1 b0 b1 (subst (λ vs. IsNext (slotted vs) c0) (sym (map_same xs)) h)
      (subst (λ vs. IsWritten (written vs) (slotted vs) c0 b0 done c1 b1) (sym (map_same (take i xs))) k)

  pub write_on : (c0 c1 c2 : Cache) (b0 b1 b2 : List ℕ) → IsWritten (written (take i xs)) (slotted (take i xs)) c0 b0 done c1 b1 → IsWritten here here_slots c1 b1 done c2 b2 →
      IsWritten (written (take (i + 1) xs)) (slotted (take (i + 1) xs)) c0 b0 done c2 b2
  write_on c0 c1 c2 b0 b1 b2 h k =
      subst (λ vs. IsWritten (written vs) (slotted vs) c0 b0 done c2 b2) (map_same (take (i + 1) xs))
      (each.write_on field_data encoding slots n (λ v. v) xs i x lt is c0 c1 c2 b0 b1 b2 (subst (λ vs. IsWritten (written vs) (slotted vs) c0 b0 done c1 b1) (sym (map_same (take i xs))) h) k)

  pub write_stops : (c0 c1 c2 : Cache) (b0 b1 b2 : List ℕ) (e : EncodeError) → IsWritten (written (take i xs)) (slotted (take i xs)) c0 b0 done c1 b1 → IsWritten here here_slots c1 b1 (refusal e) c2 b2 →
      IsWritten (written xs) (slotted xs) c0 b0 (refusal e) c2 b2
  write_stops c0 c1 c2 b0 b1 b2 e h k =
      subst (λ vs. IsWritten (written vs) (slotted vs) c0 b0 (refusal e) c2 b2) (map_same xs)
      (each.write_stops field_data encoding slots n (λ v. v) xs i x lt is c0 c1 c2 b0 b1 b2 e (subst (λ vs. IsWritten (written vs) (slotted vs) c0 b0 done c1 b1) (sym (map_same (take i xs))) h) k)
