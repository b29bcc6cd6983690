-- What is proved of visiting members that hold messages of the message's own type: they are told as lists, and seen as slots.
use Rattle.std.proofs.Common.{◌≡◌, ℕ, ◌+◌, min, List, [], ◌∷◌, ◌++◌, Result, IsOk, sym, ap, subst, ◌∙◌}
use Rattle.buffa_bytes.specs.declared.error.EncodeError.{EncodeError}
use Rattle.buffa_wire.specs.Cache.{Cache}
use Rattle.buffa_wire.specs.Encoding.{records_encoding}
use Rattle.buffa_wire.specs.Passes.{IsNext, IsSized, IsWritten}
use Rattle.buffa_wire.specs.Pinned.{done, refusal}
use Rattle.buffa_fields.specs.Schema.{Follow, IsCounted, IsPut, Seen, Shape, visited}
use Rattle.buffa_fields.specs.facts.SchemaFacts.{counted_err, counted_none, failed, follow_rest, is_counted, is_put, put_none, sum}
use Rattle.buffa_recursive.specs.InnerMessages.{as_other}

-- a member that is told as a value of A, and seen as one of B
module _ {A B : Type 0} (to : A → B) (from : B → A) (again : (a : A) → from (to a) ≡ a) (s : Shape A A) (n : ℕ) (a : A) where
  pub other_counted : (z : Seen) (cache : ℕ) (c1 c2 : Cache) (total len new : ℕ) → IsCounted cache (sum total) c1 z → IsSized (records_encoding (s.records n a)) (s.slots a) c1 (sum len) c2 → new ≡ min (total + len) 4294967295 →
      IsCounted cache (sum new) c2 (visited (as_other to from s) n (to a) z)
  other_counted z cache c1 c2 total len new h k e =
      is_counted (s.records n (from (to a))) (s.slots (from (to a))) z cache c1 c2 total len new h (subst (λ x. IsSized (records_encoding (s.records n x)) (s.slots x) c1 (sum len) c2) (sym (again a)) k) e

  pub other_failed : (z : Seen) (cache : ℕ) (c1 c2 : Cache) (total : ℕ) (e : EncodeError) → IsCounted cache (sum total) c1 z → IsSized (records_encoding (s.records n a)) (s.slots a) c1 (failed e) c2 → (s.slots a ≡ [] → IsOk (failed e)) →
      IsCounted cache (failed e) c2 (visited (as_other to from s) n (to a) z)
  other_failed z cache c1 c2 total e h k always =
      counted_err (s.records n (from (to a))) (s.slots (from (to a))) z cache c1 c2 total e h (subst (λ x. IsSized (records_encoding (s.records n x)) (s.slots x) c1 (failed e) c2) (sym (again a)) k) (λ none. always (ap s.slots (sym (again a)) ∙ none))

  pub other_uncounted : (z : Seen) (cache : ℕ) (c : Cache) (e : EncodeError) → IsCounted cache (failed e) c z → IsCounted cache (failed e) c (visited (as_other to from s) n (to a) z)
  other_uncounted z cache c e h = counted_none (s.records n (from (to a))) (s.slots (from (to a))) z cache c e h

  pub other_put : (z : Seen) (sink cache : ℕ) (old new : List ℕ) (c1 c2 : Cache) (r : Result (Unit {0}) EncodeError) → IsPut sink cache old c1 done z → IsWritten (records_encoding (s.records n a)) (s.slots a) c1 old r c2 new →
      IsPut sink cache new c2 r (visited (as_other to from s) n (to a) z)
  other_put z sink cache old new c1 c2 r h k =
      is_put (s.records n (from (to a))) (s.slots (from (to a))) z sink cache old new c1 c2 r h (subst (λ x. IsWritten (records_encoding (s.records n x)) (s.slots x) c1 old r c2 new) (sym (again a)) k)

  pub other_unput : (z : Seen) (sink cache : ℕ) (new : List ℕ) (c : Cache) (e : EncodeError) → IsPut sink cache new c (refusal e) z → IsPut sink cache new c (refusal e) (visited (as_other to from s) n (to a) z)
  other_unput z sink cache new c e h = put_none (s.records n (from (to a))) (s.slots (from (to a))) z sink cache new c e h

  pub other_next : (c : Cache) → IsNext (s.slots (from (to a))) c → IsNext (s.slots a) c
  other_next c h = subst (λ x. IsNext (s.slots x) c) (again a) h

  pub other_rest : (rest old new : List ℕ) (c1 c2 : Cache) (r : Result (Unit {0}) EncodeError) → IsWritten (records_encoding (s.records n a)) (s.slots a) c1 old r c2 new → Follow (s.slots (from (to a)) ++ rest) done c1 → Follow rest r c2
  other_rest rest old new c1 c2 r k h = follow_rest (records_encoding (s.records n a)) (s.slots a) rest old new c1 c2 r k (subst (λ x. Follow (s.slots x ++ rest) done c1) (again a) h)
