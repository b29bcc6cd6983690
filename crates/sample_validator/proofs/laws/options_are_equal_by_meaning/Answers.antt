use Rattle.std.proofs.Common.{◌≡◌, ◌↔◌, ◌&&◌, ℕ, Bool, true, false, List, Option, Some, None, ap}
use Rattle.std.specs.Bool.{beq}
use Rattle.std.specs.Option.{option_eq, option_map}
use Rattle.std.proofs.lemmas.Bool.{false≢true}
use Rattle.std.proofs.lemmas.Iterator.Adapters.{option_map_id}
use Rattle.buffa_wire.specs.Equal.{held_eq}
use Rattle.buffa_wire.specs.Records.{FieldData, Held}
use Rattle.buffa_wire.proofs.RecordLemmas.{held_eq_same, held_eq_yes}
use Rattle.sample_validator.proofs.laws.options_are_equal_by_meaning.Goals as goal

abbrev said : Option Bool → Held → Option Bool × List (ℕ × FieldData)
said x h = (option_map (λ b. b) x, h.records)

reported : (x y : Option Bool) (h k : Held) → (option_eq beq x y && held_eq h k ≡ true) ↔ (said x h ≡ said y k)
reported None None h k = (λ e. λ i. (None, held_eq_same h k e i), λ e. held_eq_yes h k (ap (λ z. z.1) e))
reported None (Some y) h k = (λ e. absurd (false≢true e), λ e. let q = ap (λ z. z.0) e in cc)
reported (Some x) None h k = (λ e. absurd (false≢true e), λ e. let q = ap (λ z. z.0) e in cc)
reported (Some true) (Some true) h k = (λ e. λ i. (Some true, held_eq_same h k e i), λ e. held_eq_yes h k (ap (λ z. z.1) e))
reported (Some false) (Some false) h k = (λ e. λ i. (Some false, held_eq_same h k e i), λ e. held_eq_yes h k (ap (λ z. z.1) e))
reported (Some true) (Some false) h k = (λ e. absurd (false≢true e), λ e. let q = ap (λ z. z.0) e in cc)
reported (Some false) (Some true) h k = (λ e. absurd (false≢true e), λ e. let q = ap (λ z. z.0) e in cc)

pub returns-clause-deprecated : goal.returns-clause-deprecated
returns-clause-deprecated c = λ m. option_map_id m.deprecated

pub returns-clause-equal : goal.returns-clause-equal
returns-clause-equal c = λ a b. reported a.deprecated b.deprecated a.fields b.fields
