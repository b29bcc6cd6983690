-- What a judgement leaves open: nothing.
use Rattle.std.specs.Prelude.{◌≡◌, ◌↔◌, ◌⊎◌, ℤ, Bool, true, Option}
use Rattle.sample_validator.specs.Rules.{Accepts, BreaksRule}
use Rattle.sample_validator.specs.declared.rules.Rules.{Rules}
use Rattle.sample_validator.specs.declared.rules.Violation.{Violation}

-- a value is accepted, or it breaks a rule
abbrev pub AcceptsOrBreaks : Type 0
AcceptsOrBreaks = (rules : Rules) (o : Option ℤ) → Accepts rules o ⊎ ((v : Violation) × BreaksRule rules o v)

-- and not both
abbrev pub NotBoth : Type 0
NotBoth = (rules : Rules) (o : Option ℤ) (v : Violation) → Accepts rules o → BreaksRule rules o v → ⊥

-- the rule that is told is one
abbrev pub OneViolation : Type 0
OneViolation = (rules : Rules) (o : Option ℤ) (v w : Violation) → BreaksRule rules o v → BreaksRule rules o w → v ≡ w

-- values are equal where they mean the same
abbrev pub EqualByMeaning : {A M : Type 0} → (A → A → Bool) → (A → M) → Type 0
EqualByMeaning {A} same meaning = (a b : A) → (same a b ≡ true) ↔ (meaning a ≡ meaning b)
