-- Rules for an int32 value, and which values they accept.
use Rattle.std.specs.Prelude.{ℕ, ℤ, ◌⊎◌, ◌≡◌, true, false, Option, Some, None, IfSome, unwrap_or, List}
use Rattle.std.specs.Int.Signed.{◌≤ℤ◌, ◌<ℤ◌}
use Rattle.buffa_wire.specs.Records.{FieldData}
use Rattle.buffa_bytes.specs.declared.error.DecodeError.{DecodeError}
use Rattle.sample_validator.specs.Options.{IsMalformed, IsReadWhole, int32_option, bool_option}
use Rattle.sample_validator.specs.declared.rules.Rules.{Rules}
use Rattle.sample_validator.specs.declared.rules.Violation.{Violation}
use Rattle.sample_validator.specs.declared.rules.Violation.TheVariants.{Missing, TooSmall, TooGreat}

-- a value that is there lies within the bounds that are set, and one that is asked for is there
abbrev pub Accepts : Rules → Option ℤ → Type 0
Accepts rules None = rules.required ≡ false
Accepts rules (Some v) = IfSome rules.min (λ least. least ≤ℤ v) × IfSome rules.max (λ most. v ≤ℤ most)

-- the first rule that a value breaks: the greatest value counts only where it isn't below the least
abbrev pub BreaksRule : Rules → Option ℤ → Violation → Type 0
BreaksRule rules o Missing = (o ≡ None) × (rules.required ≡ true)
BreaksRule rules o TooSmall = (v : ℤ) × (least : ℤ) × (o ≡ Some v) × (rules.min ≡ Some least) × (v <ℤ least)
BreaksRule rules o TooGreat =
    (v : ℤ) × (most : ℤ) × (o ≡ Some v) × (rules.max ≡ Some most) × (most <ℤ v)
    × IfSome rules.min (λ least. least ≤ℤ v)

-- each record of a rule is read; or this is the fault of the first that isn't, of the least value, the greatest, and whether one
-- is asked for, in this order
abbrev pub AreRead : List (ℕ × FieldData) → Type 0
AreRead rs = IsReadWhole 50011 rs × IsReadWhole 50012 rs × IsReadWhole 50013 rs

abbrev pub AreMalformed : List (ℕ × FieldData) → DecodeError → Type 0
AreMalformed rs e = IsMalformed 50011 rs e ⊎ ((IsReadWhole 50011 rs × IsMalformed 50012 rs e) ⊎ (IsReadWhole 50011 rs × IsReadWhole 50012 rs × IsMalformed 50013 rs e))

-- the rules that options set, at numbers 50011 to 50013
abbrev pub rules_in : List (ℕ × FieldData) → Rules
rules_in rs = record { min = int32_option 50011 rs; max = int32_option 50012 rs; required = unwrap_or (bool_option 50013 rs) false }
