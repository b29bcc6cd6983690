-- Enums as readers know them. Source: the protobuf language guide, "Enumerations".
use Rattle.std.specs.Prelude.{◌≡◌, ℤ, Bool, true, Option, is_some}

-- an enum by its numbers: which it declares, and that of its default
pub record Numbers : Type 0 where
  pub declares : ℤ → Bool
  pub blank : ℤ

-- the enum of a type, where each number has so a value or none
abbrev pub numbers : {E : Type 0} → (ℤ → Option E) → ℤ → Numbers
numbers of blank = record { declares = λ n. is_some (of n); blank = blank }

-- the default is a value of the enum
abbrev pub DeclaresBlank : Numbers → Type 0
DeclaresBlank e = e.declares e.blank ≡ true

-- f declares each number that e declares, and their defaults have one number
abbrev pub Refines : Numbers → Numbers → Type 0
Refines e f = ((n : ℤ) → e.declares n ≡ true → f.declares n ≡ true) × (e.blank ≡ f.blank)

-- What a value of an open enum means: whether it is one of the declared values, and its number. A number as
-- it is read: a declared value where one has it.
abbrev pub open_number : {E : Type 0} → (ℤ → Option E) → ℤ → Bool × ℤ
open_number of n = (is_some (of n), n)
