-- Texts that are one where they differ in the case of ASCII letters alone.
use Rattle.std.specs.Prelude.{ℕ, Bool, List, map, nat_eq, string_bytes}
use Rattle.std.specs.Char.{to_ascii_lowercase}
use Rattle.std.specs.Cmp.Lexicographic.{pointwise}
use Rattle.std.specs.Ordering.{on}
use Rattle.sample_types.specs.declared.word.Word.{Word}

abbrev pub lower : List ℕ → List ℕ
lower text = map to_ascii_lowercase text

abbrev pub same_letters : List ℕ → List ℕ → Bool
same_letters = on lower (pointwise nat_eq)

-- the pairs, each word as its bytes
abbrev pub spelled : {V : Type 0} → List (Word × V) → List (List ℕ × V)
spelled = map (λ p. (string_bytes p.0.text, p.1))
