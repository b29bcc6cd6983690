-- Lines, their pairs, and a map that these are put into one after the other.
use Rattle.std.proofs.Common.{◌≡◌, ◌+◌, ◌<◌, ◌≤◌, ℕ, List, [], ◌∷◌, map, Option, Some, None, refl, sym, ap, ◌∙◌, drop, add-one, length, get_or, Bor, eqb}
use Rattle.std.proofs.Math.Seq.{drop-cons}
use Rattle.std.specs.Prelude.{IsUtf8}
use Rattle.std.specs.List.{slice_split}
use Rattle.std.specs.Str.{is_utf8}
use Rattle.std.proofs.lemmas.Bool.{false_from_ne_true}
use Rattle.std.proofs.lemmas.List.{drop_all, length-map}
use Rattle.std.proofs.lemmas.Str.{is_utf8-from_IsUtf8, IsUtf8-from_is_utf8}
use Rattle.buffamap.specs.Forms.{hex_bytes}
use Rattle.buffamap.specs.Lines.{Pair, key_of, pair_of, pair_of_parts, with_pair, put_line, put_lines}

-- lines after one that is no pair change nothing
pub put_none : (lines : List (List ℕ)) → put_lines lines None ≡ None
put_none [] = refl
put_none (line ∷ more) = put_none more

-- one more line
put_turn : (lines : List (Bor (List ℕ))) (i : ℕ) (d : Bor (List ℕ)) (m : Option (List Pair)) → i < length lines →
    put_lines (map (λ l. l.now) (drop i lines)) m ≡ put_lines (map (λ l. l.now) (drop (i + 1) lines)) (put_line m (pair_of (get_or lines i d).now))
put_turn lines i d m h = rw (add-one, drop-cons lines i d) refl

-- a line that is no pair ends it
pub put_refused : (lines : List (Bor (List ℕ))) (i : ℕ) (d : Bor (List ℕ)) (m : List Pair) → i < length lines → None ≡ pair_of (get_or lines i d).now →
    put_lines (map (λ l. l.now) (drop i lines)) (Some m) ≡ None
put_refused lines i d m h none =
    put_turn lines i d (Some m) h ∙ ap (λ (p : Option Pair). put_lines (map (λ l. l.now) (drop (i + 1) lines)) (put_line (Some m) p)) (sym none)
    ∙ put_none (map (λ l. l.now) (drop (i + 1) lines))

-- the pair of a line is put
pub put_done : (lines : List (Bor (List ℕ))) (i : ℕ) (d : Bor (List ℕ)) (m : List Pair) (p : Pair) → i < length lines → Some p ≡ pair_of (get_or lines i d).now →
    put_lines (map (λ l. l.now) (drop (i + 1) lines)) (Some (with_pair m p)) ≡ put_lines (map (λ l. l.now) (drop i lines)) (Some m)
put_done lines i d m p h some = sym (put_turn lines i d (Some m) h ∙ ap (λ (p : Option Pair). put_lines (map (λ l. l.now) (drop (i + 1) lines)) (put_line (Some m) p)) (sym some))

-- no line is left
pub put_end : (lines : List (Bor (List ℕ))) (i : ℕ) (m : Option (List Pair)) → length lines ≤ i → put_lines (map (λ l. l.now) (drop i lines)) m ≡ m
put_end lines i m h = rw (drop_all i lines h) refl

-- a key that is text
pub key_found : (digits bytes text : List ℕ) → Some bytes ≡ hex_bytes digits → IsUtf8 bytes → text ≡ bytes → Some text ≡ key_of digits
key_found digits bytes text d u e = rw (← d) (rw (is_utf8-from_IsUtf8 bytes u) (ap Some e))

-- a key that is none
pub key_refused : (digits bytes : List ℕ) → Some bytes ≡ hex_bytes digits → ¬ (IsUtf8 bytes) → None ≡ key_of digits
key_refused digits bytes d bad = rw (← d) (rw (false_from_ne_true (is_utf8 bytes) (λ h. bad (IsUtf8-from_is_utf8 bytes h))) refl)

-- a line of one part, or of more than two, is no pair
not_two : (parts : List (List ℕ)) → (length parts ≡ 2 → ⊥) → None ≡ pair_of_parts parts
not_two [] h = refl
not_two (a ∷ []) h = refl
not_two (a ∷ b ∷ []) h = absurd (h refl)
not_two (a ∷ b ∷ c ∷ rest) h = refl

pub no_pair : (parts : List (Bor (List ℕ))) (line : List ℕ) → map (λ p. p.now) parts ≡ slice_split (λ b. eqb b 32) line → (length parts ≡ 2 → ⊥) → None ≡ pair_of line
no_pair parts line e h = rw (← e) (not_two (map (λ p. p.now) parts) (λ two. h (simp length-map at two)))
