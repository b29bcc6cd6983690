-- Strings and bytes in a type of one's own: they are read where they lie, and read back.
use Rattle.std.proofs.Common.{◌≡◌, ◌∙◌, ℕ, ◌^◌, ◌<◌, List, [], ◌++◌, length, drop, true, Result, Ok, Err, refl, sym, ap}
use Rattle.std.specs.Prelude.{IsOk}
use Rattle.std.proofs.lemmas.Bool.{le-ltb}
use Rattle.std.specs.Str.{is_utf8}
use Rattle.buffa_bytes.specs.declared.error.DecodeError.{DecodeError}
use Rattle.buffa_bytes.specs.Readings.{varint_at, taken, delimited_at, FullOnlyIf, GivesUnlessFull}
use Rattle.buffa_bytes.specs.Unread.{IsFrontOf}
use Rattle.buffa_bytes.specs.Values.{delimited_encoding}
use Rattle.buffa_bytes.specs.Delimited.{text_as, string_as, bytes_as}
use Rattle.buffa_bytes.proofs.DelimitedLemmas.{after_length, delimited_back, taken_sound}
use Rattle.buffa_bytes.proofs.FullLemmas.{varint_no_full}
use Rattle.buffa_bytes.proofs.FieldLemmas.{ok_same}
use Rattle.buffa_bytes.proofs.StepLemmas.{agree_ok}

-- a text that means v by of
pub own_string_back : {A : Type 0} (of : List ℕ → A) (text : List ℕ) (v : A) (rest : List ℕ) → length text < 2 ^ 64 → is_utf8 text ≡ true → of text ≡ v → string_as of (delimited_encoding text ++ rest) ≡ Ok (v, rest)
own_string_back of text v rest h good e = rw (delimited_back text rest h, good, e) refl

-- bytes that mean v by of
pub own_bytes_back : {A : Type 0} (of : List ℕ → A) (bytes : List ℕ) (v : A) (rest : List ℕ) → length bytes < 2 ^ 64 → of bytes ≡ v → bytes_as of (delimited_encoding bytes ++ rest) ≡ Ok (v, rest)
own_bytes_back of bytes v rest h e = rw (delimited_back bytes rest h, e) refl

-- the front of the bytes is what is taken of them
pub front_taken : (n : ℕ) (part all : List ℕ) → IsFrontOf part n all → taken n all ≡ Ok (part, drop n all)
unfolding taken
front_taken n part all f = rw (le-ltb (length all) n f.fits) (ap (λ z. Ok (z, drop n all)) (sym f.is))

-- a string whose bytes lie at the front, after their length
pub string_in_place : {S A : Type 0} (meaning : S → A) (of : List ℕ → A) (r : Result S DecodeError) (n : ℕ) (bs mid part new : List ℕ) → varint_at bs ≡ Ok (n, mid) → IsFrontOf part n mid → new ≡ drop n mid →
    GivesUnlessFull meaning r (text_as of part) → GivesUnlessFull (λ s. (meaning s, new)) r (string_as of bs)
string_in_place meaning of (Ok s) n bs mid part new v f e h = rw (v, front_taken n part mid f, h, e) refl
string_in_place meaning of (Err d) n bs mid part new v f e h = λ ne. rw (v, front_taken n part mid f, h ne) refl

-- such bytes are whole
pub whole_in_place : {S : Type 0} (r : Result S DecodeError) (n : ℕ) (bs mid part : List ℕ) → varint_at bs ≡ Ok (n, mid) → IsFrontOf part n mid → FullOnlyIf r (IsOk (delimited_at bs))
whole_in_place (Ok s) n bs mid part v f = tt
whole_in_place (Err d) n bs mid part v f = λ full. rw (v, front_taken n part mid f) refl

-- a fault of the length, as `?` hands it on, is no lack of memory
pub length_no_full : {S : Type 0} {r : Result S DecodeError} {e d : DecodeError} → r ≡ Err e → e ≡ d → (bs : List ℕ) → varint_at bs ≡ Err d → FullOnlyIf r (IsOk (delimited_at bs))
length_no_full is same bs h = rw (is, same) (varint_no_full bs _ h)

-- ---- no bytes

-- the bytes at the front, behind their length, are none
pub none_in_place : (n : ℕ) (bs mid part rest : List ℕ) → varint_at bs ≡ Ok (n, mid) → IsFrontOf part n mid → delimited_at bs ≡ Ok ([], rest) → part ≡ []
none_in_place n bs mid part rest v f e = ap (λ (p : List ℕ × List ℕ). p.0) (ok_same (sym (front_taken n part mid f) ∙ (sym (after_length n bs mid v) ∙ e)))

-- their length is 0
pub none_taken : (n : ℕ) (bs mid rest : List ℕ) → varint_at bs ≡ Ok (n, mid) → delimited_at bs ≡ Ok ([], rest) → n ≡ 0
none_taken n bs mid rest v e = sym (agree_ok (taken n mid) ([], rest) (taken_sound n mid) (sym (after_length n bs mid v) ∙ e)).0
