-- Writes one after another, on known bytes.
use Rattle.std.proofs.Common.{◌≡◌, ◌+◌, ℕ, List, [], ◌++◌, Option, Some, None, Bool, true, false, inl, inr, sym, ap, ◌∙◌, take, drop, length, arith}
use Rattle.std.specs.Prelude.{IfSome}
use Rattle.std.proofs.Math.Seq.{take-add}
use Rattle.std.proofs.lemmas.List.{take-append-drop, append-nil}
use Rattle.std.proofs.Common.{length-drop}
use Rattle.std.specs.Io.KnownBytes.{Appends, Consumes, IsAtEnd, Keeps}
use Rattle.std.proofs.Common.{◌≢◌, ◌<◌}
use Rattle.std.proofs.KnownBytes.{Appends-kept, Appends-trans}
use Rattle.buffamap.specs.Calls.{WriteOfFails}
use Rattle.buffamap.specs.Streams.{AppendsPart, Known}

-- one more turn of a loop that writes
pub Appends_turn : (a b c : Option (List ℕ)) (text : List ℕ) (at n : ℕ) → Appends a b (take at text) → Appends b c (take n (drop at text)) → Appends a c (take (at + n) text)
Appends_turn a b c text at n h k = rw (take-add at n text) (Appends-trans a b c (take at text) (take n (drop at text)) h k)

some_left : (text : List ℕ) (at : ℕ) → at < length text → drop at text ≢ []
some_left text at h e = omega (arith, h, length-drop at text, ap length e)

-- what was written so far is a beginning of the text
pub Front_so_far : (a b c : Option (List ℕ)) (text : List ℕ) (at : ℕ) → at < length text → Appends a b (take at text) → Keeps b c → AppendsPart a c text
Front_so_far a b c text at i h k = (take at text, drop at text, sym (take-append-drop at text), some_left text at i, Appends-kept a b c (take at text) h k)

-- the same where the last write took no byte
pub Front_after_none : (a b c : Option (List ℕ)) (text : List ℕ) (at : ℕ) → at < length text → Appends a b (take at text) → Appends b c [] → AppendsPart a c text
Front_after_none a b c text at i h k = (take at text, drop at text, sym (take-append-drop at text), some_left text at i, rw (append-nil (take at text)) at (Appends-trans a b c (take at text) [] h k))

-- a text that isn't all written has a byte left, so that a call that took none has failed, and one that took some hasn't
pub failed_at : (text : List ℕ) (at n : ℕ) (failed : Bool) → at < length text → WriteOfFails failed n (drop at text) → n ≡ 0 → failed ≡ true
failed_at text at n failed i (inl h) none = h.2
failed_at text at n failed i (inr h) none = absurd (some_left text at i (h.0 none))

pub goes_on : (text : List ℕ) (n : ℕ) (failed : Bool) → WriteOfFails failed n text → n ≢ 0 → failed ≡ false
goes_on text n failed (inl h) some = absurd (some h.0)
goes_on text n failed (inr h) some = h.1

-- what was read up to the end is all that the reader had
pub read_to_end : (a b c : Known) (bytes : List ℕ) → Consumes a b bytes → Consumes b c [] → IsAtEnd c → IfSome a (λ xs. bytes ≡ xs)
read_to_end None b c bytes h k z = tt
read_to_end (Some xs) None c bytes h k z = absurd h
read_to_end (Some xs) (Some ys) None bytes h k z = absurd k
read_to_end (Some xs) (Some ys) (Some zs) bytes h k z = sym (h ∙ ap (λ l. bytes ++ l) (k ∙ z) ∙ append-nil bytes)
