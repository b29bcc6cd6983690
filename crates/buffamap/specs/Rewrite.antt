-- What `rewrite N` answers: a rewrite of a run, its map's pairs in the order of their keys, and behind them the
-- entries with a value that is undeclared.
use Rattle.std.specs.Prelude.{◌≡◌, ◌≢◌, ℕ, ℤ, List, [], codes, FitsSigned, Option, Some, None, Result, Ok, Err, ◌⊎◌}
use Rattle.std.specs.Int.{w32}
use Rattle.std.specs.List.Sorted.{IsStrictlySortedBy}
use Rattle.std.specs.Map.{keys_of}
use Rattle.std.specs.Ordering.{int_cmp, int_eq}
use Rattle.buffa_bytes.specs.declared.error.DecodeError.{DecodeError}
use Rattle.buffa_bytes.specs.declared.error.DecodeError.TheVariants as of_bytes
use Rattle.buffa_bytes.specs.declared.error.EncodeError.TheVariants as of_encoding
use Rattle.buffa_wire.specs.BudgetLeft.{BudgetLeft, defaults}
use Rattle.buffa_wire.specs.Enums.{Numbers, Refines}
use Rattle.buffa_bytes.specs.ErrorText.{decode_error_text}
use Rattle.buffa_map.specs.Codec.{Reading}
use Rattle.buffa_map.specs.Enums.{ClosedFits, closed_reading, closed_writing}
use Rattle.buffa_map.specs.Pairs.{ListsOnce, means}
use Rattle.buffa_map.specs.Rewrite.{IsRewrite, KeepsMeaning}
use Rattle.buffa_map.specs.Run.{EntryRecord, Run, fold_entries}
use Rattle.buffa_map.specs.RunReading.{run_of}
use Rattle.buffa_map.specs.Encoding.{HasEncoding}
use Rattle.buffa_map.specs.declared.rewrite.RewriteError.{RewriteError}
use Rattle.buffa_map.specs.declared.rewrite.RewriteError.TheVariants.{Decode, Encode}
use Rattle.buffamap.specs.Choice.{choice_number, two_numbers}
use Rattle.buffa_map.specs.Scalars.{int32_reading, int32_writing}
use Rattle.buffamap.specs.Forms.{hex_bytes, without_newline}
use Rattle.buffamap.specs.Reply.{Reply, bad_input, success, fault, hex_line}
use Rattle.buffamap.specs.declared.choice.Choice.{Choice}

-- a key and the number of a value
abbrev pub ChoicePair : Type 0
ChoicePair = ℤ × ℤ

-- an entry of a run
abbrev pub Entry : Type 0
Entry = EntryRecord ℤ ℤ

abbrev pub choice_reading : Reading ℤ
choice_reading = closed_reading two_numbers

-- the entries of a run and what is over, or the first fault: map<int32, E>, 100 levels deep, an entry of
-- 4 + 4 units, and an unknown field for each that is kept
abbrev pub choice_run : ℕ → List ℕ → Result (List Entry × BudgetLeft) DecodeError
choice_run n bytes = run_of int32_reading choice_reading 100 n 8 1 defaults bytes

-- what is seen of a map's entries
abbrev pub choices_of : List (ℤ × Choice) → List ChoicePair
choices_of es = means (λ k. k) choice_number es

-- out is a rewrite of the entries, the pairs of their map in the order of the keys
abbrev pub RewritesTo : ℕ → List Entry → List ℕ → Type 0
RewritesTo n es out =
    (w : IsRewrite int_eq int32_writing closed_writing (FitsSigned w32) (ClosedFits two_numbers) n es out)
    × IsStrictlySortedBy int_cmp (keys_of w.0)

-- the entries' map has an entry that is too long for its length to be a varint
abbrev pub HasNoRewrite : List Entry → Type 0
HasNoRewrite es =
    (l : List ChoicePair) × ListsOnce int_eq (fold_entries int_eq [] es) l × IsStrictlySortedBy int_cmp (keys_of l)
    × (HasEncoding int32_writing closed_writing l → ⊥)

-- out is a rewrite of a run; or the run has none
abbrev pub RunRewritesTo : ℕ → Result (List Entry × BudgetLeft) DecodeError → List ℕ → Type 0
RunRewritesTo n (Ok r) out = RewritesTo n r.0 out
RunRewritesTo n (Err f) out = ⊥

abbrev pub RunHasNoRewrite : Result (List Entry × BudgetLeft) DecodeError → Type 0
RunHasNoRewrite (Ok r) = HasNoRewrite r.0
RunHasNoRewrite (Err f) = ⊥

-- why a run wasn't rewritten, memory aside
abbrev pub IsRewriteError : Result (List Entry × BudgetLeft) DecodeError → RewriteError → Type 0
IsRewriteError run (Decode f) = f ≢ of_bytes.OutOfMemory → run ≡ Err f
IsRewriteError run (Encode e) = e ≢ of_encoding.OutOfMemory → (e ≡ of_encoding.MessageTooLarge) × RunHasNoRewrite run

-- the rewrite in hexadecimal; or the fault
abbrev pub IsRewritten : ℕ → Result (List Entry × BudgetLeft) DecodeError → Reply → Type 0
IsRewritten n (Ok r) reply =
    ((out : List ℕ) × RewritesTo n r.0 out × (reply ≡ success (hex_line out)))
    ⊎ (HasNoRewrite r.0 × (reply ≡ fault (codes "MessageTooLarge")))
IsRewritten n (Err f) reply = reply ≡ fault (decode_error_text f)

abbrev pub IsRewrittenOf : ℕ → Option (List ℕ) → Reply → Type 0
IsRewrittenOf n None reply = reply ≡ bad_input
IsRewrittenOf n (Some bytes) reply = IsRewritten n (choice_run n bytes) reply

-- the input is the run in hexadecimal, which one newline may end
abbrev pub RepliesToRewrite : ℕ → List ℕ → Reply → Type 0
RepliesToRewrite n input = IsRewrittenOf n (hex_bytes (without_newline input))

-- What is answered to a run is a text in hexadecimal. A reader of an enum that declares more than 0 and 1, and has the
-- default 0, reads it as a run that keeps the meaning of the one that was given.
abbrev pub RewriteKeepsMeaning : ℕ → Type 0
RewriteKeepsMeaning n =
    (f : Numbers) → Refines two_numbers f → (input bytes text : List ℕ) → hex_bytes (without_newline input) ≡ Some bytes →
    RepliesToRewrite n input (success text) → (es fs : List Entry) →
    Run int32_reading choice_reading 100 n bytes es → Run int32_reading (closed_reading f) 100 n bytes fs →
    (out : List ℕ) × (gs : List Entry) × (text ≡ hex_line out) × Run int32_reading (closed_reading f) 100 n out gs × KeepsMeaning int_eq es fs gs
