-- What `read N` answers: the pairs of a run, a line each.
use Rattle.std.specs.Prelude.{◌≡◌, ℕ, ℤ, List, [], Option, Some, None, Result, Ok, Err}
use Rattle.buffa_bytes.specs.declared.error.DecodeError.{DecodeError}
use Rattle.buffa_bytes.specs.ErrorText.{decode_error_text}
use Rattle.buffa_wire.specs.BudgetLeft.{BudgetLeft, defaults}
use Rattle.buffa_map.specs.Pairs.{SamePairs}
use Rattle.buffa_map.specs.Run.{fold_entries, EntryRecord}
use Rattle.buffa_map.specs.RunReading.{run_of}
use Rattle.buffa_map.specs.Scalars.{int32_reading, text_reading}
use Rattle.buffamap.specs.Forms.{hex_bytes, without_newline}
use Rattle.buffamap.specs.Lines.{ListedInOrder, Pair, lines_of, same_key}
use Rattle.buffamap.specs.Reply.{Reply, bad_input, success, fault}

-- the entries of a run and what is over, or the first fault: map<string, int32>, 100 levels deep, an entry of
-- 24 + 4 units, where none is kept
abbrev pub run_from : ℕ → List ℕ → Result (List (EntryRecord (List ℕ) ℤ) × BudgetLeft) DecodeError
run_from n bytes = run_of text_reading int32_reading 100 n 28 0 defaults bytes

-- these are the pairs of what the run means
abbrev pub ArePairsOfRun : Result (List (EntryRecord (List ℕ) ℤ) × BudgetLeft) DecodeError → List Pair → Type 0
ArePairsOfRun (Ok r) ps = SamePairs same_key (fold_entries same_key [] r.0) ps
ArePairsOfRun (Err f) ps = ⊥

-- the lines of what a run means, in the order of the keys' bytes; or the fault
abbrev pub RepliesToRun : Result (List (EntryRecord (List ℕ) ℤ) × BudgetLeft) DecodeError → Reply → Type 0
RepliesToRun (Ok r) reply = (ps : List Pair) × ListedInOrder (fold_entries same_key [] r.0) ps × (reply ≡ success (lines_of ps))
RepliesToRun (Err f) reply = reply ≡ fault (decode_error_text f)

abbrev pub RepliesToBytes : ℕ → Option (List ℕ) → Reply → Type 0
RepliesToBytes n None reply = reply ≡ bad_input
RepliesToBytes n (Some bytes) reply = RepliesToRun (run_from n bytes) reply

-- the input is the run in hexadecimal, which one newline may end
abbrev pub RepliesToRead : ℕ → List ℕ → Reply → Type 0
RepliesToRead n input = RepliesToBytes n (hex_bytes (without_newline input))
