-- What is answered of a run, from the map that it was read into.
use Rattle.std.proofs.Common.{◌≡◌, ℕ, ℤ, List, [], ◌++◌, Result, Ok, Err, String, sym, subst}
use Rattle.std.specs.Prelude.{OnOk, nat_eq}
use Rattle.std.specs.Cmp.Lexicographic.{pointwise}
use Rattle.std.specs.List.Sorted.{IsStrictlySortedBy}
use Rattle.std.specs.Map.{keys_of}
use Rattle.std.specs.String.{string_cmp}
use Rattle.std.proofs.lemmas.Result.{on_ok_weaker}
use Rattle.buffa_bytes.specs.declared.error.DecodeError.{DecodeError}
use Rattle.buffa_wire.specs.BudgetLeft.{BudgetLeft}
use Rattle.buffa_map.specs.Pairs.{SamePairs}
use Rattle.buffa_wire.specs.Records.{FieldData}
use Rattle.buffa_map.specs.Run.{fold_entries, EntryRecord}
use Rattle.buffamap.specs.Lines.{Pair, lines_of, pairs_of, same_key}
use Rattle.buffamap.specs.Read.{ArePairsOfRun, RepliesToRun, run_from}
use Rattle.buffamap.specs.Reply.{Reply, success}
use Rattle.buffamap.proofs.OrderedLemmas.{in_order}

-- nothing is kept
abbrev NothingKept : Type 0
NothingKept = let none : List (ℕ × FieldData) = [] in none ≡ none ++ none

-- the pairs that a run was folded into are what it means
pub means : {X : Type 0} (r : Result X DecodeError) (n : ℕ) (bs : List ℕ) (new : List Pair) →
    OnOk r ((es : List (EntryRecord (List ℕ) ℤ)) × (over : BudgetLeft) × (run_from n bs ≡ Ok (es, over)) × SamePairs (pointwise nat_eq) (fold_entries (pointwise nat_eq) [] es) new × NothingKept) →
    OnOk r (ArePairsOfRun (run_from n bs) new)
means r n bs new h = on_ok_weaker r (λ k. subst (λ z. ArePairsOfRun z new) (sym k.2) k.3) h

-- the lines of a map's entries are the reply
pub replied : {Z : Type 0} (run : Result (List (EntryRecord (List ℕ) ℤ) × BudgetLeft) DecodeError) (es : List (String Z × ℤ)) (reply : Reply) → IsStrictlySortedBy string_cmp (keys_of es) →
    reply ≡ success (lines_of (pairs_of es)) → ArePairsOfRun run (pairs_of es) → RepliesToRun run reply
replied (Ok r) es reply h is m = (pairs_of es, in_order (fold_entries same_key [] r.0) es h m, is)
replied (Err f) es reply h is m = absurd m
