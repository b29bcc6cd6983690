-- What is true where a map field wasn't passed on, and of the bytes where it was.
use Rattle.std.specs.Prelude.{◌≡◌, ◌+◌, ◌++◌, ℕ, ℤ, Bool, true, List, []}
use Rattle.buffa_bytes.specs.declared.error.DecodeError.{DecodeError}
use Rattle.buffa_bytes.specs.declared.error.DecodeError.TheVariants.{ElementMemoryLimitExceeded, OutOfMemory, UnknownFieldLimitExceeded}
use Rattle.buffa_wire.specs.BudgetLeft.{BudgetLeft, defaults}
use Rattle.buffa_wire.specs.Enums.{Numbers}
use Rattle.buffa_wire.specs.Records.{Held}
use Rattle.buffa_map.specs.Codec.{Reading, Writing}
use Rattle.buffa_map.specs.Enums.{ClosedFits, closed_reading, closed_writing}
use Rattle.buffa_map.specs.Merge.{ReadsRun, Rules, RefusesRun, state}
use Rattle.buffa_map.specs.Pairs.{SamePairs}
use Rattle.buffa_map.specs.Rewrite.{MatchRefusal, Ordered, RefusesDecoding, RefusesEncoding, RewritesRun}
use Rattle.buffa_map.specs.Run.{EntryRecord, Run, fold_entries, undeclared_records}
use Rattle.buffa_map.specs.declared.rewrite.RewriteError.{RewriteError}
use Rattle.sample_types.specs.declared.passed_on.PassFault.{PassFault}
use Rattle.sample_types.specs.declared.passed_on.PassFault.TheVariants.{Decode, Rewrite}

-- memory or a budget ran out
abbrev pub IsShortage : DecodeError → Type 0
IsShortage OutOfMemory = Unit {0}
IsShortage UnknownFieldLimitExceeded = Unit {0}
IsShortage ElementMemoryLimitExceeded = Unit {0}
IsShortage _ = ⊥

-- P of the error, if the field wasn't rewritten; and of the fault, if the rewrite wasn't read
abbrev pub IfRefused : (RewriteError → Type 0) → PassFault → Type 0
IfRefused P (Rewrite e) = P e
IfRefused P (Decode f) = Unit {0}

abbrev pub IfUnread : (DecodeError → Type 0) → PassFault → Type 0
IfUnread P (Rewrite e) = Unit {0}
IfUnread P (Decode f) = P f

-- how a reader of the enum e reads a field, where a key costs so many units, and the number of an enum four
abbrev pub reader_of : {K : Type 0} → Reading K → ℕ → Numbers → (K → K → Bool) → Bool → ℕ → ℕ → Rules K ℤ
reader_of key cost e same ordered d n =
    record { key = key; val = closed_reading e; same = same; keeps_order = ordered; depth = d; number = n; cost = cost + 4; keeps_undeclared = true }

-- A proxy: how the older reader, of the enum of these numbers, and the newer one read a field, at a depth and of a number;
-- and how keys are written.
pub record Proxy (K : Type 0) : Type 0 where
  pub older : ℕ → ℕ → Rules K ℤ
  pub newer : ℕ → ℕ → Rules K ℤ
  pub key : Writing K
  pub numbers : Numbers

-- by how keys are read, what one costs, and how it is written; by the older enum and the newer one; and by the keys that are
-- one, and whether the order is kept, in the older reader's map and in the newer one's
abbrev pub proxy : {K : Type 0} → Reading K → ℕ → Writing K → Numbers → Numbers → (K → K → Bool) → Bool → (K → K → Bool) → Bool → Proxy K
proxy key cost writing e f same ordered other keeps =
    record { older = reader_of key cost e same ordered; newer = reader_of key cost f other keeps; key = writing; numbers = e }

-- the bytes are the records of these entries to a reader
abbrev pub RunTo : {K : Type 0} → Rules K ℤ → List ℕ → List (EntryRecord K ℤ) → Type 0
RunTo r bytes es = Run r.key r.val r.depth r.number bytes es

module _ {K : Type 0} (p : Proxy K) (KeyFits : K → Type 0) (d n : ℕ) (bytes : List ℕ) where
  -- the bytes are a run to both readers
  pub record IsRun : Type 0 where
    pub older_entries : List (EntryRecord K ℤ)
    pub older_run : RunTo (p.older d n) bytes older_entries
    pub newer_entries : List (EntryRecord K ℤ)
    pub newer_run : RunTo (p.newer d n) bytes newer_entries

  -- what the newer reader doesn't declare is kept as it is in the run
  abbrev pub KeepsRun : Held → Held → Type 0
  KeepsRun old new = (fs : List (EntryRecord K ℤ)) → RunTo (p.newer d n) bytes fs → new.records ≡ old.records ++ undeclared_records n fs

  -- where the run is ordered, the newer reader's map is what the run itself makes of it
  abbrev pub MeansRun : List (K × ℤ) → List (K × ℤ) → Type 0
  MeansRun old new =
      let same = (p.newer d n).same in
      (es fs : List (EntryRecord K ℤ)) → RunTo (p.older d n) bytes es → RunTo (p.newer d n) bytes fs → Ordered same es fs → SamePairs same (fold_entries same old fs) new

  -- Why the bytes weren't rewritten, where the map was left with these pairs, and is walked so: the fault that reading them into
  -- an empty map stopped at; or they are a run, and the error of its encoding.
  abbrev pub NotRewritten : (List (K × ℤ) → Type 0) → List (K × ℤ) → RewriteError → Type 0
  NotRewritten walks pairs e =
      (over : BudgetLeft) × (rest : List ℕ) × (written : List ℕ)
      × MatchRefusal e (RefusesDecoding (p.older d n) defaults bytes pairs over rest [] written)
      (RefusesEncoding (p.older d n) p.key closed_writing walks defaults bytes pairs over rest [] written 0)

  -- the older reader read the bytes from the default budget, filled are the pairs that they make of the empty map, and out is
  -- a rewrite of the run
  pub record IsRewrittenByOlder (filled : List (K × ℤ)) (out : List ℕ) : Type 0 where
    pub left : BudgetLeft
    pub rewrites : RewritesRun (p.older d n) p.key closed_writing KeyFits (ClosedFits p.numbers) (λ _. Unit {0}) defaults bytes filled left [] [] out 0 0

  -- the older reader rewrote the bytes; and the newer one read the whole rewrite
  pub record ReadsRewrite (filled old : List (K × ℤ)) (before : Held) (new : List (K × ℤ)) (after : Held) : Type 0 where
    pub out : List ℕ
    pub over : BudgetLeft
    pub rewritten : IsRewrittenByOlder filled out
    pub reads : ReadsRun (p.newer d n) (state old before.records defaults) out (state new after.records over) []

  -- The bytes are a run to both readers, and the older one rewrote them. The newer one read the entries that begin the
  -- rewrite, which stand; f is why not what follows them: memory or the budget ran out, for bytes that are a run have no
  -- other fault.
  pub record Stopped (filled old : List (K × ℤ)) (before : Held) (new : List (K × ℤ)) (after : Held) (f : DecodeError) : Type 0 where
    pub out : List ℕ
    pub over : BudgetLeft
    pub unread : List ℕ
    pub run : IsRun
    pub rewritten : IsRewrittenByOlder filled out
    pub stops : RefusesRun (p.newer d n) (state old before.records defaults) out (state new after.records over) unread f
    pub short : IsShortage f
