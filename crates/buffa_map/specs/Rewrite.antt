-- Rewrites: an older reader, of one enum, reads a run, and writes the map and behind it the entries that it doesn't
-- know. Besides: when a rewrite means to a newer reader, whose enum declares more, what the run means; and why one was refused.
use Rattle.std.specs.Prelude.{◌≡◌, ◌≢◌, ◌+◌, ◌<◌, ◌≤◌, length, ℕ, Bool, true, ◌&&◌, not, List, [], ◌∷◌, ◌++◌, ◌⊎◌, Option, None, Some, IfSome, OnOk, Result, Ok, Err, MatchResult}
use Rattle.std.specs.List.{filter}
use Rattle.buffa_wire.specs.BudgetLeft.{BudgetLeft}
use Rattle.buffa_wire.specs.Encoding.{records_encoding}
use Rattle.buffa_wire.specs.Records.{FieldData}
use Rattle.buffa_bytes.specs.Written.{WritesFront}
use Rattle.buffa_bytes.specs.declared.error.DecodeError.{DecodeError}
use Rattle.buffa_bytes.specs.declared.error.EncodeError.{EncodeError}
use Rattle.buffa_bytes.specs.declared.error.EncodeError.TheVariants.{GroupRefused, MessageTooLarge, OutOfMemory}
use Rattle.buffa_map.specs.Codec.{Writing}
use Rattle.buffa_map.specs.Pairs.{InOrder, ListsOnce, SamePairs}
use Rattle.buffa_map.specs.Merge.{ReadsRun, RefusesRun, Rules, state}
use Rattle.buffa_map.specs.Run.{EntryRecord, Run, fold_entries, undeclared, undeclared_records}
use Rattle.buffa_map.specs.Encoding.{AllHold, HasEncoding, RefusesField, UsesRoomOf, field_encoding}
use Rattle.buffa_bytes.specs.ErrorText.{decode_error_text, encode_error_text}
use Rattle.buffa_map.specs.declared.rewrite.RewriteError.{RewriteError}
use Rattle.buffa_map.specs.declared.rewrite.RewriteError.TheVariants.{Decode, Encode}

-- out is an encoding of the map that the entries es make of the empty one, its pairs in any order, and behind it a
-- record for each entry of es that is undeclared, in order
abbrev pub IsRewrite : {K V : Type 0} → (K → K → Bool) → Writing K → Writing V → (K → Type 0) → (V → Type 0) → ℕ → List (EntryRecord K V) → List ℕ → Type 0
IsRewrite {K} {V} eq key val KeyFits ValFits n es out =
    (l : List (K × V)) × ListsOnce eq (fold_entries eq [] es) l × HasEncoding key val l × AllHold KeyFits ValFits l × (out ≡ field_encoding key val n l ++ records_encoding (undeclared_records n es))

-- an entry to two readers of one run: its key, and whether the older reader's enum declares its value, and the newer's
pub record SeenByTwo (K : Type 0) : Type 0 where
  pub key : K
  pub known_to_older : Bool
  pub known_to_newer : Bool

-- the entries of one run, read by two readers
abbrev pub seen : {K V : Type 0} → List (EntryRecord K V) → List (EntryRecord K V) → List (SeenByTwo K)
seen [] fs = []
seen (x ∷ es) [] = []
seen (x ∷ es) (y ∷ fs) = record { key = y.parts.key; known_to_older = x.parts.known; known_to_newer = y.parts.known } ∷ seen es fs

-- only the newer reader's enum declares it
abbrev pub is_new : {K : Type 0} → SeenByTwo K → Bool
is_new x = x.known_to_newer && not x.known_to_older

abbrev pub first : {A : Type 0} → List A → Option A
first [] = None
first (x ∷ xs) = Some x

abbrev pub last : {A : Type 0} → List A → Option A
last [] = None
last {A} (x ∷ xs) = elim (last xs) as (λ _. Option A) [ None ↦ Some x | Some y ↦ Some y ]

-- Of the entries with one key: if one is new, then the last that the newer reader knows is new, and the
-- first that it knows has the very key of the first that the older one knows, if that knows any.
abbrev pub IsOrderedClass : {K : Type 0} → List (SeenByTwo K) → Type 0
IsOrderedClass xs =
    filter is_new xs ≢ [] →
    IfSome (last (filter (λ x. x.known_to_newer) xs)) (λ x. is_new x ≡ true)
    × IfSome (first (filter (λ x. x.known_to_older) xs)) (λ x. IfSome (first (filter (λ y. y.known_to_newer) xs)) (λ y. y.key ≡ x.key))

-- the order condition, for each class of entries with equal keys
abbrev pub Ordered : {K V : Type 0} → (K → K → Bool) → List (EntryRecord K V) → List (EntryRecord K V) → Type 0
Ordered {K} eq es fs = (q : K) → IsOrderedClass (filter (λ x. eq q x.key) (seen es fs))

-- What the entries gs of a rewrite have to do with the entries fs of the run, both as the newer reader has
-- them, where es are the run's to the older one. What the newer reader keeps is kept, in order; if the
-- run is ordered, both make one map of any old map; and only then do both make one map of the empty one.
abbrev pub KeepsMeaning : {K V : Type 0} → (K → K → Bool) → List (EntryRecord K V) → List (EntryRecord K V) → List (EntryRecord K V) → Type 0
KeepsMeaning {K} {V} eq es fs gs =
    (undeclared gs ≡ undeclared fs)
    × (Ordered eq es fs → (m : List (K × V)) → SamePairs eq (fold_entries eq m gs) (fold_entries eq m fs))
    × (SamePairs eq (fold_entries eq [] gs) (fold_entries eq [] fs) → Ordered eq es fs)

-- ---- what is written

module _ {K V : Type 0} (key : Writing K) (val : Writing V) (n : ℕ) (kept : List (ℕ × FieldData)) (old new : List ℕ) where
  -- Memory ran out in the encoding of l, or behind it, after a beginning of the kept records; or an entry of l is too
  -- long, and the records of the pairs before it were written.
  abbrev pub RefusesRewrite : List (K × V) → EncodeError → Type 0
  RefusesRewrite l OutOfMemory =
      RefusesField key val n old new l OutOfMemory
      ⊎ (HasEncoding key val l × WritesFront (old ++ field_encoding key val n l) (records_encoding kept) new)
  RefusesRewrite l MessageTooLarge = RefusesField key val n old new l MessageTooLarge
  RefusesRewrite l (GroupRefused e) = ⊥

  -- the encoding of l and of the kept records was written, or refused
  abbrev pub WritesRewrite : {T : Type 0} → Result T EncodeError → List (K × V) → Type 0
  WritesRewrite r l = MatchResult r (λ _. HasEncoding key val l × (new ≡ old ++ (field_encoding key val n l ++ records_encoding kept))) (RefusesRewrite l)

-- a map was walked once, and its encoding and the kept records' were written, or refused; what had room wasn't
-- refused
pub record WritesWalk {K V : Type 0} (eq : K → K → Bool) (Walks : List (K × V) → Type 0) (key : Writing K) (val : Writing V) (KeyFits : K → Type 0) (ValFits : V → Type 0) (n : ℕ) (pairs : List (K × V)) (kept : List (ℕ × FieldData)) (old : List ℕ) (before : ℕ) {T : Type 0} (r : Result T EncodeError) (new : List ℕ) (after : ℕ) : Type 0 where
  pub walk : List (K × V)
  pub once : ListsOnce eq pairs walk
  pub encoding : WritesRewrite key val n kept old new r walk
  pub fits : OnOk r (AllHold KeyFits ValFits walk)
  pub room : UsesRoomOf r before (field_encoding key val n walk ++ records_encoding kept) after
  pub walks : Walks walk

-- ---- what the clauses of a rewrite say

-- P, where the bytes were read: the call succeeded, or the encoding was refused
abbrev pub WhereDecoded : {T : Type 0} → Result T RewriteError → Type 0 → Type 0
WhereDecoded (Ok x) P = P
WhereDecoded (Err (Decode f)) P = Unit {0}
WhereDecoded (Err (Encode e)) P = P

-- P of the fault, where the bytes were refused
abbrev pub IfNotDecoded : {T : Type 0} → Result T RewriteError → (DecodeError → Type 0) → Type 0
IfNotDecoded (Ok x) P = Unit {0}
IfNotDecoded (Err (Decode f)) P = P f
IfNotDecoded (Err (Encode e)) P = Unit {0}

-- P of the error, where the encoding was refused
abbrev pub IfNotEncoded : {T : Type 0} → Result T RewriteError → (EncodeError → Type 0) → Type 0
IfNotEncoded (Ok x) P = Unit {0}
IfNotEncoded (Err (Decode f)) P = Unit {0}
IfNotEncoded (Err (Encode e)) P = P e

-- P of the entries that the bytes are a run of
abbrev pub ForEntriesOf : {K V : Type 0} → Rules K V → List ℕ → (List (EntryRecord K V) → Type 0) → Type 0
ForEntriesOf {K} {V} r bytes P = (es : List (EntryRecord K V)) → Run r.key r.val r.depth r.number bytes es → P es

-- how a map field is written: its keys, its values, and under which number
pub record FieldWriting (K V : Type 0) : Type 0 where
  pub key : Writing K
  pub val : Writing V
  pub number : ℕ

abbrev pub field_writing : {K V : Type 0} → Writing K → Writing V → ℕ → FieldWriting K V
field_writing key val number = record { key = key; val = val; number = number }

-- the records of the pairs l, in order, and behind them a record for each entry of es that is undeclared
abbrev pub rewrite_encoding : {K V : Type 0} → FieldWriting K V → List (K × V) → List (EntryRecord K V) → List ℕ
rewrite_encoding w l es = field_encoding w.key w.val w.number l ++ records_encoding (undeclared_records w.number es)

-- e is why that encoding wasn't written whole behind the old bytes: new are these and a beginning of it
abbrev pub StopsRewrite : {K V : Type 0} → FieldWriting K V → List (K × V) → List (EntryRecord K V) → List ℕ → List ℕ → EncodeError → Type 0
StopsRewrite w l es old new e = RefusesRewrite w.key w.val w.number (undeclared_records w.number es) old new l e

-- ---- what a rewrite does, all of it: the law `rewrites_are_whole` has it of the clauses

-- The bytes are a run, which was read into an empty map, and what is undeclared in it into an empty list. Behind what stood in
-- the sink is its rewrite, by a walk that the map has; and room for no more than that was used. Of the sink, `old` is what stood in
-- it and `written` what stands in it now, and it had room for `before` bytes and has room for `after`.
pub record RewritesRun {K V : Type 0} (r : Rules K V) (key : Writing K) (val : Writing V) (KeyFits : K → Type 0) (ValFits : V → Type 0) (Walks : List (K × V) → Type 0) (left : BudgetLeft) (bytes : List ℕ) (new : List (K × V)) (left_after : BudgetLeft) (rest : List ℕ) (old written : List ℕ) (before after : ℕ) : Type 0 where
  pub kept : List (ℕ × FieldData)
  pub read : ReadsRun r (state [] [] left) bytes (state new kept left_after) rest
  pub out : List ℕ
  pub rewrite : IsRewrite r.same key val KeyFits ValFits r.number read.entries out
  -- rewrite.0 is the list by whose order the pairs are written
  pub walks : Walks rewrite.0
  pub encoding : written ≡ old ++ out
  pub ordered : r.keeps_order ≡ true → out ≡ field_encoding key val r.number (fold_entries r.same [] read.entries) ++ records_encoding (undeclared_records r.number read.entries)
  pub room : before ≤ after + length out

-- f is why the bytes were refused; the entries before it stand in the map, and nothing was written
abbrev pub RefusesDecoding : {K V : Type 0} → Rules K V → BudgetLeft → List ℕ → List (K × V) → BudgetLeft → List ℕ → List ℕ → List ℕ → DecodeError → Type 0
RefusesDecoding r left bytes new left_after unread old written f =
    (kept : List (ℕ × FieldData)) × RefusesRun r (state [] [] left) bytes (state new kept left_after) unread f × (written ≡ old)

-- The bytes were read so, and e is why the encoding wasn't written whole: out of memory only where it has no room.
pub record RefusesEncoding {K V : Type 0} (r : Rules K V) (key : Writing K) (val : Writing V) (Walks : List (K × V) → Type 0) (left : BudgetLeft) (bytes : List ℕ) (new : List (K × V)) (left_after : BudgetLeft) (rest : List ℕ) (old written : List ℕ) (before : ℕ) (e : EncodeError) : Type 0 where
  pub kept : List (ℕ × FieldData)
  pub read : ReadsRun r (state [] [] left) bytes (state new kept left_after) rest
  pub walk : List (K × V)
  pub once : ListsOnce r.same (fold_entries r.same [] read.entries) walk
  pub walked : InOrder r.keeps_order (fold_entries r.same [] read.entries) walk
  pub walks : Walks walk
  pub encoding : RefusesRewrite key val r.number (undeclared_records r.number read.entries) old written walk e
  pub room : e ≡ OutOfMemory → before < length (field_encoding key val r.number walk ++ records_encoding (undeclared_records r.number read.entries))

-- P of the fault, if the bytes were refused; and Q of the error, if the writing was
abbrev pub MatchRefusal : RewriteError → (DecodeError → Type 0) → (EncodeError → Type 0) → Type 0
MatchRefusal (Decode f) P Q = P f
MatchRefusal (Encode e) P Q = Q e

-- the text of a refusal is that of what it holds
abbrev pub rewrite_error_text : RewriteError → List ℕ
rewrite_error_text (Decode f) = decode_error_text f
rewrite_error_text (Encode e) = encode_error_text e
