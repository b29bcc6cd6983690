-- The exits of passing a map field on.
use Rattle.std.proofs.Common.{◌≡◌, ◌≢◌, ◌⊎◌, ◌++◌, inl, inr, ℕ, ℤ, ◌≤◌, Bool, List, [], refl, sym, subst, arith}
use Rattle.buffa_bytes.specs.declared.error.DecodeError.{DecodeError}
use Rattle.buffa_bytes.specs.declared.error.DecodeError.TheVariants.{ElementMemoryLimitExceeded, OutOfMemory, UnknownFieldLimitExceeded}
use Rattle.buffa_wire.specs.BudgetLeft.{BudgetLeft, Lacks, plus, units, IsLimit}
use Rattle.buffa_wire.specs.Records.{FieldData}
use Rattle.buffa_map.specs.Codec.{Reading, Writing}
use Rattle.buffa_map.specs.Entry.{EntryFault}
use Rattle.buffa_map.specs.EntryReading.{charge_of}
use Rattle.buffa_map.specs.Enums.{closed_writing}
use Rattle.buffa_map_laws.specs.Laws.{OneReading}
use Rattle.buffa_map.specs.Merge.{ReadsRun, State, RefusesRun, state}
use Rattle.buffa_map.proofs.ReaderRules.{keeping}
use Rattle.buffa_map.specs.Rewrite.{MatchRefusal, RefusesDecoding, RefusesEncoding, RewritesRun}
use Rattle.buffa_map.specs.Run.{EntryRecord, ArePaid, RecordFault, Run, cost_inside}
use Rattle.buffa_map.specs.declared.rewrite.RewriteError.{RewriteError}
use Rattle.buffa_map.specs.declared.rewrite.RewriteError.TheVariants.{Decode, Encode}
use Rattle.buffa_map.proofs.StopLemmas.{broken}
use Rattle.sample_types.specs.Passed.{IsShortage}

-- a budget is its unknown fields left and its element memory left
pub left_is : (b : BudgetLeft) (u m : ℕ) → b.unknown ≡ u → b.memory ≡ m → b ≡ record { unknown = u; memory = m }
left_is b u m h k = subst (λ (z : ℕ). b ≡ record { unknown = u; memory = z }) k (subst (λ (z : ℕ). b ≡ record { unknown = z; memory = b.memory }) h refl)

-- the bytes were refused, or the encoding of the rewrite
module _ {K : Type 0} (rk : Reading K) (rv : Reading ℤ) (key : Writing K) (eq : K → K → Bool) (keeps : Bool) (n cost : ℕ) (bs : List ℕ) (pairs : List (K × ℤ)) (walks : List (K × ℤ) → Type 0) where
  abbrev Refused : ℕ → ℕ → BudgetLeft → List ℕ → BudgetLeft → List ℕ → List ℕ → RewriteError → Type 0
  Refused room d left old over rest written x = MatchRefusal x
      (RefusesDecoding (keeping rk rv eq keeps d n cost) left bs pairs over rest old written)
      (RefusesEncoding (keeping rk rv eq keeps d n cost) key closed_writing walks left bs pairs over rest old written room)

  -- what didn't fit in some room doesn't fit in none
  with_no_room : (room d : ℕ) (left : BudgetLeft) (old : List ℕ) (over : BudgetLeft) (rest written : List ℕ) (x : RewriteError) → Refused room d left old over rest written x → Refused 0 d left old over rest written x
  with_no_room room d left old over rest written (Decode f) h = h
  with_no_room room d left old over rest written (Encode e) h = record {
    kept = h.kept;
    read = h.read;
    walk = h.walk;
    once = h.once;
    walked = h.walked;
    walks = h.walks;
    encoding = h.encoding;
    room = λ is. omega (arith, h.room is);
  }

  pub not_rewritten : (room d e : ℕ) (left given : BudgetLeft) (old : List ℕ) (over : BudgetLeft) (rest written : List ℕ) (x : RewriteError) → d ≡ e → left ≡ given → old ≡ [] →
      Refused room d left old over rest written x → (last : BudgetLeft) × (unread : List ℕ) × (out : List ℕ) × Refused 0 e given [] last unread out x
  not_rewritten room d e left given old over rest written x same is empty h = (
    over,
    rest,
    written,
    with_no_room room e given [] over rest written x
        (subst (λ (z : List ℕ). Refused room e given z over rest written x) empty (subst (λ (z : BudgetLeft). Refused room e z old over rest written x) is (subst (λ (z : ℕ). Refused room z left old over rest written x) same h))),
  )

-- the same rewrite, by the names of the clause, into an empty sink
pub rewritten : {K : Type 0} (rk : Reading K) (rv : Reading ℤ) (key : Writing K) (KeyFits : K → Type 0) (ValFits : ℤ → Type 0) (eq : K → K → Bool) (keeps : Bool) (n cost : ℕ) (bs : List ℕ) (pairs : List (K × ℤ)) (walks : List (K × ℤ) → Type 0)
    (d e : ℕ) (left given over : BudgetLeft) (rest old written : List ℕ) (before after : ℕ) → d ≡ e → left ≡ given →
    (h : RewritesRun (keeping rk rv eq keeps d n cost) key closed_writing KeyFits ValFits walks left bs pairs over rest old written before after) →
    RewritesRun (keeping rk rv eq keeps e n cost) key closed_writing KeyFits ValFits (λ _. Unit {0}) given bs pairs over [] [] h.out 0 0
rewritten rk rv key KeyFits ValFits eq keeps n cost bs pairs walks d e left given over rest old written before after same is h = record {
  kept = h.kept;
  read = record {
    entries = h.read.entries;
    run = subst (λ (z : ℕ). Run rk rv z n bs h.read.entries) same h.read.run;
    folded = h.read.folded;
    order = h.read.order;
    keeps = h.read.keeps;
    paid = subst (λ (z : BudgetLeft). ArePaid rk rv e cost 1 z h.read.entries over) is (subst (λ (z : ℕ). ArePaid rk rv z cost 1 left h.read.entries over) same h.read.paid);
    whole = refl;
  };
  out = h.out;
  rewrite = h.rewrite;
  walks = tt;
  encoding = refl;
  ordered = h.ordered;
  room = omega arith;
}

-- ---- bytes that are a run stop a reader only where memory or the budget ran out

pub is_shortage : (f : DecodeError) → (f ≢ OutOfMemory → IsLimit f) → IsShortage f
is_shortage OutOfMemory h = tt
is_shortage UnknownFieldLimitExceeded h = tt
is_shortage ElementMemoryLimitExceeded h = tt
is_shortage _ h = h (λ e. cc)

enough : (left : BudgetLeft) (cost : ℕ) → cost ≤ left.memory → Lacks left (units cost) → ⊥
enough left cost h (inl x) = omega (arith, x)
enough left cost h (inr x) = omega (arith, h, x)

module _ {K V : Type 0} (key : Reading K) (val : Reading V) (d n cost extra : ℕ) (plain : (e : List ℕ) → charge_of key val d cost e ≡ units cost) where
  -- a fault that is none of a budget's is one whatever is left
  entry_limit : (left other : BudgetLeft) (bs : List ℕ) (f : DecodeError) → EntryFault key val d cost extra left bs f → IsLimit f ⊎ EntryFault key val d 0 0 other bs f
  entry_limit left other bs f (inl h) = inr (inl h)
  entry_limit left other bs f (inr (e, rest, t, inl h)) = inl (subst IsLimit (sym h.1) tt)
  entry_limit left other bs f (inr (e, rest, t, inr (some, inl h))) = absurd (enough left cost some (subst (λ z. Lacks left z) (plain e) h))
  entry_limit left other bs f (inr (e, rest, t, inr (some, inr (inl h)))) = inr (inr (e, rest, t, inr (omega arith, inr (inl h))))
  entry_limit left other bs f (inr (e, rest, t, inr (some, inr (inr (s, is, known, few, h))))) = inl (subst IsLimit (sym h) tt)

  record_limit : (left other : BudgetLeft) (bs : List ℕ) (f : DecodeError) → RecordFault key val d n cost extra left bs f → IsLimit f ⊎ RecordFault key val d n 0 0 other bs f
  record_limit left other bs f (inl h) = inr (inl h)
  record_limit left other bs f (inr (inl h)) = inr (inr (inl h))
  record_limit left other bs f (inr (inr (inl h))) = inr (inr (inr (inl h)))
  record_limit left other bs f (inr (inr (inr (rest, takes, h)))) = elim (entry_limit left other rest f h) [ inl l ↦ inl l | inr k ↦ inr (inr (inr (inr (rest, takes, k)))) ]

  pub stop_is_limit : OneReading key val → (left over : BudgetLeft) (out rest : List ℕ) (gs es : List (EntryRecord K V)) (f : DecodeError) → Run key val d n out gs →
      ((front : List ℕ) × (out ≡ front ++ rest) × Run key val d n front es × ArePaid key val d cost extra left es over) → rest ≢ [] → RecordFault key val d n cost extra over rest f → IsLimit f
  stop_is_limit one left over out rest gs es f run begins some fault =
      let a = cost_inside key val d gs in
      let b = cost_inside key val d es in
      let both : BudgetLeft = plus a b in
      elim (record_limit over a rest f fault) [
        | inl l ↦ l
        | inr k ↦ absurd (one.run_or_fault d n 0 0 both b out gs f run (omega arith, omega arith)
            (es, rest, a, (begins.0, begins.1, begins.2, (omega arith, omega arith)), some, k))
      ]

module _ {K : Type 0} (rk : Reading K) (rv : Reading ℤ) (eq : K → K → Bool) (keeps : Bool) (n cost : ℕ) (pairs : List (K × ℤ)) (records : List (ℕ × FieldData)) (new : State K ℤ) (unread : List ℕ) (f : DecodeError) where
  -- the same stop, by the names of the clause
  pub stopped : (d e : ℕ) (left given : BudgetLeft) (encoding out : List ℕ) → d ≡ e → left ≡ given → encoding ≡ out →
      RefusesRun (keeping rk rv eq keeps d n cost) (state pairs records left) encoding new unread f → RefusesRun (keeping rk rv eq keeps e n cost) (state pairs records given) out new unread f
  stopped d e left given encoding out same is whole h =
      subst (λ (z : List ℕ). RefusesRun (keeping rk rv eq keeps e n cost) (state pairs records given) z new unread f) whole
      (subst (λ (z : BudgetLeft). RefusesRun (keeping rk rv eq keeps e n cost) (state pairs records z) encoding new unread f) is
      (subst (λ (z : ℕ). RefusesRun (keeping rk rv eq keeps z n cost) (state pairs records left) encoding new unread f) same h))

  pub stop_is_shortage : (d : ℕ) (left : BudgetLeft) (out : List ℕ) (gs : List (EntryRecord K ℤ)) → ((e : List ℕ) → charge_of rk rv d cost e ≡ units cost) → OneReading rk rv → Run rk rv d n out gs →
      RefusesRun (keeping rk rv eq keeps d n cost) (state pairs records left) out new unread f → IsShortage f
  stop_is_shortage d left out gs plain one run h =
      is_shortage f (λ no. stop_is_limit rk rv d n cost 1 plain one left h.between.left out h.rest gs h.read.entries f run (h.front, h.split, h.read.run, h.read.paid) h.some
      (broken (keeping rk rv eq keeps d n cost) (state pairs records left) out new unread f h no))

-- the same reading of the whole, by the names of the clause
pub read_whole : {K : Type 0} (rk : Reading K) (rv : Reading ℤ) (eq : K → K → Bool) (keeps : Bool) (n cost : ℕ) (pairs : List (K × ℤ)) (records : List (ℕ × FieldData)) (new : State K ℤ) (rest : List ℕ)
    (d e : ℕ) (left given : BudgetLeft) (encoding out : List ℕ) → d ≡ e → left ≡ given → encoding ≡ out →
    ReadsRun (keeping rk rv eq keeps d n cost) (state pairs records left) encoding new rest → ReadsRun (keeping rk rv eq keeps e n cost) (state pairs records given) out new []
read_whole rk rv eq keeps n cost pairs records new rest d e left given encoding out same is whole h =
    subst (λ (z : List ℕ). ReadsRun (keeping rk rv eq keeps e n cost) (state pairs records given) out new z) h.whole
    (subst (λ (z : List ℕ). ReadsRun (keeping rk rv eq keeps e n cost) (state pairs records given) z new rest) whole
    (subst (λ (z : BudgetLeft). ReadsRun (keeping rk rv eq keeps e n cost) (state pairs records z) encoding new rest) is
    (subst (λ (z : ℕ). ReadsRun (keeping rk rv eq keeps z n cost) (state pairs records left) encoding new rest) same h)))
