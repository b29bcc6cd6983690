-- What is proved of entries of a map field that are put or put aside, or refused.
use Rattle.std.proofs.Common.{◌≡◌, inl, inr, ℕ, Bool, List, Result, Ok, Err, refl, sym, ap, subst, ◌∙◌, arith}
use Rattle.std.specs.Prelude.{OnErr}
use Rattle.buffa_bytes.proofs.DelimitedLemmas.{delimited_taken}
use Rattle.buffa_bytes.proofs.WireLemmas.{checked_same}
use Rattle.buffa_bytes.specs.declared.error.DecodeError.{DecodeError}
use Rattle.buffa_bytes.specs.declared.wire_type.WireType.{WireType}
use Rattle.buffa_bytes.specs.declared.wire_type.WireType.TheVariants.{LengthDelimited}
use Rattle.buffa_bytes.specs.Readings.{check_wire}
use Rattle.buffa_wire.specs.BudgetLeft.{BudgetLeft}
use Rattle.buffa_wire.specs.Takes.{IsTaken}
use Rattle.buffa_map.proofs.EntryLemmas.{entry_complete}
use Rattle.buffa_map.specs.Codec.{Reading}
use Rattle.buffa_map.specs.Entry.{EntryFault}
use Rattle.buffa_map.specs.Merge.{EntryTakesMemory, MergesEntry, RefusesEntry, Rules, State}
use Rattle.buffa_map.proofs.ReaderRules.{keeping}
use Rattle.buffa_map.specs.Laws.{LimitsAreTrue}
use Rattle.buffa_fields.proofs.EntriesLemmas.{IsCost, entry_err, entry_ok, entry_wire_err}
use Rattle.buffa_fields.specs.ClosedEnumMaps.{KeptPairTakesMemory, RefusesKeptPair, kept_pair_cost, kept_pair_taken, put_or_keep, put_or_keep_cost}
use Rattle.buffa_fields.specs.MapFields.{stepped}

module _ {K V : Type 0} (key : Reading K) (val : Reading V) (same : K → K → Bool) (keeps : Bool) (puts : List (K × V) → K → V → List (K × V)) (cost d n : ℕ) (w : WireType) (bs : List ℕ) where
  abbrev by : Rules K V
  by = keeping key val same keeps d n cost

  is_cost : IsCost key val d cost 1 (put_or_keep_cost key val cost d)
  is_cost e = ((omega arith, omega arith), λ s entry. rw (entry_complete key val d e s entry) refl)

  -- ---- an entry is taken
  pub kept_ok : (rest : List ℕ) (s t : State K V) → check_wire n LengthDelimited w ≡ Ok tt → (old new : List (K × V)) (m : MergesEntry by s bs t rest) → new ≡ stepped puts old m.says →
      IsTaken (kept_pair_taken key val puts) (kept_pair_cost key val cost) d (old, s.records) n w bs s.left (let r : Result (Unit {0}) DecodeError = Ok tt in r) (new, t.records) t.left rest
  kept_ok rest s t checked old new m put =
      entry_ok by (put_or_keep key val puts n) (put_or_keep_cost key val cost) is_cost n w (old, s.records) (new, t.records) bs rest s t checked m (λ i. (put i, m.keeps i))

  -- ---- or refused: the unknown field that it took is given back
  pub kept_err : (rest : List ℕ) (s t : State K V) (over : BudgetLeft) → check_wire n LengthDelimited w ≡ Ok tt → (old new : List (K × V)) → LimitsAreTrue key val → (f : DecodeError) → RefusesEntry by s bs t rest f →
      over.unknown ≡ s.left.unknown → over.memory ≡ t.left.memory →
      IsTaken (kept_pair_taken key val puts) (kept_pair_cost key val cost) d (old, s.records) n w bs s.left (let r : Result (Unit {0}) DecodeError = Err f in r) (new, t.records) over rest
  kept_err rest s t over checked old new limits f k unknown_back units_same =
      entry_err by (put_or_keep key val puts n) (put_or_keep_cost key val cost) is_cost n w (old, s.records) (new, t.records) bs rest s t checked limits f over k units_same (omega (arith, unknown_back)) (omega (arith, unknown_back))

  pub kept_wire_err : (old : List (K × V)) (kept : _) (before : BudgetLeft) (f : DecodeError) → check_wire n LengthDelimited w ≡ Err f →
      IsTaken (kept_pair_taken key val puts) (kept_pair_cost key val cost) d (old, kept) n w bs before (let r : Result (Unit {0}) DecodeError = Err f in r) (old, kept) before bs
  kept_wire_err old kept before f reported = entry_wire_err key val (put_or_keep key val puts n) d n (put_or_keep_cost key val cost) w (old, kept) bs bs before f reported

  -- ---- where it takes memory
  pub kept_full : (left : BudgetLeft) → check_wire n LengthDelimited w ≡ Ok tt → EntryTakesMemory by left bs → KeptPairTakesMemory key val cost left.unknown d n w bs
  kept_full left checked (e, rest, is, enough, inl copied) = (checked_same n LengthDelimited w checked, e, rest, delimited_taken bs e rest is, inl (copied.1, copied.2))
  kept_full left checked (e, rest, is, enough, inr (inl field)) = (checked_same n LengthDelimited w checked, e, rest, delimited_taken bs e rest is, inr (inl field))
  kept_full left checked (e, rest, is, enough, inr (inr (s, entry, inl known))) = (checked_same n LengthDelimited w checked, e, rest, delimited_taken bs e rest is, inr (inr (s, entry, inl known)))
  kept_full left checked (e, rest, is, enough, inr (inr (s, entry, inr kept))) = (checked_same n LengthDelimited w checked, e, rest, delimited_taken bs e rest is, inr (inr (s, entry, inr (omega (arith, kept.1)))))

  -- ---- what is told of a refused one
  pub kept_other : (ps : List (K × V)) (left : BudgetLeft) (f e : DecodeError) → check_wire n LengthDelimited w ≡ Err f → f ≡ e → RefusesKeptPair key val cost d ps n w bs left e ps
  kept_other ps left f e reported is = (refl, λ ne. inl (reported ∙ ap (λ z. Err z) is))

  pub kept_refused : (rest : List ℕ) (s t : State K V) → check_wire n LengthDelimited w ≡ Ok tt → (f e : DecodeError) → f ≡ e → RefusesEntry by s bs t rest f → RefusesKeptPair key val cost d s.pairs n w bs s.left e t.pairs
  kept_refused rest s t checked f e is k = (sym k.pairs, λ ne. inr (checked_same n LengthDelimited w checked, subst (λ z. EntryFault key val d cost 1 s.left bs z) is (k.fault (λ full. ne (sym is ∙ full)))))

-- what a refusal leaves, of this refusal
pub when_refused : {T P : Type 0} (r : Result T DecodeError) (e : DecodeError) → OnErr r P → r ≡ Err e → P
when_refused (Ok _) e h is = cc
when_refused (Err f) e h is = h
