-- The steps of a rewrite, one after the other.
use Rattle.std.proofs.Common.{◌≡◌, ◌+◌, ◌^◌, ◌<◌, ◌≤◌, ◌++◌, length, ℕ, Bool, true, false, List, [], ◌∷◌, Ok, Err, ap, arith, length-append, refl, subst, sym, ◌∙◌}
use Rattle.std.specs.Cmp.{IsEquivalence}
use Rattle.std.specs.List.{All}
use Rattle.std.proofs.lemmas.List.Elements.{All-cons, All-head, All-nil, All-tail}
use Rattle.std.proofs.lemmas.List.Sorted.{All-permutation}
use Rattle.buffa_bytes.proofs.SequenceLemmas.{ok_same}
use Rattle.buffa_bytes.specs.PayloadValue.{PayloadValue}
use Rattle.buffa_bytes.specs.Values.{tag_encoding}
use Rattle.buffa_bytes.specs.declared.wire_type.WireType.TheVariants.{LengthDelimited}
use Rattle.buffa_bytes.specs.declared.error.DecodeError.{DecodeError}
use Rattle.buffa_bytes.specs.declared.error.EncodeError.{EncodeError}
use Rattle.buffa_bytes.specs.declared.error.EncodeError.TheVariants.{OutOfMemory}
use Rattle.buffa_wire.specs.BudgetLeft.{BudgetLeft, nothing, plus}
use Rattle.buffa_wire.specs.Records.{FieldData}
use Rattle.buffa_wire.specs.Encoding.{records_encoding}
use Rattle.buffa_map.specs.Codec.{Reading, Writing}
use Rattle.buffa_map.specs.Merge.{ReadsRun, Rules, State, RefusesRun, state}
use Rattle.buffa_map.proofs.ReaderRules.{keeping}
use Rattle.buffa_map.proofs.RunLemmas.{run_complete}
use Rattle.buffa_map.proofs.SizeLemmas.{length-field_encoding}
use Rattle.buffa_map.proofs.WalkLemmas.{one_size, permuted}
use Rattle.buffa_map.specs.Pairs.{InOrder, ListsOnce}
use Rattle.buffa_map.specs.Rewrite.{ForEntriesOf, RefusesEncoding, RefusesRewrite, RewritesRun, StopsRewrite, WritesWalk, field_writing, rewrite_encoding}
use Rattle.buffa_map.specs.Run.{EntryRecord, Run, cost_inside, fold_entries, undeclared_records}
use Rattle.buffa_map.specs.Encoding.{AllHold, HasEncoding, entry_encoding, field_encoding}

-- a run that is read into an emptied map
module _ {K V : Type 0} (r : Rules K V) (cleared : List (K × V)) (records : List (ℕ × FieldData)) (left : BudgetLeft) (bs : List ℕ) (new : State K V) where
  pub anew : (rest : List ℕ) → cleared ≡ [] → ReadsRun r (state cleared records left) bs new rest → ReadsRun r (state [] records left) bs new rest
  anew rest is h = subst (λ z. ReadsRun r (state z records left) bs new rest) is h

  pub anew_stopped : (unread : List ℕ) (f : DecodeError) → cleared ≡ [] → RefusesRun r (state cleared records left) bs new unread f → RefusesRun r (state [] records left) bs new unread f
  anew_stopped unread f is h = subst (λ z. RefusesRun r (state z records left) bs new unread f) is h

-- ---- what holds of each pair, in whatever order

module _ {K V : Type 0} (key : Writing K) (val : Writing V) where
  abbrev IsBrief : K × V → Type 0
  IsBrief p = length (entry_encoding key val p) < 2 ^ 64

  all_brief : (l : List (K × V)) → HasEncoding key val l → All IsBrief l
  all_brief [] h = All-nil IsBrief
  all_brief (p ∷ ps) h = All-cons IsBrief p ps h.0 (all_brief ps h.1)

  brief_all : (l : List (K × V)) → All IsBrief l → HasEncoding key val l
  brief_all [] h = tt
  brief_all (p ∷ ps) h = (All-head IsBrief p ps h, brief_all ps (All-tail IsBrief p ps h))

module _ {K V : Type 0} (P : K → Type 0) (Q : V → Type 0) where
  abbrev IsHeld : K × V → Type 0
  IsHeld p = P p.0 × Q p.1

  all_held : (l : List (K × V)) → AllHold P Q l → All IsHeld l
  all_held [] h = All-nil IsHeld
  all_held (p ∷ ps) h = All-cons IsHeld p ps (h.0, h.1) (all_held ps h.2)

  held_all : (l : List (K × V)) → All IsHeld l → AllHold P Q l
  held_all [] h = tt
  held_all (p ∷ ps) h = ((All-head IsHeld p ps h).0, (All-head IsHeld p ps h).1, held_all ps (All-tail IsHeld p ps h))

-- bytes are a run of one list of entries
same_entries : {K V : Type 0} (rk : Reading K) (rv : Reading V) → (rk.nested ≡ false → (d : ℕ) (c : PayloadValue) → rk.cost d c ≡ nothing) → (rv.nested ≡ false → (d : ℕ) (c : PayloadValue) → rv.cost d c ≡ nothing) →
    (d n : ℕ) (bs : List ℕ) (es fs : List (EntryRecord K V)) → Run rk rv d n bs es → Run rk rv d n bs fs → es ≡ fs
same_entries rk rv key_free val_free d n bs es fs h k =
    let a = cost_inside rk rv d es in
    let b = cost_inside rk rv d fs in
    let both : BudgetLeft = plus a b in
    ap (λ z. z.0) (ok_same (sym (run_complete rk rv d n 0 0 key_free val_free both bs es b h (omega arith, omega arith)) ∙ run_complete rk rv d n 0 0 key_free val_free both bs fs a k (omega arith, omega arith)))

-- ---- what the clauses say of a run that was read, and of a walk that was written behind

module _ {K V : Type 0} (rk : Reading K) (rv : Reading V) (key : Writing K) (val : Writing V) (eq : K → K → Bool) (keeps : Bool) (d n cost : ℕ) (KeyFits : K → Type 0) (ValFits : V → Type 0) (Walks : List (K × V) → Type 0)
    (key_free : rk.nested ≡ false → (d : ℕ) (c : PayloadValue) → rk.cost d c ≡ nothing) (val_free : rv.nested ≡ false → (d : ℕ) (c : PayloadValue) → rv.cost d c ≡ nothing) (laws : IsEquivalence eq)
    (left over : BudgetLeft) (bs rest : List ℕ) (pairs : List (K × V)) (none kept : List (ℕ × FieldData)) (old new : List ℕ) (before after : ℕ)
    (empty : none ≡ []) (read : ReadsRun (keeping rk rv eq keeps d n cost) (state [] none left) bs (state pairs kept over) rest) where
  is_kept : kept ≡ undeclared_records n read.entries
  is_kept = read.keeps ∙ ap (λ z. z ++ undeclared_records n read.entries) empty

  kept_is : (es : List (EntryRecord K V)) → Run rk rv d n bs es → kept ≡ undeclared_records n es
  kept_is es run = is_kept ∙ ap (λ z. undeclared_records n z) (same_entries rk rv key_free val_free d n bs read.entries es read.run run)

  -- the run was read into an empty list
  pub anew_read : ReadsRun (keeping rk rv eq keeps d n cost) (state [] [] left) bs (state pairs kept over) rest
  anew_read = record { entries = read.entries; run = read.run; folded = read.folded; order = read.order; keeps = is_kept; paid = read.paid; whole = read.whole }

  module _ (u : Unit {0}) (w : WritesWalk eq Walks key val KeyFits ValFits n pairs kept old before {T = Unit {0}} (Ok u) new after) where
    pub wrote : ForEntriesOf (keeping rk rv eq keeps d n cost) bs (λ es. (l : List (K × V)) × Walks l × ListsOnce eq pairs l × (new ≡ old ++ rewrite_encoding (field_writing key val n) l es))
    wrote es run = (w.walk, w.walks, w.once, w.encoding.1 ∙ ap (λ z. old ++ (field_encoding key val n w.walk ++ records_encoding z)) (kept_is es run))

    pub short : (l : List (K × V)) → ListsOnce eq pairs l → HasEncoding key val l
    short l once = brief_all key val l (All-permutation (IsBrief key val) w.walk l (permuted laws pairs w.walk l w.once once) (all_brief key val w.walk w.encoding.0))

    pub fits : (l : List (K × V)) → ListsOnce eq pairs l → AllHold KeyFits ValFits l
    fits l once = held_all KeyFits ValFits l (All-permutation (IsHeld KeyFits ValFits) w.walk l (permuted laws pairs w.walk l w.once once) (all_held KeyFits ValFits w.walk w.fits))

    pub room : before + length old ≤ after + length new
    room = omega (arith, w.room, ap length w.encoding.1, length-append old (field_encoding key val n w.walk ++ records_encoding kept))

  module _ (e : EncodeError) (w : WritesWalk eq Walks key val KeyFits ValFits n pairs kept old before {T = Unit {0}} (Err e) new after) where
    pub stopped : ForEntriesOf (keeping rk rv eq keeps d n cost) bs (λ es. (l : List (K × V)) × Walks l × ListsOnce eq pairs l × StopsRewrite (field_writing key val n) l es old new e)
    stopped es run = (w.walk, w.walks, w.once, subst (λ (z : List (ℕ × FieldData)). RefusesRewrite key val n z old new w.walk e) (kept_is es run) w.encoding)

    pub full : e ≡ OutOfMemory → ForEntriesOf (keeping rk rv eq keeps d n cost) bs (λ es. (l : List (K × V)) → ListsOnce eq pairs l → before < length (rewrite_encoding (field_writing key val n) l es))
    full is es run l once =
        let t = length (tag_encoding n LengthDelimited) in
        omega (
          arith,
          w.room is,
          ap (λ z. length (records_encoding z)) (kept_is es run),
          one_size key val laws t pairs w.walk l w.once once,
          length-field_encoding key val n w.walk,
          length-field_encoding key val n l,
          length-append (field_encoding key val n w.walk) (records_encoding kept),
          length-append (field_encoding key val n l) (records_encoding (undeclared_records n es)),
        )
