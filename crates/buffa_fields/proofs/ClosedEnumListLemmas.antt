-- What is proved of lists of closed enums that are read, put aside or refused.
use Rattle.std.proofs.Common.{◌≡◌, ◌≢◌, inl, inr, ℕ, ℤ, ◌+◌, ◌<◌, ◌≤◌, true, false, Bool, List, [], ◌∷◌, ◌++◌, get_or, length, map, take, drop, None, Some, Result, Ok, Err, IsOk, OnErr, refl, sym, ap, subst, ◌∙◌, arith, append_assoc, append-nil, length-append, if◌then◌else◌}
use Rattle.std.proofs.lemmas.List.{map-append, map-id, take-append-drop, take_all, take_more}
use Rattle.std.proofs.lemmas.List.Elements.{filter-append}
use Rattle.buffa_bytes.proofs.PayloadValueLemmas.{payload_value_complete}
use Rattle.buffa_bytes.proofs.FieldLemmas.{same_true}
use Rattle.buffa_bytes.specs.PayloadValue.{payload_value_at}
use Rattle.buffa_bytes.specs.PayloadValue.PayloadValue.{number}
use Rattle.buffa_bytes.specs.Field.{Payload}
use Rattle.buffa_bytes.specs.Readings.{delimited_at, FullOnlyIf, same_wire}
use Rattle.std.specs.Option.{option_map}
use Rattle.buffa_bytes.specs.Values.{int32_of}
use Rattle.buffa_bytes.specs.declared.error.DecodeError.{DecodeError}
use Rattle.buffa_bytes.specs.declared.wire_type.WireType.{WireType}
use Rattle.buffa_bytes.specs.declared.wire_type.WireType.TheVariants.{LengthDelimited, Varint}
use Rattle.buffa_map.specs.Codec.{value_at}
use Rattle.buffa_bytes.proofs.SequenceLemmas.{err_same}
use Rattle.buffa_wire.proofs.SpentLemmas.{PaysAtMost_nothing}
use Rattle.buffa_wire.specs.BudgetLeft.{BudgetLeft, Pays}
use Rattle.buffa_wire.specs.ByField.{value_of}
use Rattle.buffa_wire.specs.Enums.{Numbers}
use Rattle.buffa_wire.specs.Records.{varint}
use Rattle.buffa_wire.specs.Takes.{IsTaken, Taker}
use Rattle.buffa_fields.specs.UnknownsOfMembers.{Kept}
use Rattle.buffa_fields.specs.facts.InsideFacts.{delimited_alone}
use Rattle.buffa_fields.specs.ClosedEnumLists.{PutsNumbers, RefusesKeptNumbers, declared_of, is_undeclared, kept_numbers_cost, kept_numbers_taken, numbers_cost, sifted, sifted_cost, undeclared_of, varints}
use Rattle.buffa_fields.specs.facts.ClosedEnumListFacts.{sifted_costs}
use Rattle.buffa_fields.specs.Lists.{ElementsTakeMemory, elements_in, elements_taken, packed_in}
use Rattle.buffa_fields.specs.facts.ListFacts.{payload_value_there, elements_end}
use Rattle.buffa_fields.specs.Refusals.{RefusesElements}
use Rattle.buffa_fields.specs.Values.{all_of, free}
use Rattle.buffa_fields.proofs.ListLemmas.{element_from_err, elements_err}

abbrev pub answer : Type 0
answer = Result (Unit {0}) DecodeError

module _ (e : Numbers) where
  -- ---- of varints behind others
  declared_both : (ks us : List ℕ) → declared_of e (ks ++ us) ≡ declared_of e ks ++ declared_of e us
  declared_both ks us = rw (map-append int32_of ks us) (filter-append e.declares (map int32_of ks) (map int32_of us))

  undeclared_both : (n : ℕ) (ks us : List ℕ) → undeclared_of e n (ks ++ us) ≡ undeclared_of e n ks ++ undeclared_of e n us
  undeclared_both n ks us = rw (filter-append (is_undeclared e) ks us) (map-append (λ k. (n, varint k)) _ _)

  -- so many were put so
  abbrev pub PutSoFar : ℕ → List ℕ → List ℤ × Kept → BudgetLeft → List ℤ × Kept → BudgetLeft → Type 0
  PutSoFar n ks old before new after = PutsNumbers e (λ vs us. vs ++ us) n ks old before (let r : answer = Ok tt in r) new after

  module _ (n : ℕ) where
    abbrev Puts : List ℕ → List ℤ × Kept → BudgetLeft → answer → List ℤ × Kept → BudgetLeft → Type 0
    Puts ks old before r new after = PutsNumbers e (λ vs us. vs ++ us) n ks old before r new after

    pub puts_none : (old : List ℤ × Kept) (before : BudgetLeft) → Puts [] old before (Ok tt) old before
    puts_none old before = ((λ i. (sym (append-nil old.0) i, sym (append-nil old.1) i)), (omega arith, omega arith))

    pub puts_more : (ks us : List ℕ) (old mid new : List ℤ × Kept) (before over after : BudgetLeft) → Puts ks old before (Ok tt) mid over → (r : answer) → Puts us mid over r new after → Puts (ks ++ us) old before r new after
    puts_more ks us old mid new before over after (is, pays) (Ok _) (more, spent) = (
      more
          ∙ (λ i. ((is i).0 ++ declared_of e us, (is i).1 ++ undeclared_of e n us))
          ∙ (λ i. (append_assoc old.0 (declared_of e ks) (declared_of e us) i, append_assoc old.1 (undeclared_of e n ks) (undeclared_of e n us) i))
          ∙ (λ i. (old.0 ++ sym (declared_both ks us) i, old.1 ++ sym (undeclared_both n ks us) i)),
      (
        omega (arith, pays.0, spent.0, ap length (undeclared_both n ks us), length-append (undeclared_of e n ks) (undeclared_of e n us)),
        omega (arith, pays.1, spent.1),
      ),
    )
    puts_more ks us old mid new before over after (is, pays) (Err f) (inl (full, some)) = inl (full, λ none. some (second ks us none))
      where
        second : (ks us : List ℕ) → ks ++ us ≡ [] → us ≡ []
        second [] us h = h
        second (k ∷ ks) us h = cc
    puts_more ks us old mid new before over after (is, pays) (Err f) (inr (limit, few)) =
        inr (limit, omega (arith, few, pays.0, ap length (undeclared_both n ks us), length-append (undeclared_of e n ks) (undeclared_of e n us)))

    -- what is refused of the first is refused of all
    pub puts_stops : (ks us : List ℕ) (old mid new : List ℤ × Kept) (before over after : BudgetLeft) (f : DecodeError) → Puts ks old before (Err f) mid over → Puts (ks ++ us) old before (Err f) new after
    puts_stops ks us old mid new before over after f (inl (full, some)) = inl (full, λ none. some (first ks none))
      where
        first : (ks : List ℕ) → ks ++ us ≡ [] → ks ≡ []
        first [] h = refl
        first (k ∷ ks) h = cc
    puts_stops ks us old mid new before over after f (inr (limit, few)) =
        inr (limit, omega (arith, few, ap length (undeclared_both n ks us), length-append (undeclared_of e n ks) (undeclared_of e n us)))

    -- ---- along a slice, of which the one at i is next
    module _ (ks : List ℕ) (i : ℕ) (here : i < length ks) (old mid new : List ℤ × Kept) (before over after : BudgetLeft) where
      abbrev one : List ℕ
      one = get_or ks i 0 ∷ []

      abbrev Reached : List ℕ → Type 0
      Reached us = Puts us old before (Ok tt) mid over

      pub puts_next : Puts (take i ks) old before (Ok tt) mid over → Puts one mid over (Ok tt) new after → Puts (take (i + 1) ks) old before (Ok tt) new after
      puts_next far h = subst (λ z. Puts z old before (Ok tt) new after) (sym (take_more ks i 0 here)) (puts_more (take i ks) one old mid new before over after far (Ok tt) h)

      pub puts_fail : (f : DecodeError) → Puts (take i ks) old before (Ok tt) mid over → Puts one mid over (Err f) new after → Puts ks old before (Err f) new after
      puts_fail f far h =
          let all : take (i + 1) ks ++ drop (i + 1) ks ≡ ks = take-append-drop (i + 1) ks in
          subst (λ z. Puts z old before (Err f) new after) all
          (puts_stops (take (i + 1) ks) (drop (i + 1) ks) old new new before after after f
          (subst (λ z. Puts z old before (Err f) new after) (sym (take_more ks i 0 here)) (puts_more (take i ks) one old mid new before over after far (Err f) h)))

    pub puts_done : (ks : List ℕ) (i : ℕ) → length ks ≤ i → (old new : List ℤ × Kept) (before after : BudgetLeft) → Puts (take i ks) old before (Ok tt) new after → Puts ks old before (Ok tt) new after
    puts_done ks i far old new before after h = subst (λ z. Puts z old before (Ok tt) new after) (take_all i ks far) h

-- some were put behind those that stood, and some behind these
pub front_more : {A : Type 0} (old mid new : List A) → ((more : List A) × (mid ≡ old ++ more)) → ((more : List A) × (new ≡ mid ++ more)) → (more : List A) × (new ≡ old ++ more)
front_more old mid new (a, h) (b, k) = (a ++ b, k ∙ ap (λ z. z ++ b) h ∙ append_assoc old a b)

-- ---- varints were read, and put so
module _ (e : Numbers) {X : Type 0} (reads : Taker (List ℕ)) (puts : X → List ℤ → X) (d n : ℕ) (w : WireType) (bs : List ℕ) (before : BudgetLeft) (old : X) (kept : Kept) where
  abbrev Taken : answer → X → Kept → BudgetLeft → List ℕ → Type 0
  Taken r new keeps after rest = IsTaken (sifted e reads puts) (sifted_cost e reads) d (old, kept) n w bs before r (new, keeps) after rest

  -- what isn't read is refused
  pub unread : (f : DecodeError) (ks : List ℕ) (over : BudgetLeft) (rest : List ℕ) → IsTaken reads free d [] n w bs before (let r : answer = Err f in r) ks over rest → Taken (Err f) old kept before rest
  unread f ks over rest (pays, why, full) = (
    PaysAtMost_nothing before before (sifted_cost e reads d n w bs) refl,
    λ ne. elim (why ne) [
      | inl (inl few) ↦ absurd (omega (arith, few))
      | inl (inr few) ↦ absurd (omega (arith, few))
      | inr (none, limit) ↦ inr ((λ p x payload split. rw (none p x payload split) refl), limit)
    ],
    full,
  )

  module _ (ks : List ℕ) (over : BudgetLeft) (rest : List ℕ) (read : IsTaken reads free d [] n w bs before (let r : answer = Ok tt in r) ks over rest) where
    cost_is : sifted_cost e reads d n w bs ≡ numbers_cost e n ks
    cost_is = ap (sifted_cost e reads d n w) read.2 ∙ sifted_costs e reads d n w read.0 rest ks read.1 read.3

    -- they were put, or weren't
    pub then_put : (r : answer) (new : X) (keeps : Kept) (after : BudgetLeft) → PutsNumbers e puts n ks (old, kept) before r (new, keeps) after → OnErr r (after ≡ before) → Taken r new keeps after rest
    then_put (Ok _) new keeps after (is, pays) same = (read.0, read.1, read.2, rw read.3 (ap (λ z. Some z) (sym is)), subst (λ z. Pays before z after) (sym cost_is) pays)
    then_put (Err f) new keeps after (inl (full, some)) same = (
      PaysAtMost_nothing before after (sifted_cost e reads d n w bs) same,
      λ ne. absurd (ne full),
      λ _ end. absurd (subst (λ z. Payload d n z read.0) end read.1),
    )
    then_put (Err f) new keeps after (inr (limit, few)) same = (
      PaysAtMost_nothing before after (sifted_cost e reads d n w bs) same,
      λ ne. inl (inl (subst (λ (z : BudgetLeft). before.unknown < z.unknown) (sym cost_is) few)),
      λ full _. let two = sym limit ∙ full in cc,
    )

    -- more are undeclared than unknown fields were left
    pub some_cost : (few : before.unknown < (numbers_cost e n ks).unknown) → before.unknown < (sifted_cost e reads d n w bs).unknown
    some_cost few = subst (λ (z : BudgetLeft). before.unknown < z.unknown) (sym cost_is) few

-- ---- lists
-- where varints are read of a payload, it has one whole
some_there : (d : ℕ) (b ks : List ℕ) → value_of (elements_in varints d [] b) ≡ Some ks → ks ≢ [] → IsOk (payload_value_at Varint b)
some_there d [] ks is some = absurd (some (let none = sym (ap value_of (elements_end varints d [])) ∙ is in cc))
some_there d (c ∷ b) ks is some = at (value_at varints d 0 (c ∷ b)) refl
  where
    at : (r : Result ((ℕ × Bool) × List ℕ) DecodeError) → value_at varints d 0 (c ∷ b) ≡ r → IsOk (payload_value_at Varint (c ∷ b))
    at (Ok x) h = payload_value_there varints d 0 (c ∷ b) x h
    at (Err f) h = let bad = sym (ap value_of (elements_fail f h)) ∙ is in cc
      where
        elements_fail : (f : DecodeError) → value_at varints d 0 (c ∷ b) ≡ Err f → elements_in varints d [] (c ∷ b) ≡ Err f
        elements_fail f h = elements_err varints refl (λ _ _ _ _ h _. let k = h in cc) d [] (c ∷ b) f (omega arith) (element_from_err varints d [] (c ∷ b) 0 refl f h)

pub elements_ask : (d n : ℕ) (w : WireType) (p more ks : List ℕ) → Payload d n w p → elements_taken varints d [] n w p ≡ Some ks → ks ≢ [] → ElementsTakeMemory varints d n w (p ++ more)
unfolding elements_taken
elements_ask d n w p more ks payload is some = at (same_wire Varint w) refl (same_wire LengthDelimited w) refl is
  where
    body : (b : List ℕ) → packed_in varints d [] (let r : Result (List ℕ × List ℕ) DecodeError = Ok (b, []) in r) ≡ Some ks → IsOk (payload_value_at Varint b)
    body b h = some_there d b ks h some

    at : (s : Bool) → same_wire Varint w ≡ s → (t : Bool) → same_wire LengthDelimited w ≡ t →
        (if s then option_map (λ x. x ∷ []) (all_of (value_at varints d 0 p)) else (if t then packed_in varints d [] (delimited_at p) else None)) ≡ Some ks → ElementsTakeMemory varints d n w (p ++ more)
    at true own t _ h =
        let wire : w ≡ Varint = sym (same_true Varint w own) in
        let k = subst (λ z. Payload d n z p) wire payload in
        inl (wire, subst (λ r. IsOk r) (sym (payload_value_complete Varint p (number k.0) more k.1)) refl)
    at false own true packed h =
        let wire : w ≡ LengthDelimited = sym (same_true LengthDelimited w packed) in
        let u = delimited_alone d n w p more (p ++ more) wire payload refl in
        inr (wire, (u.0, more, u.1, body u.0 (ap (packed_in varints d []) (sym u.2) ∙ h)))
    at false own false packed h = cc

-- ---- a call that read the varints of a field into an empty list, and then put these
module _ (e : Numbers) (d n : ℕ) (w : WireType) (bs : List ℕ) (before : BudgetLeft) (old : List ℤ) (kept : Kept) (start items : List ℕ) (none : start ≡ []) (rest : List ℕ) where
  abbrev Read : answer → Type 0
  Read r = IsTaken (elements_taken varints) free d (map (λ k. k) start) n w bs before r (map (λ k. k) items) before rest

  fresh : (r : answer) → Read r → IsTaken (elements_taken varints) free d [] n w bs before r items before rest
  fresh r read =
      subst (λ z. IsTaken (elements_taken varints) free d [] n w bs before r z before rest) (map-id items)
      (subst (λ z. IsTaken (elements_taken varints) free d z n w bs before r (map (λ k. k) items) before rest) (map-id start ∙ none) read)

  -- they weren't read
  pub numbers_unread : (f : DecodeError) → Read (Err f) → IsTaken (kept_numbers_taken e) (kept_numbers_cost e) d (old, kept) n w bs before (let r : answer = Err f in r) (old, kept) before rest
  unfolding kept_numbers_taken kept_numbers_cost
  numbers_unread f read = unread e (elements_taken varints) (λ vs us. vs ++ us) d n w bs before old kept f items before rest (fresh (Err f) read)

  pub unread_refused : (f g : DecodeError) → RefusesElements varints d (map (λ k. k) start) n w bs f (map (λ k. k) items) → (let r : answer = Err f in r ≡ Err g) → RefusesKeptNumbers e d old n w bs before g old
  unread_refused f g h same =
      (refl, λ ne. inl (map (λ k. k) items, subst (λ z. RefusesElements varints d [] n w bs z (map (λ k. k) items)) (err_same same) (subst (λ z. RefusesElements varints d z n w bs f (map (λ k. k) items)) (map-id start ∙ none) h)))

  module _ (read : Read (Ok tt)) (m : ℕ) (is : m ≡ n) (us : List ℕ) (same : us ≡ items) (new : List ℤ) (keeps : Kept) (after : BudgetLeft) where
    abbrev Put : answer → Type 0
    Put r = PutsNumbers e (λ vs us. vs ++ us) m us (old, kept) before r (new, keeps) after

    put_so : (r : answer) → Put r → PutsNumbers e (λ vs us. vs ++ us) n items (old, kept) before r (new, keeps) after
    put_so r h =
        subst (λ z. PutsNumbers e (λ vs us. vs ++ us) z items (old, kept) before r (new, keeps) after) is
        (subst (λ z. PutsNumbers e (λ vs us. vs ++ us) m z (old, kept) before r (new, keeps) after) same h)

    pub numbers_taken : (r : answer) → Put r → OnErr r (after ≡ before) → IsTaken (kept_numbers_taken e) (kept_numbers_cost e) d (old, kept) n w bs before r (new, keeps) after rest
    unfolding kept_numbers_taken kept_numbers_cost
    numbers_taken r h stays = then_put e (elements_taken varints) (λ vs us. vs ++ us) d n w bs before old kept items before rest (fresh (Ok tt) read) r new keeps after (put_so r h) stays

    pub numbers_full : (r : answer) → Put r → FullOnlyIf r (ElementsTakeMemory varints d n w bs)
    numbers_full (Ok _) h = tt
    numbers_full (Err f) (inl (full, some)) = λ _.
        let all = fresh (Ok tt) read in
        subst (λ z. ElementsTakeMemory varints d n w z) (sym all.2) (elements_ask d n w all.0 rest items all.1 all.3 (λ h. some (same ∙ h)))
    numbers_full (Err f) (inr (limit, few)) = λ full. let two = sym limit ∙ full in cc

    pub numbers_refused : (r : answer) → Put r → OnErr r (old ≡ new) → (f : DecodeError) → r ≡ Err f → RefusesKeptNumbers e d old n w bs before f new
    unfolding kept_numbers_cost
    numbers_refused (Ok _) h stays f reported = cc
    numbers_refused (Err g) h stays f reported = (
      stays,
      λ ne. elim (put_so (Err g) h) [
        | inl (full, _) ↦ absurd (ne (sym (err_same reported) ∙ full))
        | inr (limit, few) ↦ inr (sym (err_same reported) ∙ limit, some_cost e (elements_taken varints) (λ (vs us : List ℤ). vs ++ us) d n w bs before old kept items before rest (fresh (Ok tt) read) few)
      ],
    )

pub means_stay : {A : Type 0} (says : A → ℤ) (old new : List A) (r : answer) → OnErr r (old ≡ new) → OnErr r (map says old ≡ map says new)
means_stay says old new (Ok _) h = tt
means_stay says old new (Err f) h = ap (map says) h
