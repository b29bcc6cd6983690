-- What is proved of messages that are taken inside another, as payloads or as groups.
use Rattle.std.proofs.Common.{◌≡◌, ◌⊎◌, inl, inr, ℕ, ◌+◌, ◌<◌, Bool, true, false, List, [], ◌∷◌, ◌++◌, Option, Some, None, Result, Ok, Err, OnOk, refl, sym, ap, subst, ◌∙◌, arith, append_assoc, append-nil, if◌then◌else◌}
use Rattle.std.specs.Option.{option_map}
use Rattle.buffa_bytes.proofs.DelimitedLemmas.{delimited_complete, delimited_sound}
use Rattle.buffa_bytes.proofs.FieldLemmas.{same_refl, same_true}
use Rattle.buffa_bytes.proofs.StepLemmas.{agree_ok}
use Rattle.buffa_bytes.specs.Field.{Payload}
use Rattle.buffa_bytes.specs.Readings.{check_wire, delimited_at, FullOnlyIf, same_wire}
use Rattle.buffa_bytes.specs.declared.error.DecodeError.{DecodeError}
use Rattle.buffa_bytes.specs.declared.error.DecodeError.TheVariants.{ElementMemoryLimitExceeded}
use Rattle.buffa_bytes.specs.declared.error.EncodeError.{EncodeError}
use Rattle.buffa_bytes.specs.declared.wire_type.WireType.{WireType}
use Rattle.buffa_bytes.specs.declared.wire_type.WireType.TheVariants.{LengthDelimited}
use Rattle.buffa_bytes.proofs.WireLemmas.{checked_same}
use Rattle.buffa_wire.proofs.MessageLemmas.{NoLimit}
use Rattle.buffa_wire.proofs.PassLemmas.{written_behind, written_none}
use Rattle.buffa_bytes.proofs.SequenceLemmas.{ok_same}
use Rattle.buffa_wire.specs.BudgetLeft.{BudgetLeft, Lacks, plus, units}
use Rattle.buffa_wire.specs.Cache.{Cache, advanced}
use Rattle.buffa_wire.specs.Encoding.{records_encoding}
use Rattle.buffa_wire.specs.Passes.{IsSmall, IsWritten}
use Rattle.buffa_wire.specs.Records.{FieldData}
use Rattle.buffa_wire.specs.Takes.{IsTaken, Charge, Taker, Untaken}
use Rattle.buffa_wire.proofs.SpentLemmas.{PaysAtMost_nothing}
use Rattle.buffa_wire.specs.Pinned.{done}
use Rattle.buffa_fields.specs.facts.FieldAndOthersFacts.{part_taken}
use Rattle.buffa_fields.specs.Framing.{cost_as, each_cost_as}
use Rattle.buffa_fields.specs.facts.InsideFacts.{delimited_alone}
use Rattle.buffa_fields.specs.Submessages.{or_blank, taken_behind, taken_there}
use Rattle.buffa_fields.specs.Refusals.{LeavesUnless, RefusesThere, TellsFaultOf}

-- ---- a length and so many bytes
-- they are a payload, where they are at the front
pub delimited_front : (d n : ℕ) (w : WireType) (bs b rest : List ℕ) → w ≡ LengthDelimited → delimited_at bs ≡ Ok (b, rest) → (p : List ℕ) × Payload d n w p × (bs ≡ p ++ rest) × (delimited_at p ≡ Ok (b, []))
delimited_front d n w bs b rest wire is =
    let t = agree_ok (delimited_at bs) (b, rest) (delimited_sound bs) is in (
      t.0 ++ b,
      subst (λ z. Payload d n z (t.0 ++ b)) (sym wire) (t.0, b, t.1, refl),
      t.2 ∙ sym (append_assoc t.0 b rest),
      ap delimited_at (ap (λ (z : List ℕ). t.0 ++ z) (sym (append-nil b))) ∙ delimited_complete t.0 b [] t.1,
    )

-- a payload at the front
module _ (d n : ℕ) (w : WireType) (p more bs : List ℕ) where
  -- holds the bytes that are there
  pub alone_is : (b after : List ℕ) → delimited_at bs ≡ Ok (b, after) → w ≡ LengthDelimited → Payload d n w p → bs ≡ p ++ more → delimited_at p ≡ Ok (b, [])
  alone_is b after is wire payload split =
      let u = delimited_alone d n w p more bs wire payload split in
      let same : u.0 ≡ b = ap (λ z. z.0) (ok_same (sym u.1 ∙ is)) in
      u.2 ∙ ap (λ (z : List ℕ). let r : Result (List ℕ × List ℕ) DecodeError = Ok (z, []) in r) same

  -- is none, where they aren't
  pub no_payload : (e : DecodeError) → delimited_at bs ≡ Err e → w ≡ LengthDelimited → Payload d n w p → bs ≡ p ++ more → ⊥
  no_payload e is wire payload split = let u = delimited_alone d n w p more bs wire payload split in let two = sym u.1 ∙ is in cc

-- ---- a field that is taken
-- is of the wire type that is taken
pub wire_taken : {X : Type 0} (WIRE w : WireType) (x : Option X) (new : X) → (if same_wire WIRE w then x else None) ≡ Some new → (w ≡ WIRE) × (x ≡ Some new)
wire_taken {X} WIRE w x new is = at (same_wire WIRE w) refl is
  where
    at : (b : Bool) → same_wire WIRE w ≡ b → (if b then x else None) ≡ Some new → (w ≡ WIRE) × (x ≡ Some new)
    at true same h = (sym (same_true WIRE w same), h)
    at false same h = cc

-- An element of some units, taken as a field is that costs less by these: both are of one wire type, and what is in them costs the same.
module _ {X : Type 0} (WIRE : WireType) (takes : Taker X) (each : ℕ) (cost : ℕ → List ℕ → BudgetLeft) (d n : ℕ) (w : WireType) (old new : X) (bs rest : List ℕ) (before after : BudgetLeft) (checked : check_wire n WIRE w ≡ Ok tt) (asked : ℕ) (is_each : asked ≡ each) where
  abbrev whole : Charge
  whole = each_cost_as WIRE each cost

  costs : plus (units each) (cost_as WIRE cost d n w bs) ≡ whole d n w bs
  unfolding cost_as each_cost_as
  costs = rw (ap (same_wire WIRE) (checked_same n WIRE w checked) ∙ same_refl WIRE) refl

  abbrev TakenFor : BudgetLeft → Result (Unit {0}) DecodeError → Type 0
  TakenFor charge r = IsTaken takes (λ d n w bs. charge) d old n w bs before r new after rest

  pub charged : (mid : BudgetLeft) → (mid.memory + asked ≡ before.memory) × (mid.unknown ≡ before.unknown) → (r : Result (Unit {0}) DecodeError) →
      IsTaken takes (cost_as WIRE cost) d old n w bs mid r new after rest → IsTaken takes whole d old n w bs before r new after rest
  charged mid paid (Ok _) (p, payload, split, m, pays) =
      subst (λ z. TakenFor z (Ok tt)) costs (p, payload, split, m, (omega (arith, pays.0, paid.1), omega (arith, pays.1, paid.0, is_each)))
  charged mid paid (Err e) (pays, why, full) =
      subst (λ z. TakenFor z (Err e)) costs (
        (omega (arith, pays.0, paid.1), omega (arith, pays.1, paid.1), omega (arith, pays.2, paid.0, is_each), omega (arith, pays.3, paid.0, is_each)),
        λ ne. elim (why ne) [
          | inl (inl few) ↦ inl (inl (omega (arith, few, paid.1)))
          | inl (inr few) ↦ inl (inr (omega (arith, few, paid.0, is_each)))
          | inr bad ↦ inr bad
        ],
        full,
      )

  -- the units aren't left
  pub uncharged : (before.memory < asked) × (after ≡ before) → (e : DecodeError) → e ≡ ElementMemoryLimitExceeded → IsTaken takes whole d old n w bs before (let r : Result (Unit {0}) DecodeError = Err e in r) new after rest
  uncharged (few, kept) e is = (
    PaysAtMost_nothing before after (whole d n w bs) kept,
    λ ne. subst (λ z. Lacks before z ⊎ (Untaken takes d old n w bs × NoLimit e)) costs (inl (inr (omega (arith, few, is_each)))),
    λ full end. let two = sym full ∙ is in cc,
  )

-- ---- it goes into the message that stands
pub there : {X : Type 0} (blank : X) (takes : Taker X) (charge : Charge) (d n : ℕ) (w : WireType) (old : Option X) (a new : X) (bs rest : List ℕ) (before after : BudgetLeft) (r : Result (Unit {0}) DecodeError) → a ≡ or_blank blank old →
    IsTaken takes charge d a n w bs before r new after rest → IsTaken (taken_there blank takes) charge d old n w bs before r (Some new) after rest
there blank takes charge d n w old a new bs rest before after r is taken =
    part_taken takes charge (taken_there blank takes) charge d n w a old (λ x. Some x) (λ p. ap (λ z. option_map (λ x. Some x) (takes d z n w p)) (sym is)) (λ bs. refl) bs rest before after r new taken

-- a field that goes into a message is refused
module _ {X : Type 0} (blank : X) (wire : WireType) (There : List ℕ → Type 0) (Fault : ℕ → X → ℕ → List ℕ → BudgetLeft → DecodeError → Type 0) (d n : ℕ) (w : WireType) (bs : List ℕ) (before : BudgetLeft) (old : Option X) (stood new : X) where
  -- what is said then, and what is told of the message that stood
  abbrev Refuses : DecodeError → Option X → Type 0
  Refuses e put = RefusesThere wire There (λ d old n bs left e. Fault d (or_blank blank old) n bs left e) d old n w bs before e put

  abbrev Tells : DecodeError → Type 0
  Tells e = TellsFaultOf wire (Fault d stood n bs before) n w e

  tells_of : stood ≡ or_blank blank old → (e : DecodeError) → Tells e → TellsFaultOf wire (Fault d (or_blank blank old) n bs before) n w e
  tells_of is e h = subst (λ x. TellsFaultOf wire (Fault d x n bs before) n w e) is h

  -- it stood there, or none did
  pub stood_refused : old ≡ Some stood → (e : DecodeError) → LeavesUnless wire There d stood n w bs e new → Tells e → Refuses e (Some new)
  stood_refused was e k tells =
      let put = λ (same : stood ≡ new). was ∙ ap (λ z. Some z) same in (
        ((λ none. let two = sym was ∙ none in cc), (λ none. cc)),
        ((λ other. put (k.0 other)), (λ low. put (k.1 low)), (λ no. put (k.2 no))),
        tells_of (sym (ap (or_blank blank) was)) e tells,
      )

  pub none_refused : old ≡ None → stood ≡ blank → (e : DecodeError) → Tells e → Refuses e old
  none_refused was fresh e tells = (
    ((λ none. none), (λ none. none)),
    ((λ _. refl), (λ _. refl), (λ _. refl)),
    tells_of (fresh ∙ sym (ap (or_blank blank) was)) e tells,
  )

-- the answer where a field goes into a message
module _ {X : Type 0} (blank : X) (takes : Taker X) (charge : Charge) (wire : WireType) (There : List ℕ → Type 0) (Fault : ℕ → X → ℕ → List ℕ → BudgetLeft → DecodeError → Type 0) (d n : ℕ) (w : WireType) (bs rest : List ℕ) (before after : BudgetLeft) (old : Option X) (stood new : X) (reported : Result (Unit {0}) DecodeError) (Asks : Type 0) where
  abbrev Told : DecodeError → Type 0
  Told = Tells blank wire There Fault d n w bs before old stood new

  abbrev Answers : Result (Unit {0}) DecodeError → Option X → Type 0
  Answers r put =
      IsTaken (taken_there blank takes) charge d old n w bs before r put after rest × FullOnlyIf r Asks
      × ((e : DecodeError) → reported ≡ Err e → (r ≡ Err e) × (old ≡ put) × (bs ≡ rest)) × ((e : DecodeError) → r ≡ Err e → Refuses blank wire There Fault d n w bs before old stood new e put)

  -- another wire type is told, the message as it was and the field unread
  abbrev Checks : Result (Unit {0}) DecodeError → Type 0
  Checks r = (e : DecodeError) → reported ≡ Err e → (r ≡ Err e) × (stood ≡ new) × (bs ≡ rest)

  -- the message stood there
  pub took_there : (r : Result (Unit {0}) DecodeError) → old ≡ Some stood → IsTaken takes charge d stood n w bs before r new after rest → FullOnlyIf r Asks → Checks r →
      ((e : DecodeError) → r ≡ Err e → LeavesUnless wire There d stood n w bs e new) → ((e : DecodeError) → r ≡ Err e → Told e) → Answers r (Some new)
  took_there r was taken full wrong refused tells =
      let put = λ (same : stood ≡ new). was ∙ ap (λ z. Some z) same in (
        there blank takes charge d n w old stood new bs rest before after r (sym (ap (or_blank blank) was)) taken,
        full,
        λ e is. let k = wrong e is in (k.0, put k.1, k.2),
        λ e bad. stood_refused blank wire There Fault d n w bs before old stood new was e (refused e bad) (tells e bad),
      )

  -- none did
  module _ (was : old ≡ None) (fresh : stood ≡ blank) where
    came : (r : Result (Unit {0}) DecodeError) → IsTaken takes charge d stood n w bs before r new after rest → IsTaken (taken_there blank takes) charge d old n w bs before r (Some new) after rest
    came r taken = there blank takes charge d n w old stood new bs rest before after r (fresh ∙ sym (ap (or_blank blank) was)) taken

    -- a default one took it
    pub came_there : IsTaken takes charge d stood n w bs before (let r : Result (Unit {0}) DecodeError = Ok tt in r) new after rest → Checks (Ok tt) → Answers (Ok tt) (Some new)
    came_there taken wrong = (came (Ok tt) taken, tt, (λ e is. let k = (wrong e is).0 in cc), (λ e bad. cc))

    -- or refused it, and none does
    pub none_came : (e : DecodeError) → IsTaken takes charge d stood n w bs before (let r : Result (Unit {0}) DecodeError = Err e in r) new after rest → FullOnlyIf (let r : Result (Unit {0}) DecodeError = Err e in r) Asks → Checks (Err e) →
        ((x : DecodeError) → (let r : Result (Unit {0}) DecodeError = Err e in r) ≡ Err x → Told x) → Answers (Err e) old
    none_came e taken full wrong tells = (came (Err e) taken, full, (λ f is. let k = wrong f is in (k.0, refl, k.2)), (λ f bad. none_refused blank wire There Fault d n w bs before old stood new was fresh f (tells f bad)))

-- ---- it goes behind the others
pub put_behind : {X : Type 0} (blank : X) (takes : Taker X) (charge : Charge) (d n : ℕ) (w : WireType) (olds news : List X) (a new : X) (bs rest : List ℕ) (before after : BudgetLeft) (r : Result (Unit {0}) DecodeError) → a ≡ blank →
    IsTaken takes charge d a n w bs before r new after rest → OnOk r (news ≡ olds ++ new ∷ []) → IsTaken (taken_behind blank takes) charge d olds n w bs before r news after rest
put_behind blank takes charge d n w olds news a new bs rest before after (Ok x) is (p, payload, split, h, pays) put =
    (p, payload, split, ap (λ z. option_map (λ x. olds ++ x ∷ []) (takes d z n w p)) (sym is) ∙ ap (option_map (λ x. olds ++ x ∷ [])) h ∙ ap (λ z. Some z) (sym put), pays)
put_behind blank takes charge d n w olds news a new bs rest before after (Err e) is taken put =
    part_taken takes charge (taken_behind blank takes) charge d n w a olds (λ x. olds ++ x ∷ []) (λ p. ap (λ z. option_map (λ x. olds ++ x ∷ []) (takes d z n w p)) (sym is)) (λ bs. refl) bs rest before after (Err e) new taken

-- ---- encodings
-- behind the slot of a message's length
pub behind_slot : (encoding slots : List ℕ) (slot : ℕ) (c0 c1 c2 : Cache) (b0 b2 : List ℕ) → c1 ≡ advanced 1 c0 → (r : Result (Unit {0}) EncodeError) → IsWritten encoding slots c1 b0 r c2 b2 → IsWritten encoding (slot ∷ slots) c0 b0 r c2 b2
behind_slot encoding slots slot c0 c1 c2 b0 b2 on r w = written_behind (IsSmall encoding) (IsSmall encoding) encoding [] slots slot c0 c1 c2 b0 b2 on r w

-- no message, an empty one
pub none_written : (records : List (ℕ × FieldData)) (slots : List ℕ) (c : Cache) (b : List ℕ) → records ≡ [] → slots ≡ [] → IsWritten (records_encoding records) slots c b done c b
none_written records slots c b none empty = subst (λ z. IsWritten (records_encoding records) z c b done c b) (sym empty) (subst (λ z. IsWritten (records_encoding z) [] c b done c b) (sym none) (written_none (IsSmall []) c b))
