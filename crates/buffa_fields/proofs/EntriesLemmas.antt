-- What is proved of entries of map fields in a message that are taken or refused.
use Rattle.std.proofs.Common.{◌≡◌, ◌⊎◌, inl, inr, ℕ, ◌+◌, ◌≤◌, true, false, cond, List, Some, Result, Ok, Err, refl, sym, ap, subst, ◌∙◌, arith}
use Rattle.buffa_bytes.proofs.DelimitedLemmas.{delimited_faulty, delimited_taken}
use Rattle.buffa_bytes.specs.declared.error.DecodeError.{DecodeError}
use Rattle.buffa_bytes.specs.declared.error.DecodeError.TheVariants as error
use Rattle.buffa_bytes.specs.declared.wire_type.WireType.{WireType}
use Rattle.buffa_bytes.specs.declared.wire_type.WireType.TheVariants.{LengthDelimited}
use Rattle.buffa_bytes.specs.Readings.{check_wire, delimited_at, same_wire}
use Rattle.buffa_bytes.proofs.FieldLemmas.{same_false}
use Rattle.buffa_bytes.proofs.WireLemmas.{checked_same}
use Rattle.buffa_wire.proofs.MessageLemmas.{NoLimit}
use Rattle.buffa_wire.specs.BudgetLeft.{BudgetLeft, Covers, Lacks, PaysAtMost, plus, unknown_fields, IsLimit}
use Rattle.buffa_wire.specs.Takes.{IsTaken, Untaken}
use Rattle.buffa_wire.specs.Pinned.{done, refusal}
use Rattle.buffa_map.proofs.EntryLemmas.{entry_complete, entry_faulty}
use Rattle.buffa_map.proofs.TailLemmas.{not_delimited}
use Rattle.buffa_map.specs.Codec.{Reading}
use Rattle.buffa_map.specs.Entry.{EntryFault, FaultOf, IsEntry}
use Rattle.buffa_map.specs.EntryReading.{inner_charge, charge_of}
use Rattle.buffa_map.specs.Laws.{LimitsAreTrue}
use Rattle.buffa_map.specs.Merge.{MergesEntry, RefusesEntry, Rules, State, unknown_cost}
use Rattle.buffa_map.specs.declared.map_entry.MapEntry.{MapEntry}
use Rattle.buffa_fields.specs.EntriesTaken.{entry_cost, entry_taken}
use Rattle.buffa_fields.proofs.ValueLemmas.{wire_refused}
use Rattle.buffa_fields.proofs.InsideLemmas.{alone_is, delimited_front, no_payload}

is_limit : (f : DecodeError) → IsLimit f ⊎ NoLimit f
is_limit error.UnknownFieldLimitExceeded = inl tt
is_limit error.ElementMemoryLimitExceeded = inl tt
is_limit _ = inr (λ h. h)

-- bytes cost at least what they need as an entry of so many units; if they are one, just that, and so many unknown fields if it is undeclared
abbrev pub IsCost : {K V : Type 0} → Reading K → Reading V → ℕ → ℕ → ℕ → (List ℕ → BudgetLeft) → Type 0
IsCost {K} {V} key val d cost extra costs =
    (e : List ℕ) → Covers (costs e) (charge_of key val d cost e)
    × ((s : MapEntry K V) → IsEntry key val d e s → costs e ≡ plus (charge_of key val d cost e) (unknown_fields (cond s.known 0 extra)))

-- ---- an entry is read by rules, and does so
module _ {K V X : Type 0} (r : Rules K V) (does : X → List ℕ → MapEntry K V → X) (costs : ℕ → List ℕ → BudgetLeft) (is_cost : IsCost r.key r.val r.depth r.cost (unknown_cost r) (costs r.depth))
    (n : ℕ) (w : WireType) (old new : X) (bs rest : List ℕ) (s t : State K V) (checked : check_wire n LengthDelimited w ≡ Ok tt) where
  wire : w ≡ LengthDelimited
  wire = checked_same n LengthDelimited w checked

  -- it is taken
  pub entry_ok : (m : MergesEntry r s bs t rest) → new ≡ does old m.entry m.says → IsTaken (entry_taken r.key r.val does) (entry_cost costs) r.depth old n w bs s.left done new t.left rest
  unfolding entry_taken entry_cost
  entry_ok m done =
      let whole : delimited_at bs ≡ Ok (m.entry, rest) = delimited_taken bs m.entry rest m.read.0 in
      let f = delimited_front r.depth n w bs m.entry rest wire whole in
      let same : same_wire LengthDelimited w ≡ true = ap (same_wire LengthDelimited) wire in (
        f.0,
        f.1,
        f.2,
        rw (same, f.3, entry_complete r.key r.val r.depth m.entry m.says m.read.1) (ap (λ z. Some z) (sym done)),
        rw (wire, whole, (is_cost m.entry).1 m.says m.read.1) m.pays,
      )

  -- or refused
  module _ (limits : LimitsAreTrue r.key r.val) where
    refused_at : (e : List ℕ) (f : DecodeError) → FaultOf r.key r.val r.depth e f → (more : List ℕ) → delimited_at bs ≡ Ok (e, more) → Untaken (entry_taken r.key r.val does) r.depth old n w bs
    unfolding entry_taken
    refused_at e f h more is p after_p payload split =
        rw (wire, alone_is r.depth n w p after_p bs e more is wire payload split, (entry_faulty r.key r.val r.depth e f h).1) refl

    more_lacked : (a b : BudgetLeft) → Covers b a → Lacks s.left a → Lacks s.left b
    more_lacked a b c (inl x) = inl (omega (arith, x, c.0))
    more_lacked a b c (inr x) = inr (omega (arith, x, c.1))

    lacked : (e : List ℕ) → Lacks s.left (charge_of r.key r.val r.depth r.cost e)
        ⊎ ((m : MapEntry K V) × IsEntry r.key r.val r.depth e m × (m.known ≡ false) × Lacks s.left (plus (charge_of r.key r.val r.depth r.cost e) (unknown_fields (unknown_cost r)))) →
        Lacks s.left (costs r.depth e)
    lacked e (inl h) = more_lacked (charge_of r.key r.val r.depth r.cost e) (costs r.depth e) (is_cost e).0 h
    lacked e (inr (m, entry, known, h)) = rw ((is_cost e).1 m entry, known) h

    why : (f : DecodeError) → EntryFault r.key r.val r.depth r.cost (unknown_cost r) s.left bs f →
        Lacks s.left (entry_cost costs r.depth n w bs) ⊎ (Untaken (entry_taken r.key r.val does) r.depth old n w bs × NoLimit f)
    unfolding entry_cost
    why f h = elim (is_limit f) [
      | inl limit ↦
          let q = limits r.depth r.cost (unknown_cost r) s.left bs f h limit in
          inl (rw (wire, delimited_taken bs q.0 q.1 q.2) (lacked q.0 q.3))
      | inr unlimited ↦ at unlimited h
    ]
      where
        at : NoLimit f → EntryFault r.key r.val r.depth r.cost (unknown_cost r) s.left bs f →
            Lacks s.left (entry_cost costs r.depth n w bs) ⊎ (Untaken (entry_taken r.key r.val does) r.depth old n w bs × NoLimit f)
        at unlimited (inl len) = inr ((λ p more payload split. absurd (no_payload r.depth n w p more bs f (delimited_faulty bs f len) wire payload split)), unlimited)
        at unlimited (inr (e, more, there, inl (few, is))) = absurd (unlimited (subst (λ z. IsLimit z) (sym is) tt))
        at unlimited (inr (e, more, there, inr (enough, inl lack))) = inl (rw (wire, delimited_taken bs e more there) (lacked e (inl lack)))
        at unlimited (inr (e, more, there, inr (enough, inr (inl fault)))) = inr (refused_at e f fault more (delimited_taken bs e more there), unlimited)
        at unlimited (inr (e, more, there, inr (enough, inr (inr (m, entry, known, few, is))))) = absurd (unlimited (subst (λ z. IsLimit z) (sym is) tt))

    -- what is left then is what the rules say; or the unknown field is given back
    module _ (f : DecodeError) (after : BudgetLeft) (k : RefusesEntry r s bs t rest f) (units : after.memory ≡ t.left.memory) (most : after.unknown ≤ s.left.unknown)
        (least : s.left.unknown ≤ after.unknown + (inner_charge r.key r.val r.depth bs).unknown) where
      spent : (q : Result (List ℕ × List ℕ) DecodeError) → delimited_at bs ≡ q → PaysAtMost s.left (entry_cost costs r.depth n LengthDelimited bs) after
      unfolding entry_cost
      spent (Err x) is =
          let b = ap (λ (z : BudgetLeft). z.memory) (k.spent.unspent (not_delimited bs x is)) in
          let c = rw is at least in
          rw is (omega (arith, most), omega (arith, c), omega (arith, b, units), omega (arith, b, units))
      spent (Ok (e, more)) is =
          let c = rw is at least in
          let covers = (is_cost e).0 in
          elim (rw is at k.spent.units) [
            | inl same ↦ rw is (omega (arith, most), omega (arith, c, covers.0), omega (arith, same, units), omega (arith, same, units))
            | inr some ↦ rw is (omega (arith, most), omega (arith, c, covers.0), omega (arith, some.0, units), omega (arith, some.1, units, covers.1))
          ]

      pub entry_err : IsTaken (entry_taken r.key r.val does) (entry_cost costs) r.depth old n w bs s.left (refusal f) new after rest
      unfolding entry_taken entry_cost
      entry_err = (rw wire (spent (delimited_at bs) refl), λ ne. why f (k.fault ne), λ full end. let two = sym wire ∙ end in cc)

module _ {K V X : Type 0} (key : Reading K) (val : Reading V) (does : X → List ℕ → MapEntry K V → X) (d n : ℕ) where
  -- a field of another wire type is refused
  pub entry_wire_err : (costs : ℕ → List ℕ → BudgetLeft) (w : WireType) (old : X) (bs rest : List ℕ) (before : BudgetLeft) (f : DecodeError) →
      check_wire n LengthDelimited w ≡ Err f → IsTaken (entry_taken key val does) (entry_cost costs) d old n w bs before (refusal f) old before rest
  unfolding entry_taken
  entry_wire_err costs w old bs rest before f reported =
      wire_refused (entry_taken key val does) (entry_cost costs) d n w old old bs rest before before f LengthDelimited reported refl (λ other p. rw (same_false LengthDelimited w other) refl)
