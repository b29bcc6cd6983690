-- What is proved of a part and the others of a message.
use Rattle.std.proofs.Common.{◌≡◌, inl, inr, ℕ, Bool, true, false, ◌||◌, List, [], ◌∷◌, ◌++◌, Result, Ok, Err, refl, sym, subst, ◌∙◌}
use Rattle.std.proofs.lemmas.Bool.{or_left}
use Rattle.std.specs.List.{AllByRecursion}
use Rattle.buffa_bytes.specs.Readings.{FullOnlyIf}
use Rattle.buffa_bytes.specs.declared.error.DecodeError.{DecodeError}
use Rattle.buffa_bytes.specs.declared.wire_type.WireType.{WireType}
use Rattle.buffa_wire.specs.BudgetLeft.{BudgetLeft, Lacks, Pays, PaysAtMost}
use Rattle.buffa_wire.specs.Encoding.{payload_encoding, records_encoding, wire_of}
use Rattle.buffa_wire.specs.Records.{FieldData}
use Rattle.buffa_wire.specs.Takes.{IsTaken, Leads, Charge, Piece, ReadsBack, Taker}
use Rattle.buffa_fields.specs.UnknownsOfMembers.{Kept}
use Rattle.buffa_fields.specs.Schema.{Choice, IsPutBehind, Schema}
use Rattle.buffa_fields.specs.facts.LevelFacts.{all_turn, front_holds}
use Rattle.buffa_fields.specs.UndeclaredFields.{AllNumbers}
use Rattle.buffa_fields.specs.Levels.{IsTakenWritten}
use Rattle.buffa_fields.specs.facts.FieldAndOthersFacts.{joined_back, others_lead, part_taken}
use Rattle.buffa_fields.specs.MessageParts.{Part, PartLaws, part_charge, part_take}

abbrev answer : Type 0
answer = Result (Unit {0}) DecodeError

-- ---- encodings that read back
module _ {A B : Type 0} (mine : ℕ → Bool) (D : ℕ → Bool) (other : (n : ℕ) → D n ≡ true → mine n ≡ false) (f : Taker (A × B)) (g : Taker B) where
  abbrev all : Taker (A × B)
  all = part_take mine f g

  abbrev declared : ℕ → Bool
  declared n = mine n || D n

  -- fields of its own lead as they do by themselves
  mine_lead : (d : ℕ) (s t : A × B) (fs : List Piece) → Leads f mine d s fs t → Leads all declared d s fs t
  mine_lead d s t [] h = h
  mine_lead d s t (x ∷ fs) (is, tag, payload, u, h, l) = (or_left (mine x.number) (D x.number) is, tag, payload, u, rw is h, mine_lead d u t fs l)

  theirs_lead : (d : ℕ) (a : A) (s t : B) (fs : List Piece) → Leads g D d s fs t → Leads all declared d (a, s) fs (a, t)
  theirs_lead d a s t fs l = others_lead mine D other all g (λ d a b u n w p off h. rw (off, h) refl) d a s t fs l

  pub mine_back : (d : ℕ) (s t : A × B) (encoding : List ℕ) → ReadsBack f mine d s encoding t → ReadsBack all declared d s encoding t
  mine_back d s t encoding h = record { pieces = h.pieces; spelled = h.spelled; leads = mine_lead d s t h.pieces h.leads }

  pub theirs_back : (d : ℕ) (a : A) (s t : B) (encoding : List ℕ) → ReadsBack g D d s encoding t → ReadsBack all declared d (a, s) encoding (a, t)
  theirs_back d a s t encoding h = record { pieces = h.pieces; spelled = h.spelled; leads = theirs_lead d a s t h.pieces h.leads }

  -- its own, and then those of the others
  pub part_back : (d : ℕ) (s : A × B) (a : A) (b c : B) (xs ys : Kept) → ReadsBack f mine d s (records_encoding xs) (a, b) → ReadsBack g D d b (records_encoding ys) c → ReadsBack all declared d s (records_encoding (xs ++ ys)) (a, c)
  part_back d s a b c xs ys x y =
      joined_back all declared d s (a, b) (a, c) xs ys x.pieces y.pieces x.spelled y.spelled (mine_lead d s (a, b) x.pieces x.leads) (theirs_lead d a b c y.pieces y.leads)

  -- what is kept is put behind the others again
  pub part_again : (adds : B → Kept → B) (d : ℕ) (ys : Kept) → AllByRecursion (λ y. mine y.0 ≡ true → IsPutBehind f (λ v rs. (v.0, adds v.1 rs)) d y) ys → AllByRecursion (IsPutBehind g adds d) ys →
      AllByRecursion (IsPutBehind all (λ v rs. (v.0, adds v.1 rs)) d) ys
  part_again adds d [] own others = tt
  part_again adds d (y ∷ ys) own others = (one (mine y.0) refl, part_again adds d ys own.1 others.1)
    where
      one : (t : Bool) → mine y.0 ≡ t → IsPutBehind all (λ v rs. (v.0, adds v.1 rs)) d y
      one true is = λ v p payload. rw is (own.0 is v p payload)
      one false is = λ v p payload. rw (is, others.0 v.1 p payload) refl

  -- ---- levels
  mine_takes : (d : ℕ) (v : A × B) (n : ℕ) (w : WireType) (p : List ℕ) → mine n ≡ true → all d v n w p ≡ f d v n w p
  mine_takes d v n w p is = rw is refl

  mine_one : (d : ℕ) (y : ℕ × FieldData) → mine y.0 ≡ true → IsTakenWritten all d y → IsTakenWritten f d y
  mine_one d y is (number, fits, low, v, u, h) = (number, fits, low, v, u, sym (mine_takes d v y.0 (wire_of y.1) (payload_encoding y.0 y.1) is) ∙ h)

  pub mine_kept : (d : ℕ) (ys : Kept) → AllByRecursion (λ y. declared y.0 ≡ true → IsTakenWritten all d y) ys → AllByRecursion (λ y. mine y.0 ≡ true → IsTakenWritten f d y) ys
  mine_kept d [] h = tt
  mine_kept d (y ∷ ys) h = (λ is. mine_one d y is (h.0 (or_left (mine y.0) (D y.0) is)), mine_kept d ys h.1)

  pub mine_front : (d : ℕ) (xs ys : Kept) → AllNumbers mine xs → AllByRecursion (IsTakenWritten all d) (xs ++ ys) → AllByRecursion (IsTakenWritten f d) xs
  mine_front d xs ys n h = all_turn (IsTakenWritten all d) (IsTakenWritten f d) mine (mine_one d) xs n (front_holds (IsTakenWritten all d) xs ys h)

-- what takes a field alike takes it so, at the same cost
module _ {X : Type 0} (f : Taker X) (fn : Charge) (T : Taker X) (N : Charge) (d n : ℕ) (w : WireType) (v : X) (same : (p : List ℕ) → T d v n w p ≡ f d v n w p) (costs : (bs : List ℕ) → N d n w bs ≡ fn d n w bs) where
  pub taken_alike : (bs rest : List ℕ) (before after : BudgetLeft) (r : answer) (x : X) → IsTaken f fn d v n w bs before r x after rest → IsTaken T N d v n w bs before r x after rest
  taken_alike bs rest before after (Ok _) x (p, payload, split, h, pays) = (p, payload, split, same p ∙ h, subst (λ z. Pays before z after) (sym (costs bs)) pays)
  taken_alike bs rest before after (Err _) x (pays, why, full) = (
    subst (λ z. PaysAtMost before z after) (sym (costs bs)) pays,
    λ ne. elim (why ne) [
      | inl few ↦ inl (subst (λ z. Lacks before z) (sym (costs bs)) few)
      | inr refused ↦ inr ((λ p x payload split. same p ∙ refused.0 p x payload split), refused.1)
    ],
    full,
  )

-- ---- a field is taken, by the part or by the others
module _ {M A B : Type 0} (p : Part M A) (laws : PartLaws p) (l : Schema M B) (d : ℕ) (old : M) (n : ℕ) (w : WireType) (bs : List ℕ) (before : BudgetLeft) (r : answer) (new : M) (after : BudgetLeft) (rest : List ℕ) where
  abbrev Own : Type 0
  Own = p.Took d old (l.kept (l.meaning old)) n w bs before r new (l.kept (l.meaning new)) after rest × p.Others l.Same l.SameBut old new

  abbrev Its : Type 0
  Its = p.Same old new × l.Taken d old n w bs before r new after rest

  pub part_is_taken : Choice (p.mine n) Own Its → IsTaken (part_take p.mine (p.takes l.adds) l.takes) (part_charge p.mine p.charge l.charge) d (p.meaning old, l.meaning old) n w bs before r (p.meaning new, l.meaning new) after rest
  part_is_taken h = at (p.mine n) refl h
    where
      at : (t : Bool) → p.mine n ≡ t → Choice t Own Its → IsTaken (part_take p.mine (p.takes l.adds) l.takes) (part_charge p.mine p.charge l.charge) d (p.meaning old, l.meaning old) n w bs before r (p.meaning new, l.meaning new) after rest
      at true is own =
          taken_alike (p.takes l.adds) p.charge (part_take p.mine (p.takes l.adds) l.takes) (part_charge p.mine p.charge l.charge) d n w (p.meaning old, l.meaning old) (λ q. rw is refl) (λ x. rw is refl) bs rest before after r (p.meaning new, l.meaning new)
          (laws.taken_is l.adds (l.meaning old) (l.meaning new) (l.kept (l.meaning old)) (l.kept (l.meaning new)) l.Same l.SameBut d old n w bs before r new after rest is (l.same_is old new) (λ h rs is. l.same_but old new rs h is) own)
      at false is its =
          subst (λ z. IsTaken (part_take p.mine (p.takes l.adds) l.takes) (part_charge p.mine p.charge l.charge) d (p.meaning old, l.meaning old) n w bs before r (z, l.meaning new) after rest) (laws.same_is old new its.0)
          (part_taken l.takes l.charge (part_take p.mine (p.takes l.adds) l.takes) (part_charge p.mine p.charge l.charge) d n w (l.meaning old) (p.meaning old, l.meaning old) (λ y. (p.meaning old, y)) (λ q. rw is refl) (λ x. rw is refl) bs rest before after r (l.meaning new)
          (l.taken_is d old n w bs before r new after rest its.1))

  pub part_asks : Choice (p.mine n) Own Its → FullOnlyIf r (Choice (p.mine n) (p.asks before.unknown d n w bs) (l.asks before.unknown d n w bs))
  part_asks h = at (p.mine n) refl h
    where
      at : (t : Bool) → p.mine n ≡ t → Choice t Own Its → FullOnlyIf r (Choice t (p.asks before.unknown d n w bs) (l.asks before.unknown d n w bs))
      at true is own = laws.asks_is (l.kept (l.meaning old)) (l.kept (l.meaning new)) d old n w bs before r new after rest is own.0
      at false is its = l.asks_is d old n w bs before r new after rest its.1

-- a refused field changes its part alone
pub part_differs_only_at : {M A B : Type 0} (p : Part M A) (laws : PartLaws p) (l : Schema M B) (d : ℕ) (old : M) (n : ℕ) (w : WireType) (bs : List ℕ) (before : BudgetLeft) (e : DecodeError) (new : M) (after : BudgetLeft) (rest : List ℕ) →
    Choice (p.mine n) (p.Took d old (l.kept (l.meaning old)) n w bs before (let r : answer = Err e in r) new (l.kept (l.meaning new)) after rest × p.Others l.Same l.SameBut old new) (p.Same old new × l.Taken d old n w bs before (let r : answer = Err e in r) new after rest) →
    Choice (p.mine n) (l.meaning old ≡ l.meaning new) ((p.meaning old ≡ p.meaning new) × l.DiffersOnlyAt n (l.meaning old) (l.meaning new))
part_differs_only_at p laws l d old n w bs before e new after rest h = at (p.mine n) h
  where
    at : (t : Bool) → Choice t (p.Took d old (l.kept (l.meaning old)) n w bs before (let r : answer = Err e in r) new (l.kept (l.meaning new)) after rest × p.Others l.Same l.SameBut old new) (p.Same old new × l.Taken d old n w bs before (let r : answer = Err e in r) new after rest) →
        Choice t (l.meaning old ≡ l.meaning new) ((p.meaning old ≡ p.meaning new) × l.DiffersOnlyAt n (l.meaning old) (l.meaning new))
    at true own =
        laws.differs_only l.adds (l.meaning old) (l.meaning new) (l.adds_none (l.meaning old)) (l.kept (l.meaning old)) (l.kept (l.meaning new)) l.Same l.SameBut d old n w bs before e new after rest (l.same_is old new) (λ h rs is. l.same_but old new rs h is) own
    at false its = (laws.same_is old new its.0, l.differs_only d old n w bs before e new after rest its.1)
