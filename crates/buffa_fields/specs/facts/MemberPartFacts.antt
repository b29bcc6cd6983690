-- What is proved of members as parts of a message.
use Rattle.std.proofs.Common.{◌≡◌, ℕ, ◌==◌, Bool, true, not, List, [], ◌∷◌, Result, refl, sym, ap, subst, ◌∙◌, arith}
use Rattle.std.proofs.lemmas.Bool.{and_parts}
use Rattle.std.specs.List.{AllByRecursion}
use Rattle.std.specs.Option.{option_map}
use Rattle.buffa_bytes.specs.Readings.{FullOnlyIf}
use Rattle.buffa_bytes.specs.declared.error.DecodeError.{DecodeError}
use Rattle.buffa_bytes.specs.declared.wire_type.WireType.{WireType}
use Rattle.buffa_wire.specs.BudgetLeft.{BudgetLeft}
use Rattle.buffa_wire.specs.Encoding.{payload_encoding, wire_of}
use Rattle.buffa_wire.specs.Records.{FieldData}
use Rattle.buffa_wire.specs.Takes.{IsTaken, Leads, Piece, ReadsBack, Taker}
use Rattle.buffa_fields.specs.UnknownsOfMembers.{Unknowns, Kept}
use Rattle.buffa_fields.specs.facts.UnknownsFacts.{all_alone, again_with_unknowns, asks_with_unknowns, back_with_unknowns, is_taken_with_unknowns, stays_with_unknowns, taken_with_unknowns, kept_alone}
use Rattle.buffa_fields.specs.facts.BlankFacts.{same_false_only}
use Rattle.buffa_fields.specs.UndeclaredFields.{AllNumbers}
use Rattle.buffa_fields.specs.Schema.{Shape, Took, AsksAsSaid, TakesAsSaid}
use Rattle.buffa_fields.specs.facts.LevelFacts.{unknowns_low, some_mapped}
use Rattle.buffa_fields.specs.Levels.{IsTakenWritten}
use Rattle.buffa_fields.specs.MemberParts.{part_with_unknowns, member_part}
use Rattle.buffa_fields.specs.facts.FieldAndOthersFacts.{not_declared, part_taken, sound_parts}
use Rattle.buffa_fields.specs.MessageParts.{PartLaws}

abbrev answer : Type 0
answer = Result (Unit {0}) DecodeError

-- ---- a value beside others that stay
module _ {A B : Type 0} (f : Taker A) where
  abbrev pub first_of : Taker (A × B)
  first_of d v n w p = option_map (λ x. (x, v.1)) (f d v.0 n w p)

  first_lead : (mine : ℕ → Bool) (d : ℕ) (s t : A) (b : B) (fs : List Piece) → Leads f mine d s fs t → Leads first_of mine d (s, b) fs (t, b)
  first_lead mine d s t b [] h = ap (λ x. (x, b)) h
  first_lead mine d s t b (x ∷ fs) (is, tag, payload, u, h, l) = (is, tag, payload, (u, b), ap (option_map (λ x. (x, b))) h, first_lead mine d u t b fs l)

  pub first_back : (mine : ℕ → Bool) (d : ℕ) (s t : A) (b : B) (encoding : List ℕ) → ReadsBack f mine d s encoding t → ReadsBack first_of mine d (s, b) encoding (t, b)
  first_back mine d s t b encoding h = record { pieces = h.pieces; spelled = h.spelled; leads = first_lead mine d s t b h.pieces h.leads }

-- what is taken beside others is taken by itself
pub first_alone : {A : Type 0} (B : Type 0) (f : Taker A) (d : ℕ) (ys : Kept) → AllByRecursion (IsTakenWritten (first_of {A = A} {B = B} f) d) ys → AllByRecursion (IsTakenWritten f d) ys
first_alone B f d [] h = tt
first_alone {A} B f d (y ∷ ys) ((number, fits, low, v, u, h), more) =
    let t = some_mapped (λ (x : A). (x, v.1)) (f d v.0 y.0 (wire_of y.1) (payload_encoding y.0 y.1)) u h in
    ((number, fits, low, v.0, t.0, t.1), first_alone B f d ys more)

-- none of other numbers is its own
pub none_mine : (mine : ℕ → Bool) (Q : ℕ × FieldData → Type 0) (ys : Kept) → AllNumbers (λ n. not (mine n)) ys → AllByRecursion (λ y. mine y.0 ≡ true → Q y) ys
none_mine mine Q [] h = tt
none_mine mine Q (y ∷ ys) h = ((λ is. let both = sym is ∙ same_false_only (mine y.0) h.0 in cc), none_mine mine Q ys h.1)

-- ---- what a call owes that took a field
module _ {P A : Type 0} (s : Shape P A) (d : ℕ) (p q : P) (n : ℕ) (w : WireType) (bs : List ℕ) (before : BudgetLeft) (r : answer) (after : BudgetLeft) (rest : List ℕ) where
  pub member_taken : {B : Type 0} (b c : B) → b ≡ c → Took s d p n w bs before r q after rest → IsTaken (first_of s.takes) s.charge d (s.meaning p, b) n w bs before r (s.meaning q, c) after rest
  unfolding TakesAsSaid
  member_taken b c same h =
      subst (λ z. IsTaken (first_of s.takes) s.charge d (s.meaning p, b) n w bs before r (s.meaning q, z) after rest) same
      (part_taken s.takes s.charge (first_of s.takes) s.charge d n w (s.meaning p) (s.meaning p, b) (λ x. (x, b)) (λ x. refl) (λ x. refl) bs rest before after r (s.meaning q) h.0)

  pub member_asks : Took s d p n w bs before r q after rest → FullOnlyIf r (s.asks d n w bs)
  unfolding AsksAsSaid
  member_asks h = h.1

-- ---- the laws
module _ {M P A : Type 0} (k : ℕ) (get : M → P) (s : Shape P A) where
  pub member_laws : PartLaws (member_part k get s)
  member_laws = record {
    fine = λ D keeps sound ok. let each = sound_parts k (D k) _ ok in (each.0, not_declared k D each.1, (and_parts s.whole sound each.2).1);
    stays = s.stays;
    same_is = λ a b h. ap s.meaning (sym h);
    seen_is = λ m z. refl;
    taken_is = λ adds b c kept keeps S E d old n w bs before r new after rest is same but h. member_taken s d (get old) (get new) n w bs before r after rest b c (same h.1) h.0;
    asks_is = λ kept keeps d old n w bs before r new after rest is h. member_asks s d (get old) (get new) n w bs before r after rest h;
    differs_only = λ adds b c none kept keeps S E d old n w bs before e new after rest same but h. same h.1;
    others_low = λ v m kept. omega arith;
    valid = λ owes fine v normal. owes.valid k fine v normal;
    back = λ owes fine adds none twice d v m kept b fits normal low. first_back s.takes (λ n. n == k) d s.blank v b _ (owes.back k fine d v fits normal (omega (arith, low)));
    again = λ owes adds d v m kept beside low. none_mine (λ n. n == k) _ kept beside;
    numbers = λ owes exact v. (owes.exact exact).numbers k v;
    least = λ owes exact fine {B} adds d v m kept normal beside low own unknowns.
        let mine = (owes.exact exact).least k d v normal (first_alone B s.takes d (s.records k v) own) in
        omega (arith, mine, low);
  }

  pub laws_with_unknowns : (a : Unknowns A) → PartLaws (part_with_unknowns k get s a)
  laws_with_unknowns a = record {
    fine = λ D keeps sound ok. let each = sound_parts k (D k) _ ok in (each.0, not_declared k D each.1, (and_parts keeps sound each.2).1);
    stays = a.stays;
    same_is = λ a b h. ap s.meaning (sym h);
    seen_is = λ m z. refl;
    taken_is = λ adds b c kept keeps S E d old n w bs before r new after rest is same but h.
        taken_with_unknowns a adds d (s.meaning (get old)) (s.meaning (get new)) b c kept keeps n w bs before after rest (but h.1) r (is_taken_with_unknowns s a d (get old) (get new) kept keeps n w bs before after rest r h.0);
    asks_is = λ kept keeps d old n w bs before r new after rest is h. asks_with_unknowns s a d (get old) (get new) kept keeps n w bs before after rest r h;
    differs_only = λ adds b c none kept keeps S E d old n w bs before e new after rest same but h.
        sym (but h.1 [] (stays_with_unknowns s a d (get old) (get new) kept keeps n w bs before after rest e h.0) ∙ none);
    others_low = λ v m kept. omega arith;
    valid = λ owes fine v normal. owes.valid k fine v normal;
    back = λ owes fine adds none twice d v m kept b fits normal low. back_with_unknowns a adds none twice k d s.blank v b _ (owes.back k fine d v fits normal (omega (arith, low)));
    again = λ owes adds d v m kept beside low. again_with_unknowns a adds s owes k d kept beside (omega (arith, low));
    numbers = λ owes exact v. (owes.exact exact).numbers k v;
    least = λ owes exact fine adds d v m kept normal beside low own unknowns.
        let one = owes.exact exact in
        let mine = one.least k d v normal (all_alone a adds d (s.records k v) own) in
        let beside_it = unknowns_low k s a one d kept beside (kept_alone a adds k d kept unknowns) in
        omega (arith, mine, low, beside_it);
  }
