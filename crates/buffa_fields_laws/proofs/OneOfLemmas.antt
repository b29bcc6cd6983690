-- What is proved of fields of a oneof that are taken or refused, in the words of the laws.
use Rattle.std.proofs.Common.{◌≡◌, ◌⊎◌, inl, inr, ℕ, ◌==◌, Bool, true, false, List, Option, Some, None, Result, Ok, Err, refl, subst, ap, ◌∙◌, if◌then◌else◌}
use Rattle.std.proofs.lemmas.Bool.{eq-eqb}
use Rattle.buffa_bytes.specs.declared.error.DecodeError.{DecodeError}
use Rattle.buffa_bytes.specs.declared.wire_type.WireType.{WireType}
use Rattle.buffa_wire.specs.BudgetLeft.{BudgetLeft}
use Rattle.buffa_fields.specs.Cases.{IsCasePut, IsPutOver, this_of}
use Rattle.buffa_fields.specs.facts.CasesFacts.{seen_this}
use Rattle.buffa_fields.specs.Schema.{Choice, Shape, Took}
use Rattle.buffa_fields.specs.declared.meaning.Or.{Or}
use Rattle.buffa_fields.specs.declared.meaning.Or.TheVariants.{This, Other}

abbrev answer : Type 0
answer = Result (Unit {0}) DecodeError

abbrev refused : DecodeError → answer
refused e = Err e

module _ {O P A : Type 0} (get : Option O → Option P) (s : Shape (Option P) (Option A)) (d : ℕ) (old : Option O) (n : ℕ) (w : WireType) (bs : List ℕ) (before : BudgetLeft) (e : DecodeError) (new : Option O) (after : BudgetLeft) (rest : List ℕ) where
  over : (stood q : Option P) → get new ≡ q → IsPutOver get s d old n w bs before stood (refused e) q after rest → (q : P) × (get new ≡ Some q)
  over stood None is h = absurd h
  over stood (Some q) is h = (q, is)

  stays : (stood : Option P) (p : P) → stood ≡ Some p → IsCasePut get s d old n w bs before stood (refused e) new after rest → (q : P) × (get new ≡ Some q)
  stays None p is h = cc
  stays (Some x) p is h = over (Some x) (get new) refl h

  -- a value of the case that stood is there still, or another one of it
  own_stays : (merges : Bool) (p : P) → get old ≡ Some p → IsCasePut get s d old n w bs before (if merges then get old else None) (refused e) new after rest → (q : P) × (get new ≡ Some q)
  own_stays true p is h = stays (get old) p is h
  own_stays false p is h = (p, ap get h.1 ∙ is)

  pub own_said : (T : Type 0) (merges : Bool) (p : P) → get old ≡ Some p → Choice (n == n) (IsCasePut get s d old n w bs before (if merges then get old else None) (refused e) new after rest) T → (q : P) × (get new ≡ Some q)
  own_said T merges p is h =
      own_stays merges p is (subst (λ t. Choice t (IsCasePut get s d old n w bs before (if merges then get old else None) (refused e) new after rest) T) (eq-eqb n n refl) h)

-- ---- into which value a field is taken
pub none_of_it : {P V : Type 0} (x : Option (Or P V)) → ((p : P) → x ≡ Some (This p) → ⊥) → this_of x ≡ None
none_of_it None isnt = refl
none_of_it (Some (This p)) isnt = absurd (isnt p refl)
none_of_it (Some (Other v)) isnt = refl

pub is_none_of_it : {P V : Type 0} (x : Option (Or P V)) → this_of x ≡ None → (p : P) → x ≡ Some (This p) → ⊥
is_none_of_it None is p h = cc
is_none_of_it (Some (This q)) is p h = cc
is_none_of_it (Some (Other v)) is p h = cc

none_counts : {P V : Type 0} (x : Option (Or P V)) (merges : Bool) → (merges ≡ false) ⊎ ((p : P) → x ≡ Some (This p) → ⊥) → (if merges then this_of x else None) ≡ None
none_counts x false h = refl
none_counts x true (inl is) = cc
none_counts x true (inr isnt) = none_of_it x isnt

module _ {O P V A : Type 0} (at : Option O → Option (Or P V)) (s : Shape (Option P) (Option A)) (d : ℕ) (old : Option O) (n : ℕ) (w : WireType) (bs : List ℕ) (before : BudgetLeft) (new : Option O) (after : BudgetLeft) (rest : List ℕ) where
  abbrev Put : Option P → answer → Type 0
  Put stood r = IsCasePut (λ o. this_of (at o)) s d old n w bs before stood r new after rest

  -- there is a value of the case, of which this is said
  abbrev PartlyMerged : Option P → answer → Type 0
  PartlyMerged stood r = (q : P) × (at new ≡ Some (This q)) × Took s d stood n w bs before r (Some q) after rest

  partly_merged_over : (stood q : Option P) (r : answer) → this_of (at new) ≡ q → IsPutOver (λ o. this_of (at o)) s d old n w bs before stood r q after rest → PartlyMerged stood r
  partly_merged_over stood None r is h = absurd h
  partly_merged_over stood (Some q) r is h = (q, seen_this (at new) q is, h)

  partly_merged_in : (stood : Option P) (p : P) (r : answer) → stood ≡ Some p → Put stood r → PartlyMerged (Some p) r
  partly_merged_in None p r is h = cc
  partly_merged_in (Some x) p r is h = subst (λ z. PartlyMerged z r) is (partly_merged_over (Some x) (this_of (at new)) r refl h)

  counted : (p : P) (merges : Bool) → merges ≡ true → at old ≡ Some (This p) → (if merges then this_of (at old) else None) ≡ Some p
  counted p true is partly = ap this_of partly
  counted p false is partly = cc

  here : (T : Type 0) (X : Type 0) → Choice (n == n) X T → X
  here T X h = subst (λ t. Choice t X T) (eq-eqb n n refl) h

  pub into_its_own : (T : Type 0) (merges : Bool) (p : P) (r : answer) → merges ≡ true → at old ≡ Some (This p) → Choice (n == n) (Put (if merges then this_of (at old) else None) r) T → PartlyMerged (Some p) r
  into_its_own T merges p r is partly h = partly_merged_in (if merges then this_of (at old) else None) p r (counted p merges is partly) (here T _ h)

  anew : (T : Type 0) (merges : Bool) (r : answer) → (merges ≡ false) ⊎ ((p : P) → at old ≡ Some (This p) → ⊥) → Choice (n == n) (Put (if merges then this_of (at old) else None) r) T → Put None r
  anew T merges r none h = subst (λ z. Put z r) (none_counts (at old) merges none) (here T _ h)

  pub put_anew : (T : Type 0) (merges : Bool) (x : Unit {0}) → (merges ≡ false) ⊎ ((p : P) → at old ≡ Some (This p) → ⊥) → Choice (n == n) (Put (if merges then this_of (at old) else None) (let r : answer = Ok x in r)) T → PartlyMerged None (let r : answer = Ok x in r)
  put_anew T merges x none h = partly_merged_over None (this_of (at new)) (Ok x) refl (anew T merges (Ok x) none h)
