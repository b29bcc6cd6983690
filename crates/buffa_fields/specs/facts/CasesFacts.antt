-- What is proved of the cases of a oneof.
use Rattle.std.proofs.Common.{◌≡◌, ℕ, ◌≤◌, Bool, true, false, ◌||◌, List, [], ◌∷◌, Option, Some, None, Result, Ok, Err, refl, sym, ap, subst, ◌∙◌, arith, if◌then◌else◌}
use Rattle.std.proofs.lemmas.Bool.{and_parts, or_left, or_right}
use Rattle.std.specs.List.{AllByRecursion}
use Rattle.std.specs.Option.{option_map}
use Rattle.buffa_bytes.specs.Readings.{FullOnlyIf}
use Rattle.buffa_bytes.specs.declared.error.DecodeError.{DecodeError}
use Rattle.buffa_bytes.specs.declared.wire_type.WireType.{WireType}
use Rattle.buffa_wire.specs.BudgetLeft.{BudgetLeft}
use Rattle.buffa_wire.specs.Encoding.{payload_encoding, records_encoding, wire_of}
use Rattle.buffa_wire.specs.Parse.{AreValid}
use Rattle.buffa_wire.specs.ReadableFacts.{Readable}
use Rattle.buffa_wire.specs.Records.{records_of}
use Rattle.buffa_wire.specs.Takes.{IsTaken, Leads, Piece, ReadsBack}
use Rattle.buffa_fields.specs.UnknownsOfMembers.{Kept}
use Rattle.buffa_fields.specs.Cases.{Cases, CasesLaws, CaseWords, IsCasePut, IsPutNew, IsPutOver, either, or_cases, if_there, none_of, single_case, other_of, this_of}
use Rattle.buffa_fields.specs.UndeclaredFields.{AllNumbers}
use Rattle.buffa_fields.specs.Schema.{AsksAsSaid, Choice, Seen, Shape, TakesAsSaid, Took, more}
use Rattle.buffa_fields.specs.facts.LevelFacts.{some_mapped}
use Rattle.buffa_fields.specs.Levels.{IsTakenWritten}
use Rattle.buffa_fields.specs.facts.FieldAndOthersFacts.{either_stays, not_declared, part_taken, sound_parts}
use Rattle.buffa_fields.specs.declared.meaning.Or.{Or}
use Rattle.buffa_fields.specs.declared.meaning.Or.TheVariants.{This, Other}

abbrev answer : Type 0
answer = Result (Unit {0}) DecodeError

-- what isn't so says anything
pub never : {A : Type 0} → true ≡ false → A
never h = cc

-- ---- one of two
pub this_either : {A B : Type 0} (x : Option A) (y : Option B) → this_of (either x y) ≡ x
this_either None None = refl
this_either None (Some b) = refl
this_either (Some a) y = refl

pub other_either : {A B : Type 0} (x : Option A) (y : Option B) → x ≡ None → other_of (either x y) ≡ y
other_either None None is = refl
other_either None (Some b) is = refl
other_either (Some a) y is = cc

is_this : {A B : Type 0} (x : Option A) (y : Option B) (a : A) → x ≡ Some a → option_map This x ≡ either x y
is_this None y a is = cc
is_this (Some b) y a is = refl

this_back : {A : Type 0} (B : Type 0) (x : Option A) → this_of {A = A} {B = B} (option_map This x) ≡ x
this_back B None = refl
this_back B (Some a) = refl

other_back : (A : Type 0) {B : Type 0} (y : Option B) → other_of {A = A} {B = B} (option_map Other y) ≡ y
other_back A None = refl
other_back A (Some b) = refl

pub put_this : {A : Type 0} (B : Type 0) (o : Option A) → option_map (option_map (λ a. (let z : Or A B = This a in z))) (option_map (λ x. Some x) o) ≡ option_map (λ u. (let z : Or A B = This u in Some z)) o
put_this B None = refl
put_this B (Some a) = refl

pub seen_this : {A B : Type 0} (x : Option (Or A B)) (a : A) → this_of x ≡ Some a → x ≡ Some (This a)
seen_this None a is = cc
seen_this (Some (This b)) a is = cc
seen_this (Some (Other b)) a is = cc

seen_other : {A B : Type 0} (x : Option (Or A B)) (b : B) → other_of x ≡ Some b → x ≡ Some (Other b)
seen_other None b is = cc
seen_other (Some (This a)) b is = cc
seen_other (Some (Other c)) b is = cc

-- ---- no case
pub none_laws : CasesLaws none_of
none_laws = record {
  fine = λ D sound ok. (tt, (λ n h. refl), ok);
  absent = refl;
  there = λ v. absurd v;
  stays = λ d n w p x h. refl;
  taken_is = λ at d old n w bs before r new after rest is h. let no : false ≡ true = is in cc;
  puts = λ at d old n w bs before x new after rest is h. let no : false ≡ true = is in cc;
  asks_is = λ at d old n w bs before r new after rest is h. let no : false ≡ true = is in cc;
  seen_is = λ v z. absurd v;
  lent_is = λ v. absurd v;
  valid = λ owes fine x normal. absurd normal;
  back = λ owes fine d x fits normal low. absurd normal;
  numbers = λ owes exact x. tt;
  least = λ owes exact fine d x normal own. omega arith;
}

-- ---- one case
pub map_same : {X : Type 0} (o : Option X) → option_map (λ x. x) o ≡ o
map_same None = refl
map_same (Some x) = refl

module _ {P A : Type 0} (k : ℕ) (s : Shape (Option P) (Option A)) (merges : Bool) (words : CaseWords s merges) where
  abbrev one : Cases P A
  one = single_case k s merges

  -- ---- a field is taken
  module _ {O : Type 0} (at : Option O → Option P) (d : ℕ) (old : Option O) (n : ℕ) (w : WireType) (bs : List ℕ) (before : BudgetLeft) (new : Option O) (after : BudgetLeft) (rest : List ℕ) where
    abbrev Its : answer → Type 0
    Its r = IsTaken s.takes s.charge d (s.meaning (at old)) n w bs before r (s.meaning (at new)) after rest

    took : (stood q : Option P) (r : answer) → Took s d stood n w bs before r q after rest → IsTaken s.takes s.charge d (s.meaning stood) n w bs before r (s.meaning q) after rest
    unfolding TakesAsSaid
    took stood q r h = h.0

    -- it makes of this value that stood what it makes of what is there
    from : (stood : Option P) → ((p : List ℕ) → s.takes d (s.meaning (at old)) n w p ≡ s.takes d (s.meaning stood) n w p) → (r : answer) (q : Option P) → Took s d stood n w bs before r q after rest →
        IsTaken s.takes s.charge d (s.meaning (at old)) n w bs before r (s.meaning q) after rest
    from stood same r q h =
        part_taken s.takes s.charge s.takes s.charge d n w (s.meaning stood) (s.meaning (at old)) (λ x. x)
        (λ p. same p ∙ sym (map_same (s.takes d (s.meaning stood) n w p))) (λ x. refl) bs rest before after r (s.meaning q) (took stood q r h)

    over : (stood : Option P) → ((p : List ℕ) → s.takes d (s.meaning (at old)) n w p ≡ s.takes d (s.meaning stood) n w p) → (r : answer) (q : Option P) → at new ≡ q → IsPutOver at s d old n w bs before stood r q after rest → Its r
    over stood same r None is h = absurd h
    over stood same r (Some q) is h = subst (λ z. IsTaken s.takes s.charge d (s.meaning (at old)) n w bs before r (s.meaning z) after rest) (sym is) (from stood same r (Some q) h)

    anew : ((p : List ℕ) → s.takes d (s.meaning (at old)) n w p ≡ s.takes d (s.meaning None) n w p) → (r : answer) → IsPutNew at s d old n w bs before r new after rest → Its r
    anew same (Ok x) h = over None same (Ok x) (at new) refl h
    anew same (Err e) h = from None same (Err e) None h.0

    put : (r : answer) (t : Bool) → merges ≡ t → (stood : Option P) → at old ≡ stood → IsCasePut at s d old n w bs before (if t then stood else None) r new after rest → Its r
    put r true m None is h = anew (λ p. ap (λ z. s.takes d (s.meaning z) n w p) is) r h
    put r true m (Some p) is h = over (Some p) (λ x. ap (λ z. s.takes d (s.meaning z) n w x) is) r (at new) refl h
    put r false m stood is h = anew (λ p. words.alone m d (s.meaning (at old)) n w p ∙ sym (words.alone m d (s.meaning None) n w p)) r h

    -- a value is there then
    placed : (stood q : Option P) (x : Unit {0}) → at new ≡ q → IsPutOver at s d old n w bs before stood (let r : answer = Ok x in r) q after rest → (v : P) × (at new ≡ Some v)
    placed stood None x is h = absurd h
    placed stood (Some q) x is h = (q, is)

    places : (stood : Option P) (x : Unit {0}) → IsCasePut at s d old n w bs before stood (let r : answer = Ok x in r) new after rest → (v : P) × (at new ≡ Some v)
    places None x h = placed None (at new) x refl h
    places (Some p) x h = placed (Some p) (at new) x refl h

    -- memory runs out only where it is asked for
    asked : (stood q : Option P) (r : answer) → Took s d stood n w bs before r q after rest → FullOnlyIf r (s.asks d n w bs)
    unfolding AsksAsSaid
    asked stood q r h = h.1

    asks_over : (stood q : Option P) (r : answer) → IsPutOver at s d old n w bs before stood r q after rest → FullOnlyIf r (s.asks d n w bs)
    asks_over stood None r h = absurd h
    asks_over stood (Some q) r h = asked stood (Some q) r h

    asks_put : (stood : Option P) (r : answer) → IsCasePut at s d old n w bs before stood r new after rest → FullOnlyIf r (s.asks d n w bs)
    asks_put None (Ok x) h = asks_over None (at new) (Ok x) h
    asks_put None (Err e) h = asked None None (Err e) h.0
    asks_put (Some p) r h = asks_over (Some p) (at new) r h

  -- ---- it is visited, reads back, and is sound beside others
  one_seen : (p : P) (z : Seen) → one.seen p z ≡ more (if_there [] one.records (one.meaning (Some p))) (if_there [] one.slots (one.meaning (Some p))) z
  one_seen p z =
      let there = words.there p in
      ap (λ x. more (s.records k x) (s.slots x) z) there.1 ∙ ap (λ x. more (if_there [] one.records x) (if_there [] one.slots x) z) (sym there.1)

  one_lent : (p : P) → one.lent p ≡ if_there [] one.slots (one.meaning (Some p))
  one_lent p = let there = words.there p in ap s.slots there.1 ∙ ap (λ x. if_there [] one.slots x) (sym there.1)

  one_back : one.Owes → one.Fine → (d : ℕ) (x : A) → Readable (records_of (one.records x)) → one.normal x → one.levels x ≤ d → ReadsBack one.takes one.mine d None (records_encoding (one.records x)) (Some x)
  one_back owes fine d x fits normal low =
      subst (λ z. ReadsBack one.takes one.mine d z (records_encoding (one.records x)) (Some x)) words.blank (owes.back k fine d (Some x) fits normal low)

  one_fine : (D : ℕ → Bool) (sound : Bool) → one.sound D sound ≡ true → one.Fine × ((n : ℕ) → D n ≡ true → one.mine n ≡ false) × (sound ≡ true)
  one_fine D sound ok =
      let each = sound_parts k (D k) _ ok in
      (each.0, not_declared k D each.1, (and_parts s.whole sound each.2).1)

  pub single_laws : CasesLaws one
  single_laws = record {
    fine = one_fine;
    absent = words.absent;
    there = words.there;
    stays = s.stays;
    taken_is = λ at d old n w bs before r new after rest mine h. put at d old n w bs before new after rest r merges refl (at old) refl h;
    puts = λ at d old n w bs before x new after rest mine h. places at d old n w bs before new after rest (if merges then at old else None) x h;
    asks_is = λ at d old n w bs before r new after rest mine h. asks_put at d old n w bs before new after rest (if merges then at old else None) r h;
    seen_is = one_seen;
    lent_is = one_lent;
    valid = λ owes fine x normal. owes.valid k fine (Some x) normal;
    back = one_back;
    numbers = λ owes exact x. (owes.exact exact).numbers k (Some x);
    least = λ owes exact fine d x normal own. (owes.exact exact).least k d (Some x) normal own;
  }

-- ---- some cases, and others after them
module _ {V X W Y : Type 0} (first : Cases V X) (others : Cases W Y) (its : CasesLaws first) (laws : CasesLaws others) where
  abbrev c : Cases (Or V W) (Or X Y)
  c = or_cases first others

  -- what stands of the others, by what it means
  others_mean : (o : Option (Or V W)) → other_of (c.meaning o) ≡ others.meaning (other_of o)
  others_mean None = other_either (first.meaning None) (others.meaning None) its.absent
  others_mean (Some (This v)) = let there = its.there v in ap (λ z. other_of (either z (others.meaning None))) there.1 ∙ sym laws.absent
  others_mean (Some (Other u)) = other_either (first.meaning None) (others.meaning (Some u)) its.absent

  pub other_is : (u : W) → option_map Other (others.meaning (Some u)) ≡ c.meaning (Some (Other u))
  other_is u = sym (ap (λ z. either z (others.meaning (Some u))) its.absent)

  pub this_is : (v : V) → option_map This (first.meaning (Some v)) ≡ c.meaning (Some (This v))
  this_is v = let there = its.there v in is_this (first.meaning (Some v)) (others.meaning None) there.0 there.1

  each_means : (v : Or V W) → (x : Or X Y) × (c.meaning (Some v) ≡ Some x)
  each_means (This v) = let there = its.there v in (This there.0, sym (this_is v) ∙ ap (option_map This) there.1)
  each_means (Other u) = let there = laws.there u in (Other there.0, sym (other_is u) ∙ ap (option_map Other) there.1)

  -- ---- a field is taken
  module _ {O : Type 0} (at : Option O → Option (Or V W)) (d : ℕ) (old : Option O) (n : ℕ) (w : WireType) (bs : List ℕ) (before : BudgetLeft) (new : Option O) (after : BudgetLeft) (rest : List ℕ) where
    abbrev Is : answer → Type 0
    Is r = IsTaken c.takes c.charge d (c.meaning (at old)) n w bs before r (c.meaning (at new)) after rest

    abbrev First : answer → Type 0
    First r = first.Took (λ o. this_of (at o)) d old n w bs before r new after rest

    abbrev Others : answer → Type 0
    Others r = others.Took (λ o. other_of (at o)) d old n w bs before r new after rest

    -- by one of the first
    this_lifted : (r : answer) → first.mine n ≡ true → First r → IsTaken c.takes c.charge d (c.meaning (at old)) n w bs before r (option_map This (first.meaning (this_of (at new)))) after rest
    this_lifted r is h =
        part_taken first.takes first.charge c.takes c.charge d n w (first.meaning (this_of (at old))) (c.meaning (at old)) (option_map This)
        (λ p. rw is (ap (λ z. option_map (option_map This) (first.takes d z n w p)) (this_either (first.meaning (this_of (at old))) (others.meaning (other_of (at old))))))
        (λ x. rw is refl) bs rest before after r (first.meaning (this_of (at new))) (its.taken_is (λ o. this_of (at o)) d old n w bs before r new after rest is h)

    by_first : (r : answer) → first.mine n ≡ true → First r → Is r
    by_first (Ok x) is h =
        let there = its.puts (λ o. this_of (at o)) d old n w bs before x new after rest is h in
        let puts = ap (λ z. option_map This (first.meaning z)) there.1 ∙ this_is there.0 ∙ ap (λ z. c.meaning z) (sym (seen_this (at new) there.0 there.1)) in
        subst (λ z. IsTaken c.takes c.charge d (c.meaning (at old)) n w bs before (Ok x) z after rest) puts (this_lifted (Ok x) is h)
    by_first (Err e) is h = this_lifted (Err e) is h

    -- by one of the others
    other_lifted : (r : answer) → first.mine n ≡ false → others.mine n ≡ true → Others r → IsTaken c.takes c.charge d (c.meaning (at old)) n w bs before r (option_map Other (others.meaning (other_of (at new)))) after rest
    other_lifted r off mine h =
        part_taken others.takes others.charge c.takes c.charge d n w (others.meaning (other_of (at old))) (c.meaning (at old)) (option_map Other)
        (λ p. rw off (ap (λ z. option_map (option_map Other) (others.takes d z n w p)) (others_mean (at old)))) (λ x. rw off refl) bs rest before after r (others.meaning (other_of (at new)))
        (laws.taken_is (λ o. other_of (at o)) d old n w bs before r new after rest mine h)

    by_others : (r : answer) → first.mine n ≡ false → others.mine n ≡ true → Others r → Is r
    by_others (Ok x) off mine h =
        let there = laws.puts (λ o. other_of (at o)) d old n w bs before x new after rest mine h in
        let puts = ap (λ z. option_map Other (others.meaning z)) there.1 ∙ other_is there.0 ∙ ap (λ z. c.meaning z) (sym (seen_other (at new) there.0 there.1)) in
        subst (λ z. IsTaken c.takes c.charge d (c.meaning (at old)) n w bs before (Ok x) z after rest) puts (other_lifted (Ok x) off mine h)
    by_others (Err e) off mine h = other_lifted (Err e) off mine h

    is_taken : (r : answer) (t : Bool) → first.mine n ≡ t → (t || others.mine n) ≡ true → Choice t (First r) (Others r) → Is r
    is_taken r true is mine h = by_first r is h
    is_taken r false off mine h = by_others r off mine h

    -- a case is there then
    is_there : (x : Unit {0}) (t : Bool) → first.mine n ≡ t → (t || others.mine n) ≡ true → Choice t (First (Ok x)) (Others (Ok x)) → (v : Or V W) × (at new ≡ Some v)
    is_there x true is mine h = let there = its.puts (λ o. this_of (at o)) d old n w bs before x new after rest is h in (This there.0, seen_this (at new) there.0 there.1)
    is_there x false off mine h = let there = laws.puts (λ o. other_of (at o)) d old n w bs before x new after rest mine h in (Other there.0, seen_other (at new) there.0 there.1)

    -- memory runs out only where it is asked for
    asks_case : (r : answer) (t : Bool) → first.mine n ≡ t → (t || others.mine n) ≡ true → Choice t (First r) (Others r) → FullOnlyIf r (Choice t (first.asks d n w bs) (others.asks d n w bs))
    asks_case r true is mine h = its.asks_is (λ o. this_of (at o)) d old n w bs before r new after rest is h
    asks_case r false off mine h = laws.asks_is (λ o. other_of (at o)) d old n w bs before r new after rest mine h

  -- ---- it is visited
  seen_case : (v : Or V W) (z : Seen) → c.seen v z ≡ more (if_there [] c.records (c.meaning (Some v))) (if_there [] c.slots (c.meaning (Some v))) z
  seen_case (This v) z = its.seen_is v z ∙ mapped (first.meaning (Some v)) z ∙ ap (λ x. more (if_there [] c.records x) (if_there [] c.slots x) z) (this_is v)
    where
      mapped : (x : Option X) (z : Seen) → more (if_there [] first.records x) (if_there [] first.slots x) z ≡ more (if_there [] c.records (option_map This x)) (if_there [] c.slots (option_map This x)) z
      mapped None z = refl
      mapped (Some a) z = refl
  seen_case (Other u) z = laws.seen_is u z ∙ mapped (others.meaning (Some u)) z ∙ ap (λ x. more (if_there [] c.records x) (if_there [] c.slots x) z) (other_is u)
    where
      mapped : (x : Option Y) (z : Seen) → more (if_there [] others.records x) (if_there [] others.slots x) z ≡ more (if_there [] c.records (option_map Other x)) (if_there [] c.slots (option_map Other x)) z
      mapped None z = refl
      mapped (Some b) z = refl

  lent_case : (v : Or V W) → c.lent v ≡ if_there [] c.slots (c.meaning (Some v))
  lent_case (This v) = its.lent_is v ∙ mapped (first.meaning (Some v)) ∙ ap (λ x. if_there [] c.slots x) (this_is v)
    where
      mapped : (x : Option X) → if_there [] first.slots x ≡ if_there [] c.slots (option_map This x)
      mapped None = refl
      mapped (Some a) = refl
  lent_case (Other u) = laws.lent_is u ∙ mapped (others.meaning (Some u)) ∙ ap (λ x. if_there [] c.slots x) (other_is u)
    where
      mapped : (x : Option Y) → if_there [] others.slots x ≡ if_there [] c.slots (option_map Other x)
      mapped None = refl
      mapped (Some b) = refl

  -- ---- it reads back
  this_lead : (d : ℕ) (x y : Option X) (fs : List Piece) → Leads first.takes first.mine d x fs y → Leads c.takes c.mine d (option_map This x) fs (option_map This y)
  this_lead d x y [] h = ap (option_map This) h
  this_lead d x y (f ∷ fs) (is, tag, payload, u, h, l) = (
    or_left (first.mine f.number) (others.mine f.number) is,
    tag,
    payload,
    option_map This u,
    rw is (ap (λ z. option_map (option_map This) (first.takes d z f.number f.wire f.payload)) (this_back Y x) ∙ ap (option_map (option_map This)) h),
    this_lead d u y fs l,
  )

  other_lead : (differs_only : (n : ℕ) → others.mine n ≡ true → first.mine n ≡ false) (d : ℕ) (x y : Option Y) (fs : List Piece) → Leads others.takes others.mine d x fs y → Leads c.takes c.mine d (option_map Other x) fs (option_map Other y)
  other_lead differs_only d x y [] h = ap (option_map Other) h
  other_lead differs_only d x y (f ∷ fs) (is, tag, payload, u, h, l) = (
    or_right (first.mine f.number) (others.mine f.number) is,
    tag,
    payload,
    option_map Other u,
    rw (differs_only f.number is) (ap (λ z. option_map (option_map Other) (others.takes d z f.number f.wire f.payload)) (other_back X x) ∙ ap (option_map (option_map Other)) h),
    other_lead differs_only d u y fs l,
  )

  case_back : c.Owes → c.Fine → (d : ℕ) (x : Or X Y) → Readable (records_of (c.records x)) → c.normal x → c.levels x ≤ d → ReadsBack c.takes c.mine d None (records_encoding (c.records x)) (Some x)
  case_back owes fine d (This a) fits normal low =
      let one = its.back owes.0 fine.0 d a fits normal low in
      record { pieces = one.pieces; spelled = one.spelled; leads = this_lead d None (Some a) one.pieces one.leads }
  case_back owes fine d (Other b) fits normal low =
      let one = laws.back owes.1 fine.2 d b fits normal low in
      record { pieces = one.pieces; spelled = one.spelled; leads = other_lead fine.1 d None (Some b) one.pieces one.leads }

  -- ---- its records
  case_valid : c.Owes → c.Fine → (x : Or X Y) → c.normal x → AreValid (records_of (c.records x))
  case_valid owes fine (This a) normal = its.valid owes.0 fine.0 a normal
  case_valid owes fine (Other b) normal = laws.valid owes.1 fine.2 b normal

  this_numbers : (ys : Kept) → AllNumbers first.mine ys → AllNumbers c.mine ys
  this_numbers [] h = tt
  this_numbers (y ∷ ys) h = (or_left (first.mine y.0) (others.mine y.0) h.0, this_numbers ys h.1)

  other_numbers : (ys : Kept) → AllNumbers others.mine ys → AllNumbers c.mine ys
  other_numbers [] h = tt
  other_numbers (y ∷ ys) h = (or_right (first.mine y.0) (others.mine y.0) h.0, other_numbers ys h.1)

  case_numbers : c.Owes → c.Exact → (x : Or X Y) → AllNumbers c.mine (c.records x)
  case_numbers owes exact (This a) = this_numbers (first.records a) (its.numbers owes.0 exact.0 a)
  case_numbers owes exact (Other b) = other_numbers (others.records b) (laws.numbers owes.1 exact.1 b)

  -- ---- how deep it nests
  this_alone : (d : ℕ) (ys : Kept) → AllNumbers first.mine ys → AllByRecursion (IsTakenWritten c.takes d) ys → AllByRecursion (IsTakenWritten first.takes d) ys
  this_alone d [] n h = tt
  this_alone d (y ∷ ys) n ((number, fits, low, v, u, h), all) =
      let same : c.takes d v y.0 (wire_of y.1) (payload_encoding y.0 y.1) ≡ option_map (option_map This) (first.takes d (this_of v) y.0 (wire_of y.1) (payload_encoding y.0 y.1)) = rw n.0 refl in
      let t = some_mapped (λ (x : Option X). option_map (λ a. (let z : Or X Y = This a in z)) x) (first.takes d (this_of v) y.0 (wire_of y.1) (payload_encoding y.0 y.1)) u (sym same ∙ h) in
      ((number, fits, low, this_of v, t.0, t.1), this_alone d ys n.1 all)

  other_alone : (differs_only : (n : ℕ) → others.mine n ≡ true → first.mine n ≡ false) (d : ℕ) (ys : Kept) → AllNumbers others.mine ys → AllByRecursion (IsTakenWritten c.takes d) ys → AllByRecursion (IsTakenWritten others.takes d) ys
  other_alone differs_only d [] n h = tt
  other_alone differs_only d (y ∷ ys) n ((number, fits, low, v, u, h), all) =
      let same : c.takes d v y.0 (wire_of y.1) (payload_encoding y.0 y.1) ≡ option_map (option_map Other) (others.takes d (other_of v) y.0 (wire_of y.1) (payload_encoding y.0 y.1)) = rw (differs_only y.0 n.0) refl in
      let t = some_mapped (λ (x : Option Y). option_map (λ b. (let z : Or X Y = Other b in z)) x) (others.takes d (other_of v) y.0 (wire_of y.1) (payload_encoding y.0 y.1)) u (sym same ∙ h) in
      ((number, fits, low, other_of v, t.0, t.1), other_alone differs_only d ys n.1 all)

  case_least : c.Owes → c.Exact → c.Fine → (d : ℕ) (x : Or X Y) → c.normal x → AllByRecursion (IsTakenWritten c.takes d) (c.records x) → c.levels x ≤ d
  case_least owes exact fine d (This a) normal own = its.least owes.0 exact.0 fine.0 d a normal (this_alone d (first.records a) (its.numbers owes.0 exact.0 a) own)
  case_least owes exact fine d (Other b) normal own = laws.least owes.1 exact.1 fine.2 d b normal (other_alone fine.1 d (others.records b) (laws.numbers owes.1 exact.1 b) own)

  -- ---- its numbers, beside others
  case_fine : (D : ℕ → Bool) (sound : Bool) → c.sound D sound ≡ true → c.Fine × ((n : ℕ) → D n ≡ true → c.mine n ≡ false) × (sound ≡ true)
  case_fine D sound ok =
      let one = its.fine (λ n. D n || others.mine n) (others.sound D sound) ok in
      let rest = laws.fine D sound one.2 in (
        (one.0, (λ n is. one.1 n (or_right (D n) (others.mine n) is)), rest.0),
        (λ n is. let no = one.1 n (or_left (D n) (others.mine n) is) in let none = rest.1 n is in rw (no, none) refl),
        rest.2,
      )

  pub or_laws : CasesLaws c
  or_laws = record {
    fine = case_fine;
    absent = ap (λ z. either z (others.meaning None)) its.absent ∙ ap (option_map Other) laws.absent;
    there = each_means;
    stays = either_stays first.mine first.charge others.charge its.stays laws.stays;
    taken_is = λ at d old n w bs before r new after rest mine h. is_taken at d old n w bs before new after rest r (first.mine n) refl mine h;
    puts = λ at d old n w bs before x new after rest mine h. is_there at d old n w bs before new after rest x (first.mine n) refl mine h;
    asks_is = λ at d old n w bs before r new after rest mine h. asks_case at d old n w bs before new after rest r (first.mine n) refl mine h;
    seen_is = seen_case;
    lent_is = lent_case;
    valid = case_valid;
    back = case_back;
    numbers = case_numbers;
    least = case_least;
  }
