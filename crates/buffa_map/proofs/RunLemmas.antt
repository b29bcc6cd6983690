-- Records one after another: what is read of them, and the grammar; and what they mean.
use Rattle.std.proofs.Common.{◌≡◌, ◌≢◌, ◌⊎◌, inl, inr, ℕ, ◌+◌, ◌-◌, ◌*◌, ◌==◌, nat_lt, ◌<◌, ◌≤◌, Bool, true, false, ◌&&◌, not, cond, if◌then◌else◌, List, [], ◌∷◌, ◌++◌, length, map, Ok, Err, refl, sym, ap, subst, ◌∙◌, arith, append_assoc, append-nil, length-append}
use Rattle.std.proofs.lemmas.Bool.{cases_lt, eqb-true, eqb-false, eq-eqb, ne_eqb, lt-ltb, le-ltb, ltb-true, ltb-false, or_cases, or_parts, or_right}
use Rattle.std.proofs.lemmas.List.{map-append}
use Rattle.std.specs.Cmp.{IsEquivalence}
use Rattle.buffa_bytes.specs.Field.{IsTag, TakesTag}
use Rattle.buffa_bytes.specs.Readings.{tag_at, check_wire, delimited_at}
use Rattle.buffa_bytes.specs.declared.wire_type.WireType.{WireType}
use Rattle.buffa_bytes.specs.declared.wire_type.WireType.TheVariants.{LengthDelimited}
use Rattle.buffa_bytes.specs.declared.error.DecodeError.{DecodeError}
use Rattle.buffa_bytes.specs.declared.error.DecodeError.TheVariants.{ElementMemoryLimitExceeded, UnexpectedField, UnknownFieldLimitExceeded}
use Rattle.buffa_bytes.proofs.StepLemmas.{Agrees, agree_bind, agree_if, agree_ok, agree_err, agree_weaker}
use Rattle.buffa_bytes.proofs.FieldLemmas.{tag_as, tag_sound, tag_complete, takes_tag_as, tag_faulty, tag_some, tag_read}
use Rattle.buffa_bytes.proofs.DelimitedLemmas.{delimited_sound, delimited_complete, delimited_faulty}
use Rattle.buffa_wire.specs.BudgetLeft.{BudgetLeft, Lacks, Pays, nothing, plus, unknown_fields}
use Rattle.buffa_bytes.specs.PayloadValue.{PayloadValue}
use Rattle.buffa_bytes.proofs.WireLemmas.{check_sound, check_differs, checked_same, checked_other}
use Rattle.buffa_wire.specs.Records.{FieldData, bytes}
use Rattle.buffa_bytes.specs.Scan.{join, ParsesEach}
use Rattle.buffa_map.specs.Codec.{Reading}
use Rattle.buffa_map.specs.Entry.{IsEntry, FaultOf, EntryOf, EntryFault}
use Rattle.buffa_map.specs.EntryReading.{blanks, charge_at, charge_of}
use Rattle.buffa_map.specs.Pairs.{InOrder, put, SamePairs}
use Rattle.buffa_map.specs.Run.{EntryRecord, IsRecord, Run, ArePaid, RecordFault, RunFault, cost_inside, step, fold_entries, undeclared, undeclared_record, undeclared_records}
use Rattle.buffa_map.specs.RunReading.{entry_in, lacks, record_at, after_entry, next_record, run_of}
use Rattle.buffa_map.specs.Merge.{Rules, kept_of_entry, kept_of_run}
use Rattle.buffa_map.specs.declared.map_entry.MapEntry.{MapEntry}
use Rattle.buffa_bytes.proofs.SequenceLemmas.{Answers, answer, answers_as, along_sound, along_complete, along_faulty}
use Rattle.buffa_map.proofs.EntryLemmas.{ImplicitField, entry_sound, entry_complete, entry_faulty}
use Rattle.buffa_map.proofs.ChargeLemmas.{charge_free}
use Rattle.buffa_map.proofs.PutLemmas.{SamePairs-put}

-- ---- what an entry that is undeclared takes of the unknown fields left, where n of them are spent in it
extra_test : (b : Bool) (u n extra : ℕ) → n + cond b 0 extra ≤ u → (not b && nat_lt u (n + extra)) ≡ false
extra_test true u n extra h = refl
extra_test false u n extra h = le-ltb u (n + extra) h

extra_many : (b : Bool) (u n extra : ℕ) → n ≤ u → (not b && nat_lt u (n + extra)) ≡ false → n + cond b 0 extra ≤ u
extra_many true u n extra l h = omega (arith, l)
extra_many false u n extra l h = ltb-false u (n + extra) h

extra_few : (b : Bool) (u n extra : ℕ) → (not b && nat_lt u (n + extra)) ≡ true → (b ≡ false) × (u < n + extra)
extra_few true u n extra h = cc
extra_few false u n extra h = (refl, ltb-true u (n + extra) h)

extra_short : (b : Bool) (u n extra : ℕ) → b ≡ false → u < n + extra → (not b && nat_lt u (n + extra)) ≡ true
extra_short b u n extra h k = rw (h, lt-ltb u (n + extra) k) refl

-- ---- whether a need is left
lacks_true : (left charge : BudgetLeft) → lacks left charge ≡ true → Lacks left charge
lacks_true left charge h = elim (or_cases (nat_lt left.unknown charge.unknown) (nat_lt left.memory charge.memory) h)
    [ inl a ↦ inl (ltb-true left.unknown charge.unknown a) | inr b ↦ inr (ltb-true left.memory charge.memory b) ]

lacks_false : (left charge : BudgetLeft) → lacks left charge ≡ false → (charge.unknown ≤ left.unknown) × (charge.memory ≤ left.memory)
lacks_false left charge h = let n = or_parts (nat_lt left.unknown charge.unknown) (nat_lt left.memory charge.memory) h in (ltb-false left.unknown charge.unknown n.0, ltb-false left.memory charge.memory n.1)

lacks_some : (left charge : BudgetLeft) → Lacks left charge → lacks left charge ≡ true
lacks_some left charge (inl h) = rw (lt-ltb left.unknown charge.unknown h) refl
lacks_some left charge (inr h) = rw (lt-ltb left.memory charge.memory h) (or_right (nat_lt left.unknown charge.unknown) true refl)

lacks_none : (left charge : BudgetLeft) → charge.unknown ≤ left.unknown → charge.memory ≤ left.memory → lacks left charge ≡ false
lacks_none left charge h k = rw (le-ltb left.unknown charge.unknown h, le-ltb left.memory charge.memory k) refl

either : (b : Bool) {P : Type 0} → (b ≡ true → P) → (b ≡ false → P) → P
either true h k = h refl
either false h k = k refl

pub extra_kept : (b : Bool) (e : List ℕ) (ks : List (List ℕ)) (extra : ℕ) → length (cond b ks (e ∷ ks)) * extra ≡ cond b 0 extra + length ks * extra
extra_kept true e ks extra = omega arith
extra_kept false e ks extra = omega arith

module _ {K V : Type 0} (key : Reading K) (val : Reading V) (d n : ℕ) where
  -- one record more
  pub Run-last : (front : List ℕ) (es : List (EntryRecord K V)) (r : List ℕ) (x : EntryRecord K V) → Run key val d n front es → IsRecord key val d n r x → Run key val d n (front ++ r) (es ++ x ∷ [])
  Run-last front [] r x h k = (r, [], k, ap (λ z. z ++ r) h ∙ sym (append-nil r), refl)
  Run-last front (y ∷ es) r x (a, rest, m, e, more) k = (a, rest ++ r, m, ap (λ z. z ++ r) e ∙ append_assoc a rest r, Run-last rest es r x more k)

  -- two runs, one after the other
  pub Run-join : (a b : List ℕ) (es fs : List (EntryRecord K V)) → Run key val d n a es → Run key val d n b fs → Run key val d n (a ++ b) (es ++ fs)
  Run-join a b [] fs h k = subst (λ z. Run key val d n z fs) (ap (λ z. z ++ b) (sym h)) k
  Run-join a b (y ∷ es) fs (r, rest, m, e, more) k = (r, rest ++ b, m, ap (λ z. z ++ b) e ∙ append_assoc r rest b, Run-join rest b es fs more k)

  -- a tag, and a length and an entry behind it
  pub record_found : (bs mid rest : List ℕ) (g : ℕ) (w : WireType) (s : MapEntry K V) → tag_at bs ≡ Ok (g, w, mid) → g ≡ n → check_wire g LengthDelimited w ≡ Ok tt → (e : List ℕ) → EntryOf key val d mid e s rest →
      (r : List ℕ) × IsRecord key val d n r (record { bytes = e; parts = s }) × (bs ≡ r ++ rest)
  record_found bs mid rest g w s h same checked e ((l, v, is), entry) =
      let u : TakesTag bs g w mid = agree_ok (tag_at bs) (g, w, mid) (tag_sound bs) h in
      let wire : w ≡ LengthDelimited = checked_same g LengthDelimited w checked in
      let tag : IsTag u.0 n LengthDelimited = tag_as u.0 g n w LengthDelimited u.1 same wire in (
        u.0 ++ (l ++ e),
        (u.0, l, tag, v, refl, entry),
        u.2 ∙ ap (λ z. u.0 ++ z) (is ∙ sym (append_assoc l e rest)) ∙ sym (append_assoc u.0 (l ++ e) rest),
      )

  pub record_tag : (cost extra : ℕ) (left : BudgetLeft) (bs : List ℕ) (f : DecodeError) → tag_at bs ≡ Err f → RecordFault key val d n cost extra left bs f
  record_tag cost extra left bs f h = inl (agree_err (tag_at bs) f (tag_sound bs) h)

  pub record_other : (cost extra : ℕ) (left : BudgetLeft) (bs mid : List ℕ) (g : ℕ) (w : WireType) → tag_at bs ≡ Ok (g, w, mid) → g ≢ n → RecordFault key val d n cost extra left bs (UnexpectedField g)
  record_other cost extra left bs mid g w h other = inr (inl (g, w, mid, agree_ok (tag_at bs) (g, w, mid) (tag_sound bs) h, other, refl))

  pub record_mismatch : (cost extra : ℕ) (left : BudgetLeft) (bs mid : List ℕ) (g : ℕ) (w : WireType) (f : DecodeError) → tag_at bs ≡ Ok (g, w, mid) → g ≡ n → check_wire g LengthDelimited w ≡ Err f → RecordFault key val d n cost extra left bs f
  record_mismatch cost extra left bs mid g w f h same k =
      let u : TakesTag bs g w mid = agree_ok (tag_at bs) (g, w, mid) (tag_sound bs) h in
      let m = checked_other n LengthDelimited w f (subst (λ z. check_wire z LengthDelimited w ≡ Err f) same k) in
      inr (inr (inl (w, mid, subst (λ z. TakesTag bs z w mid) same u, m.0, m.1)))

  pub record_entry : (cost extra : ℕ) (left : BudgetLeft) (bs mid : List ℕ) (g : ℕ) (w : WireType) (f : DecodeError) → tag_at bs ≡ Ok (g, w, mid) → g ≡ n → check_wire g LengthDelimited w ≡ Ok tt → EntryFault key val d cost extra left mid f → RecordFault key val d n cost extra left bs f
  record_entry cost extra left bs mid g w f h same checked k =
      let u : TakesTag bs g w mid = agree_ok (tag_at bs) (g, w, mid) (tag_sound bs) h in
      let wire : w ≡ LengthDelimited = checked_same g LengthDelimited w checked in
      inr (inr (inr (mid, takes_tag_as bs mid g n w LengthDelimited u same wire, k)))

  -- what follows a length and an entry is less
  pub entry_falls : (bs e : List ℕ) (s : MapEntry K V) (rest : List ℕ) → EntryOf key val d bs e s rest → length rest ≤ length bs
  entry_falls bs e s rest ((l, v, is), entry) = omega (arith, ap length is, length-append l (e ++ rest), length-append e rest)

  -- ---- the reading
  module _ (cost extra : ℕ) (left : BudgetLeft) where
    -- the record at the front, and what was paid for it
    abbrev pub SaidAt : List ℕ → EntryRecord K V × List ℕ → Type 0
    SaidAt bs x =
        (r : List ℕ) × IsRecord key val d n r x.0 × (bs ≡ r ++ x.1)
        × ((charge_of key val d cost x.0.bytes).memory ≤ left.memory) × ((charge_of key val d cost x.0.bytes).unknown + cond x.0.parts.known 0 extra ≤ left.unknown)

    -- the entry of a length
    abbrev InEntry : List ℕ → MapEntry K V → Type 0
    InEntry e s = IsEntry key val d e s × ((charge_of key val d cost e).memory ≤ left.memory) × ((charge_of key val d cost e).unknown + cond s.known 0 extra ≤ left.unknown)

    abbrev pub InFault : List ℕ → DecodeError → Type 0
    InFault e f = ((left.memory < cost) × (f ≡ ElementMemoryLimitExceeded))
        ⊎ ((cost ≤ left.memory) × (Lacks left (charge_of key val d cost e) ⊎ (FaultOf key val d e f
        ⊎ ((s : MapEntry K V) × IsEntry key val d e s × (s.known ≡ false) × (left.unknown < (charge_of key val d cost e).unknown + extra) × (f ≡ UnknownFieldLimitExceeded)))))

    in_lacks : (e : List ℕ) → Lacks left (charge_of key val d cost e) → InFault e ElementMemoryLimitExceeded
    in_lacks e h = elim (cases_lt left.memory cost) [ inl less ↦ inl (less, refl) | inr many ↦ inr (omega (arith, many), inl h) ]

    in_sound : (e : List ℕ) → Agrees (entry_in key val d cost extra left e) (InEntry e) (InFault e)
    in_sound e = agree_if (lacks left (charge_of key val d cost e))
        (λ few. record { holds = in_lacks e (lacks_true left (charge_of key val d cost e) few) })
        (λ many. let room = lacks_false left (charge_of key val d cost e) many in
        let units : cost ≤ left.memory = omega (arith, room.1) in
        agree_bind (entry_sound key val d e)
        (λ s entry. agree_if (not s.known && nat_lt left.unknown ((charge_of key val d cost e).unknown + extra))
        (λ few. let h = extra_few s.known left.unknown (charge_of key val d cost e).unknown extra few in record { holds = inr (units, inr (inr (s, entry, h.0, h.1, refl))) })
        (λ some. record { holds = (entry, room.1, extra_many s.known left.unknown (charge_of key val d cost e).unknown extra room.0 some) }))
        (λ f broken. inr (units, inr (inl broken))))

    pub said_sound : (bs : List ℕ) → Agrees (record_at key val d n cost extra left bs) (SaidAt bs) (RecordFault key val d n cost extra left bs)
    said_sound bs = agree_bind (tag_sound bs)
        (λ t u. agree_if (t.0 == n)
        (λ same. let is : t.0 ≡ n = eqb-true t.0 n same in
        agree_bind (check_sound n LengthDelimited t.1)
        (λ _ wire. agree_bind (delimited_sound t.2)
        (λ e b. let tag = takes_tag_as bs t.2 t.0 n t.1 LengthDelimited u is wire in agree_bind (in_sound e.0)
        (λ s h. record {
          holds = (
            tag.0 ++ (b.0 ++ e.0),
            (tag.0, b.0, tag.1, b.1, refl, h.0),
            tag.2 ∙ ap (λ z. tag.0 ++ z) (b.2 ∙ sym (append_assoc b.0 e.0 e.1)) ∙ sym (append_assoc tag.0 (b.0 ++ e.0) e.1),
            h.1,
            h.2,
          );
        })
        (λ f h. inr (inr (inr (t.2, tag, inr (e.0, e.1, b, h))))))
        (λ f short. inr (inr (inr (t.2, takes_tag_as bs t.2 t.0 n t.1 LengthDelimited u is wire, inl short)))))
        (λ f bad. inr (inr (inl (t.1, t.2, subst (λ z. TakesTag bs z t.1 t.2) is u, bad.0, bad.1)))))
        (λ other. record { holds = inr (inl (t.0, t.1, t.2, u, eqb-false t.0 n other, refl)) }))
        (λ f h. inl h)

    pub said_complete : (r rest : List ℕ) (x : EntryRecord K V) → (charge_of key val d cost x.bytes).memory ≤ left.memory → (charge_of key val d cost x.bytes).unknown + cond x.parts.known 0 extra ≤ left.unknown → IsRecord key val d n r x →
        record_at key val d n cost extra left (r ++ rest) ≡ Ok (x, rest)
    said_complete r rest x many slots (t, l, tag, v, e, entry) =
        let split : r ++ rest ≡ t ++ (l ++ (x.bytes ++ rest)) = ap (λ z. z ++ rest) e ∙ append_assoc t (l ++ x.bytes) rest ∙ ap (λ z. t ++ z) (append_assoc l x.bytes rest) in
        let room = lacks_none left (charge_of key val d cost x.bytes) (omega (arith, slots)) many in
        let inside : entry_in key val d cost extra left x.bytes ≡ Ok x.parts = rw (room, entry_complete key val d x.bytes x.parts entry, extra_test x.parts.known left.unknown (charge_of key val d cost x.bytes).unknown extra slots) refl in
        rw (split, tag_complete t n LengthDelimited (l ++ (x.bytes ++ rest)) tag, eq-eqb n n refl, delimited_complete l x.bytes rest v, inside) refl

    module _ (key_free : key.nested ≡ false → (d : ℕ) (c : PayloadValue) → key.cost d c ≡ nothing) (val_free : val.nested ≡ false → (d : ℕ) (c : PayloadValue) → val.cost d c ≡ nothing) where
      -- where no payload is nested, the units are all that is needed
      not_lacking : (e : List ℕ) {Q : Type 0} → cost ≤ left.memory → Lacks left (charge_of key val d cost e) → ImplicitField key val d → Q
      not_lacking e many (inl few) p = let none = charge_free key val d key_free val_free (blanks key val d) e p in absurd (omega (arith, few, ap (λ (z : BudgetLeft). z.unknown) none))
      not_lacking e many (inr few) p = let none = charge_free key val d key_free val_free (blanks key val d) e p in absurd (omega (arith, many, few, ap (λ (z : BudgetLeft). z.memory) none))

      in_none : (e : List ℕ) (f : DecodeError) → cost ≤ left.memory → Lacks left (charge_of key val d cost e) → Answers (ImplicitField key val d) (entry_in key val d cost extra left e) f
      in_none e f many h = (ElementMemoryLimitExceeded, rw (lacks_some left (charge_of key val d cost e) h) refl, λ p. not_lacking e many h p)

      pub in_faulty : (e : List ℕ) (f : DecodeError) → InFault e f → Answers (ImplicitField key val d) (entry_in key val d cost extra left e) f
      in_faulty e f (inl (few, is)) = let h : Lacks left (charge_of key val d cost e) = inr (omega (arith, few)) in answer (rw (lacks_some left (charge_of key val d cost e) h) (ap (λ z. Err z) (sym is)))
      in_faulty e f (inr (many, inl h)) = in_none e f many h
      in_faulty e f (inr (many, inr (inl h))) = either (lacks left (charge_of key val d cost e))
          (λ few. in_none e f many (lacks_true left (charge_of key val d cost e) few))
          (λ room. answers_as (λ x k. rw (room, k) refl) (entry_faulty key val d e f h))
      in_faulty e f (inr (many, inr (inr (s, entry, no_value, few, is)))) = either (lacks left (charge_of key val d cost e))
          (λ less. in_none e f many (lacks_true left (charge_of key val d cost e) less))
          (λ room. answer (rw (room, entry_complete key val d e s entry, extra_short s.known left.unknown (charge_of key val d cost e).unknown extra no_value few) (ap (λ z. Err z) (sym is))))

      pub said_faulty : (bs : List ℕ) (f : DecodeError) → RecordFault key val d n cost extra left bs f → Answers (ImplicitField key val d) (record_at key val d n cost extra left bs) f
      said_faulty bs f (inl h) = answer (rw (tag_faulty bs f h) refl)
      said_faulty bs f (inr (inl (g, w, rest, t, other, is))) = answer (rw (tag_read bs rest g w t, ne_eqb g n other) (ap (λ z. Err z) (sym is)))
      said_faulty bs f (inr (inr (inl (w, rest, t, other, is)))) = answer (rw (tag_read bs rest n w t, eq-eqb n n refl, check_differs n LengthDelimited w other) (ap (λ z. Err z) (sym is)))
      said_faulty bs f (inr (inr (inr (rest, t, inl h)))) = answer (rw (tag_read bs rest n LengthDelimited t, eq-eqb n n refl, delimited_faulty rest f h) refl)
      said_faulty bs f (inr (inr (inr (rest, t, inr (e, more, (l, v, is), h))))) =
          answers_as (λ x k. rw (tag_read bs rest n LengthDelimited t, eq-eqb n n refl, ap delimited_at is ∙ delimited_complete l e more v, k) refl) (in_faulty e f h)

  record_some : (r : List ℕ) (x : EntryRecord K V) → IsRecord key val d n r x → 0 < length r
  record_some r x (t, l, tag, v, e, entry) = omega (arith, tag_some t n LengthDelimited tag, ap length e, length-append t (l ++ x.bytes))

  -- a run as pieces that make a list longer, and pay
  module _ (cost extra : ℕ) where
    abbrev Paying : Type 0
    Paying = List (EntryRecord K V) × BudgetLeft

    abbrev Longer : Paying → List ℕ → Paying → Type 0
    Longer s r t =
        (x : EntryRecord K V) × IsRecord key val d n r x × (t.0 ≡ s.0 ++ x ∷ []) × (t.1.memory + (charge_of key val d cost x.bytes).memory ≡ s.1.memory)
        × (t.1.unknown + ((charge_of key val d cost x.bytes).unknown + cond x.parts.known 0 extra) ≡ s.1.unknown)

    abbrev Broken : Paying → List ℕ → DecodeError → Type 0
    Broken s bs f = RecordFault key val d n cost extra s.1 bs f

    next_sound : (s : Paying) (bs : List ℕ) → Agrees (next_record key val d n cost extra s bs) (λ x. (r : List ℕ) × Longer s r x.0 × (bs ≡ r ++ x.1)) (Broken s bs)
    next_sound s bs = agree_bind (said_sound cost extra s.1 bs) (λ x h. record { holds = (h.0, (x.0, h.1, refl, omega (arith, h.3), omega (arith, h.4)), h.2) }) (λ f h. h)

    next_complete : (s t : Paying) (r rest : List ℕ) → Longer s r t → next_record key val d n cost extra s (r ++ rest) ≡ Ok (t, rest)
    next_complete s t r rest (x, h, e, paid, slots) =
        let memory : s.1.memory - (charge_of key val d cost x.bytes).memory ≡ t.1.memory = omega (arith, paid) in
        let unknown : s.1.unknown - ((charge_of key val d cost x.bytes).unknown + cond x.parts.known 0 extra) ≡ t.1.unknown = omega (arith, slots) in
        let same : (let made : Paying = (s.0 ++ x ∷ [], after_entry key val d cost extra s.1 x) in made ≡ t) = (λ i. (sym e i, record { unknown = unknown i; memory = memory i })) in
        rw (said_complete cost extra s.1 r rest x (omega (arith, paid)) (omega (arith, slots)) h) (ap (λ z. Ok (z, rest)) same)

    next_some : (s t : Paying) (r : List ℕ) → Longer s r t → 0 < length r
    next_some s t r (x, h, e, paid, slots) = record_some r x h

    -- pieces that lead from one list to another are a run of what was added
    run_of_pieces : (ps : List (List ℕ)) (s t : Paying) → ParsesEach Longer s ps t → (xs : List (EntryRecord K V)) × Run key val d n (join ps) xs × (t.0 ≡ s.0 ++ xs) × ArePaid key val d cost extra s.1 xs t.1
    run_of_pieces [] s t h = ([], refl, sym (ap (λ z. z.0) h) ∙ sym (append-nil s.0), (omega (arith, ap (λ z. z.1.memory) h), omega (arith, ap (λ z. z.1.unknown) h)))
    run_of_pieces (p ∷ ps) s t (u, (x, m, e, paid, slots), h) =
        let i = run_of_pieces ps u t h in (
          x ∷ i.0,
          (p, join ps, m, refl, i.1),
          i.2 ∙ ap (λ z. z ++ i.0) e ∙ append_assoc s.0 (x ∷ []) i.0,
          (omega (arith, i.3.0, paid), omega (arith, i.3.1, slots, extra_kept x.parts.known x.bytes (undeclared i.0) extra)),
        )

    pieces_of_run : (b : List ℕ) (s : Paying) (xs : List (EntryRecord K V)) (over : BudgetLeft) → Run key val d n b xs → ArePaid key val d cost extra s.1 xs over → (ps : List (List ℕ)) × (b ≡ join ps) × ParsesEach Longer s ps (s.0 ++ xs, over)
    pieces_of_run b s [] over h paid =
        let memory : s.1.memory ≡ over.memory = omega (arith, paid.0) in
        let unknown : s.1.unknown ≡ over.unknown = omega (arith, paid.1) in
        ([], h, (λ i. (sym (append-nil s.0) i, record { unknown = unknown i; memory = memory i })))
    pieces_of_run b s (x ∷ xs) over (r, rest, m, e, h) paid =
        let u : Paying = (s.0 ++ x ∷ [], record { unknown = over.unknown + (length (undeclared xs) * extra + (cost_inside key val d xs).unknown); memory = over.memory + (length xs * cost + (cost_inside key val d xs).memory) }) in
        let i = pieces_of_run rest u xs over h (refl, refl) in (
          r ∷ i.0,
          e ∙ ap (λ z. r ++ z) i.1,
          (u, (x, m, refl, omega (arith, paid.0), omega (arith, paid.1, extra_kept x.parts.known x.bytes (undeclared xs) extra)), subst (λ z. ParsesEach Longer u i.0 (z, over)) (append_assoc s.0 (x ∷ []) xs) i.2),
        )

    -- what a whole run says, and what is over
    abbrev pub WholeRun : BudgetLeft → List ℕ → Paying → Type 0
    WholeRun left bs t = Run key val d n bs t.0 × ArePaid key val d cost extra left t.0 t.1

    module _ (key_free : key.nested ≡ false → (d : ℕ) (c : PayloadValue) → key.cost d c ≡ nothing) (val_free : val.nested ≡ false → (d : ℕ) (c : PayloadValue) → val.cost d c ≡ nothing) where
      next_faulty : (s : Paying) (bs : List ℕ) (f : DecodeError) → Broken s bs f → Answers (ImplicitField key val d) (next_record key val d n cost extra s bs) f
      next_faulty s bs f h = answers_as (λ x k. rw k refl) (said_faulty cost extra s.1 key_free val_free bs f h)

      pub run_sound : (left : BudgetLeft) (bs : List ℕ) → Agrees (run_of key val d n cost extra left bs) (WholeRun left bs) (RunFault key val d n cost extra left bs)
      run_sound left bs = agree_weaker (along_sound Longer (next_record key val d n cost extra) Broken next_sound next_complete (ImplicitField key val d) next_faulty next_some ([], left) bs)
          (λ t h. let i = run_of_pieces h.0 ([], left) t h.2 in
          (subst (λ z. Run key val d n bs z) (sym i.2) (subst (λ z. Run key val d n z i.0) (sym (h.1 ∙ append-nil (join h.0))) i.1), subst (λ z. ArePaid key val d cost extra left z t.1) (sym i.2) i.3))
          (λ f h. let i = run_of_pieces h.2.0 ([], left) h.0 h.2.2 in
          (i.0, h.1, h.0.1, (join h.2.0, h.2.1, i.1, i.3), h.3, h.4))

      pub run_complete : (left : BudgetLeft) (bs : List ℕ) (es : List (EntryRecord K V)) (over : BudgetLeft) → Run key val d n bs es → ArePaid key val d cost extra left es over → run_of key val d n cost extra left bs ≡ Ok (es, over)
      run_complete left bs es over h paid =
          let i = pieces_of_run bs ([], left) es over h paid in
          along_complete Longer (next_record key val d n cost extra) Broken next_sound next_complete (ImplicitField key val d) next_faulty next_some ([], left) (es, over) bs (i.0, i.1 ∙ sym (append-nil (join i.0)), i.2)

      pub run_faulty : (left : BudgetLeft) (bs : List ℕ) (f : DecodeError) → RunFault key val d n cost extra left bs f → Answers (ImplicitField key val d) (run_of key val d n cost extra left bs) f
      run_faulty left bs f (es, rest, over, (front, e, h, paid), some, broken) =
          let i = pieces_of_run front ([], left) es over h paid in
          along_faulty Longer (next_record key val d n cost extra) Broken next_sound next_complete (ImplicitField key val d) next_faulty next_some ([], left) bs f ((es, over), rest, (i.0, e ∙ ap (λ z. z ++ rest) i.1, i.2), some, broken)

-- what no payload of which is nested costs is the units
pub inner_free : {K V : Type 0} (key : Reading K) (val : Reading V) (d : ℕ) → (key.nested ≡ false → (d : ℕ) (c : PayloadValue) → key.cost d c ≡ nothing) → (val.nested ≡ false → (d : ℕ) (c : PayloadValue) → val.cost d c ≡ nothing) →
    (es : List (EntryRecord K V)) → ImplicitField key val d → cost_inside key val d es ≡ nothing
inner_free key val d key_free val_free [] p = refl
inner_free key val d key_free val_free (x ∷ xs) p = rw (charge_free key val d key_free val_free (blanks key val d) x.bytes p, inner_free key val d key_free val_free xs p) refl

-- ---- what a run means
pub fold_entries-append : {K V : Type 0} (eq : K → K → Bool) (m : List (K × V)) (es fs : List (EntryRecord K V)) → fold_entries eq m (es ++ fs) ≡ fold_entries eq (fold_entries eq m es) fs
fold_entries-append eq m [] fs = refl
fold_entries-append eq m (y ∷ es) fs = fold_entries-append eq (step eq m y.parts) es fs

chosen : {K V : Type 0} {eq : K → K → Bool} → IsEquivalence eq → (m k : List (K × V)) (a : K) (v : V) (b : Bool) → SamePairs eq m k → SamePairs eq (cond b (put eq m a v) m) (cond b (put eq k a v) k)
chosen laws m k a v true h = SamePairs-put laws m k a v h
chosen laws m k a v false h = h

pub SamePairs-step : {K V : Type 0} {eq : K → K → Bool} → IsEquivalence eq → (m k : List (K × V)) (s : MapEntry K V) → SamePairs eq m k → SamePairs eq (step eq m s) (step eq k s)
SamePairs-step laws m k s h = chosen laws m k s.key s.value s.known h

-- one entry more
pub fold_entries-more : {K V : Type 0} {eq : K → K → Bool} → IsEquivalence eq → (m k l : List (K × V)) (es : List (EntryRecord K V)) (x : EntryRecord K V) (s : MapEntry K V) → x.parts ≡ s → SamePairs eq (fold_entries eq m es) k → SamePairs eq (step eq k s) l → SamePairs eq (fold_entries eq m (es ++ x ∷ [])) l
fold_entries-more {eq = eq} laws m k l es x s is h i =
    rw (fold_entries-append eq m es (x ∷ []), is) (λ q. SamePairs-step laws (fold_entries eq m es) k s h q ∙ i q)

pub fold_entries-order : {K V : Type 0} (eq : K → K → Bool) (keeps : Bool) (m k l : List (K × V)) (es : List (EntryRecord K V)) (x : EntryRecord K V) (s : MapEntry K V) → x.parts ≡ s →
    InOrder keeps (fold_entries eq m es) k → InOrder keeps (step eq k s) l → InOrder keeps (fold_entries eq m (es ++ x ∷ [])) l
fold_entries-order eq keeps m k l es x s is h i kept =
    i kept ∙ ap (λ z. step eq z s) (h kept) ∙ sym (fold_entries-append eq m es (x ∷ []) ∙ ap (λ z. step eq (fold_entries eq m es) z) is)

kept_first : {K V : Type 0} (b : Bool) (e : List ℕ) (es fs : List (EntryRecord K V)) → undeclared (es ++ fs) ≡ undeclared es ++ undeclared fs → cond b (undeclared (es ++ fs)) (e ∷ undeclared (es ++ fs)) ≡ cond b (undeclared es) (e ∷ undeclared es) ++ undeclared fs
kept_first true e es fs h = h
kept_first false e es fs h = ap (λ z. e ∷ z) h

pub undeclared-append : {K V : Type 0} (es fs : List (EntryRecord K V)) → undeclared (es ++ fs) ≡ undeclared es ++ undeclared fs
undeclared-append [] fs = refl
undeclared-append (x ∷ es) fs = kept_first x.parts.known x.bytes es fs (undeclared-append es fs)

-- ---- what is kept of one entry more
record_last : (n : ℕ) (known : Bool) (e : List ℕ) → map (λ k. (n, bytes k)) (cond known [] (e ∷ [])) ≡ undeclared_record n e known
record_last n true e = refl
record_last n false e = refl

undeclared_records-last : {K V : Type 0} (n : ℕ) (es : List (EntryRecord K V)) (x : EntryRecord K V) → undeclared_records n (es ++ x ∷ []) ≡ undeclared_records n es ++ undeclared_record n x.bytes x.parts.known
undeclared_records-last n es x =
    let last : List (List ℕ) = cond x.parts.known [] (x.bytes ∷ []) in
    ap (map (λ k. (n, bytes k))) (undeclared-append es (x ∷ [])) ∙ map-append (λ k. (n, bytes k)) (undeclared es) last ∙ ap (λ z. undeclared_records n es ++ z) (record_last n x.parts.known x.bytes)

pub none_kept : (keeps : Bool) (records : List (ℕ × FieldData)) → records ≡ records ++ (if keeps then [] else [])
none_kept true records = sym (append-nil records)
none_kept false records = sym (append-nil records)

kept_too : (keeps : Bool) (a b c all one last : List (ℕ × FieldData)) → last ≡ all ++ one → b ≡ a ++ (if keeps then all else []) → c ≡ b ++ (if keeps then one else []) → c ≡ a ++ (if keeps then last else [])
kept_too true a b c all one last is h k = k ∙ ap (λ z. z ++ one) h ∙ append_assoc a all one ∙ ap (λ z. a ++ z) (sym is)
kept_too false a b c all one last is h k = k ∙ append-nil b ∙ h

pub kept-more : {K V : Type 0} (r : Rules K V) (a b c : List (ℕ × FieldData)) (es : List (EntryRecord K V)) (x : EntryRecord K V) → b ≡ a ++ kept_of_run r es → c ≡ b ++ kept_of_entry r x.bytes x.parts → c ≡ a ++ kept_of_run r (es ++ x ∷ [])
kept-more r a b c es x h k =
    kept_too r.keeps_undeclared a b c (undeclared_records r.number es) (undeclared_record r.number x.bytes x.parts.known) (undeclared_records r.number (es ++ x ∷ [])) (undeclared_records-last r.number es x) h k

-- ---- one entry more is paid
cost_inside-last : {K V : Type 0} (key : Reading K) (val : Reading V) (d : ℕ) (xs : List (EntryRecord K V)) (x : EntryRecord K V) →
    ((cost_inside key val d (xs ++ x ∷ [])).memory ≡ (cost_inside key val d xs).memory + (charge_at key val d (blanks key val d) x.bytes).memory)
    × ((cost_inside key val d (xs ++ x ∷ [])).unknown ≡ (cost_inside key val d xs).unknown + (charge_at key val d (blanks key val d) x.bytes).unknown)
cost_inside-last key val d [] x = (omega arith, omega arith)
cost_inside-last key val d (y ∷ xs) x = let i = cost_inside-last key val d xs x in (omega (arith, i.0), omega (arith, i.1))

pub Paid-more : {K V : Type 0} (key : Reading K) (val : Reading V) (d cost extra : ℕ) (a b c : BudgetLeft) (xs : List (EntryRecord K V)) (x : EntryRecord K V) → ArePaid key val d cost extra a xs b →
    Pays b (plus (charge_of key val d cost x.bytes) (unknown_fields (cond x.parts.known 0 extra))) c → ArePaid key val d cost extra a (xs ++ x ∷ []) c
Paid-more key val d cost extra a b c xs x h k =
    let i = cost_inside-last key val d xs x in (
      rw (length-append xs (x ∷ [])) (omega (arith, h.0, k.1, i.0)),
      rw (undeclared-append xs (x ∷ []), length-append (undeclared xs) (undeclared (x ∷ []))) (omega (arith, h.1, k.0, i.1, extra_kept x.parts.known x.bytes [] extra)),
    )
