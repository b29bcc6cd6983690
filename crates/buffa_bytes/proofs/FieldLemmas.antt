-- The readings of tags, payloads and groups agree with their grammar: what is read has the form (`.._sound`), what has the form is read
-- (`.._complete`), and else the fault is told (`.._faulty`).
use Rattle.std.proofs.Common.{◌≡◌, ◌≢◌, inl, inr, ℕ, zero, suc, ◌+◌, ◌-◌, ◌*◌, ◌/◌, ◌%◌, ◌^◌, ◌==◌, nat_lt, nat_eq, ◌<◌, ◌≤◌, Bool, true, false, List, [], ◌∷◌, ◌++◌, length, take, Option, None, Some, Result, Ok, Err, IsOk, refl, sym, ap, subst, ◌∙◌, arith, append_assoc, length-append, length-take, if◌then◌else◌}
use Rattle.std.proofs.lemmas.Bool.{lt-ltb, le-ltb, ltb-true, ltb-false, cond_both, eqb-true, eqb-false, eq-eqb, ne_eqb, false_from_ne_true}
use Rattle.std.proofs.lemmas.List.{take-append-drop, append_cancel_right}
use Rattle.std.proofs.Math.Seq.{drop-append_seam}
use Rattle.buffa_bytes.specs.declared.wire_type.WireType.{WireType}
use Rattle.buffa_bytes.specs.declared.wire_type.WireType.TheVariants.{Varint, Fixed64, LengthDelimited, StartGroup, EndGroup, Fixed32}
use Rattle.buffa_bytes.specs.declared.error.DecodeError.{DecodeError}
use Rattle.buffa_bytes.specs.declared.error.DecodeError.TheVariants.{UnexpectedEof, InvalidFieldNumber, InvalidWireType, RecursionLimitExceeded, InvalidEndGroup}
use Rattle.buffa_bytes.specs.Varint.{IsVarint}
use Rattle.buffa_bytes.specs.Join.{Join}
use Rattle.buffa_bytes.specs.Number.{IsNumber, wire_kind, wire_number}
use Rattle.buffa_bytes.specs.Join.Join.{none, more}
use Rattle.buffa_bytes.specs.Field.{IsTag, PayloadOver, SomeFieldOver, SomeField, Group, TakesTag, TakesPayload, BadTag, TagFault, PayloadFaultOver, FieldFaultOver, GroupFault, PayloadFault, TakesBytes}
use Rattle.buffa_bytes.specs.Readings.{varint_at, tag_of, tag_at, past, skip_by, fields_at, fields_step, group_at, group_step, passed, skip_at, same_wire, ◌>>=◌}
use Rattle.buffa_bytes.specs.Scan.{Scanned, scan, step_then, join, ParsesEach}
use Rattle.buffa_bytes.specs.Scan.Scanned.{ends, goes}
use Rattle.buffa_bytes.proofs.SequenceLemmas.{Ends, Meets, if_meets, upto_agrees, upto_complete, upto_sound, upto_turn}
use Rattle.buffa_bytes.proofs.StepLemmas.{Agrees, agree_bind, agree_err, agree_if, agree_ok, agree_weaker}
pub use Rattle.buffa_bytes.proofs.StepLemmas.{err_same, ok_no_err, ok_same}
use Rattle.buffa_bytes.specs.Values.{tag_encoding}
use Rattle.buffa_bytes.proofs.VarintLemmas.{IsVarint-varint_encoding, varint_sound, varint_complete, varint_faulty, varint_falls}

-- ---- tags
kind_back : (w : WireType) → wire_kind (wire_number w) ≡ Some w
kind_back Varint = refl
kind_back Fixed64 = refl
kind_back LengthDelimited = refl
kind_back StartGroup = refl
kind_back EndGroup = refl
kind_back Fixed32 = refl

pub same_true : (v w : WireType) → same_wire v w ≡ true → v ≡ w
same_true Varint Varint h = refl
same_true Fixed64 Fixed64 h = refl
same_true LengthDelimited LengthDelimited h = refl
same_true StartGroup StartGroup h = refl
same_true EndGroup EndGroup h = refl
same_true Fixed32 Fixed32 h = refl
same_true _ _ h = cc

pub same_refl : (w : WireType) → same_wire w w ≡ true
same_refl Varint = refl
same_refl Fixed64 = refl
same_refl LengthDelimited = refl
same_refl StartGroup = refl
same_refl EndGroup = refl
same_refl Fixed32 = refl

pub same_false : (v w : WireType) → w ≢ v → same_wire v w ≡ false
same_false v w n = false_from_ne_true (same_wire v w) (λ h. n (sym (same_true v w h)))

pub same_differs : (v w : WireType) → same_wire v w ≡ false → w ≢ v
same_differs v w h e = let k : same_wire v v ≡ false = subst (λ z. same_wire v z ≡ false) e h in let t = same_refl v in cc

pub wire_small : (w : WireType) → wire_number w < 6
wire_small Varint = omega arith
wire_small Fixed64 = omega arith
wire_small LengthDelimited = omega arith
wire_small StartGroup = omega arith
wire_small EndGroup = omega arith
wire_small Fixed32 = omega arith

kind_none : (n : ℕ) → 6 ≤ n → wire_kind n ≡ None
kind_none n h = rw (ne_eqb n 0 (λ e. absurd (omega arith)), ne_eqb n 1 (λ e. absurd (omega arith)), ne_eqb n 2 (λ e. absurd (omega arith)), ne_eqb n 3 (λ e. absurd (omega arith)), ne_eqb n 4 (λ e. absurd (omega arith)), ne_eqb n 5 (λ e. absurd (omega arith))) refl

abbrev kind_of : ℕ → Option WireType → Type 0
kind_of n None = 6 ≤ n
kind_of n (Some w) = wire_number w ≡ n

none_of : (n : ℕ) → n ≢ 0 → n ≢ 1 → n ≢ 2 → n ≢ 3 → n ≢ 4 → n ≢ 5 → 6 ≤ n
none_of n a b c d e f = omega arith

kind_is : (n : ℕ) → kind_of n (wire_kind n)
kind_is n =
    cond_both (nat_eq n 0) _ _ (kind_of n) (λ e. sym (eqb-true n 0 e)) (λ a.
    cond_both (nat_eq n 1) _ _ (kind_of n) (λ e. sym (eqb-true n 1 e)) (λ b.
    cond_both (nat_eq n 2) _ _ (kind_of n) (λ e. sym (eqb-true n 2 e)) (λ c.
    cond_both (nat_eq n 3) _ _ (kind_of n) (λ e. sym (eqb-true n 3 e)) (λ d.
    cond_both (nat_eq n 4) _ _ (kind_of n) (λ e. sym (eqb-true n 4 e)) (λ e.
    cond_both (nat_eq n 5) _ _ (kind_of n) (λ e. sym (eqb-true n 5 e)) (λ f.
    none_of n (eqb-false n 0 a) (eqb-false n 1 b) (eqb-false n 2 c) (eqb-false n 3 d) (eqb-false n 4 e) (eqb-false n 5 f)))))))

kind_sound : (n : ℕ) (k : Option WireType) → 8 ≤ n → n < 2 ^ 32 → kind_of (n % 8) k →
    Agrees {A = ℕ × WireType} (elim k [ None ↦ Err (InvalidWireType (n % 8)) | Some w ↦ Ok (n / 8, w) ]) (λ t. IsNumber t.0 × (n ≡ 8 * t.0 + wire_number t.1)) (BadTag n)
kind_sound n None h l k = record { holds = (h, l, refl, k) }
kind_sound n (Some w) h l k = record { holds = ((omega arith, omega arith), omega arith) }

tag_of_sound : (n : ℕ) → Agrees (tag_of n) (λ t. IsNumber t.0 × (n ≡ 8 * t.0 + wire_number t.1)) (BadTag n)
unfolding tag_of
tag_of_sound n = agree_if (nat_lt n (2 ^ 32))
    (λ e. agree_if (nat_lt n 8)
    (λ f. record { holds = inr (ltb-true n 8 f) })
    (λ f. kind_sound n (wire_kind (n % 8)) (ltb-false n 8 f) (ltb-true n (2 ^ 32) e) (kind_is (n % 8))))
    (λ e. record { holds = inl (ltb-false n (2 ^ 32) e) })

tag_of_complete : (f : ℕ) (w : WireType) → IsNumber f → tag_of (8 * f + wire_number w) ≡ Ok (f, w)
unfolding tag_of
tag_of_complete f w h =
    let s = wire_small w in
    let m : (8 * f + wire_number w) % 8 ≡ wire_number w = omega arith in
    let d : (8 * f + wire_number w) / 8 ≡ f = omega arith in
    rw (lt-ltb (8 * f + wire_number w) (2 ^ 32) (omega arith), le-ltb (8 * f + wire_number w) 8 (omega arith), m, kind_back w, d) refl

tag_of_faulty : (n : ℕ) (e : DecodeError) → BadTag n e → tag_of n ≡ Err e
unfolding tag_of
tag_of_faulty n InvalidFieldNumber (inl h) = rw (le-ltb n (2 ^ 32) h) refl
tag_of_faulty n InvalidFieldNumber (inr h) = rw (lt-ltb n (2 ^ 32) (omega arith), lt-ltb n 8 h) refl
tag_of_faulty n (InvalidWireType w) (a, b, c, d) = rw (lt-ltb n (2 ^ 32) b, le-ltb n 8 a, kind_none (n % 8) (omega arith)) (ap (λ x. Err (InvalidWireType x)) (sym c))
tag_of_faulty n _ h = absurd h

pub tag_sound : (bs : List ℕ) → Agrees (tag_at bs) (λ t. TakesTag bs t.0 t.1 t.2) (TagFault bs)
unfolding tag_at
tag_sound bs = agree_bind (varint_sound bs)
    (λ n v. agree_bind (tag_of_sound n.0) (λ t h. record { holds = (v.0, (h.0, subst (λ m. IsVarint v.0 m) h.1 v.1), v.2) }) (λ e h. inr (n.0, n.1, v, h)))
    (λ e f. inl f)

pub tag_complete : (t : List ℕ) (f : ℕ) (w : WireType) (rest : List ℕ) → IsTag t f w → tag_at (t ++ rest) ≡ Ok (f, w, rest)
unfolding tag_at
tag_complete t f w rest h = rw (varint_complete t (8 * f + wire_number w) rest h.1, tag_of_complete f w h.0) refl

pub tag_faulty : (bs : List ℕ) (e : DecodeError) → TagFault bs e → tag_at bs ≡ Err e
unfolding tag_at
tag_faulty bs e (inl f) = rw (varint_faulty bs e f) refl
tag_faulty bs e (inr (n, rest, (t, v, is), b)) = rw (is, varint_complete t n rest v, tag_of_faulty n e b) refl

-- the shortest tag is one
pub is_tag : (f : ℕ) (w : WireType) → IsNumber f → IsTag (tag_encoding f w) f w
is_tag f w h = (h, IsVarint-varint_encoding (8 * f + wire_number w) (omega (arith, h.1, wire_small w)))

pub tag_some : (t : List ℕ) (f : ℕ) (w : WireType) → IsTag t f w → 0 < length t
tag_some t f w h = varint_falls t (8 * f + wire_number w) h.1

-- by an equal number and an equal wire type it is the same tag
pub tag_as : (t : List ℕ) (f g : ℕ) (w v : WireType) → IsTag t f w → f ≡ g → w ≡ v → IsTag t g v
tag_as t f g w v h a b = subst (λ z. IsTag t z v) a (subst (λ z. IsTag t f z) b h)

pub takes_tag_as : (bs rest : List ℕ) (f g : ℕ) (w v : WireType) → TakesTag bs f w rest → f ≡ g → w ≡ v → TakesTag bs g v rest
takes_tag_as bs rest f g w v h a b = (h.0, tag_as h.0 f g w v h.1 a b, h.2)

pub tag_at_as : (bs rest : List ℕ) (f g : ℕ) (w v : WireType) → tag_at bs ≡ Ok (f, w, rest) → f ≡ g → w ≡ v → tag_at bs ≡ Ok (g, v, rest)
tag_at_as bs rest f g w v h a b = h ∙ ap (λ z. Ok (z, w, rest)) a ∙ ap (λ z. Ok (g, z, rest)) b

-- ---- payloads
pub tag_read : (bs rest : List ℕ) (n : ℕ) (w : WireType) → TakesTag bs n w rest → tag_at bs ≡ Ok (n, w, rest)
tag_read bs rest n w (t, is_tag, e) = ap tag_at e ∙ tag_complete t n w rest is_tag

-- what is read leaves less
pub tag_falls : (bs : List ℕ) (t : ℕ × WireType × List ℕ) → tag_at bs ≡ Ok t → length t.2 < length bs
tag_falls bs t e = let u = agree_ok (tag_at bs) t (tag_sound bs) e in omega (arith, tag_some u.0 t.0 t.1 u.1, ap length u.2, length-append u.0 t.2)

past_sound : (n : ℕ) (bs : List ℕ) → Agrees (past n bs) (λ rest. TakesBytes n bs rest) (λ e. (length bs < n) × (e ≡ UnexpectedEof))
unfolding past
past_sound n bs = agree_if (nat_lt (length bs) n)
    (λ e. record { holds = (ltb-true (length bs) n e, refl) })
    (λ e. record { holds = (take n bs, omega (arith, length-take n bs, ltb-false (length bs) n e), sym (take-append-drop n bs)) })

past_complete : (n : ℕ) (p rest : List ℕ) → length p ≡ n → past n (p ++ rest) ≡ Ok rest
unfolding past
past_complete n p rest e = rw (le-ltb (length (p ++ rest)) n (omega (arith, length-append p rest)), ← e) (ap (λ x. Ok x) (drop-append_seam p rest))

past_faulty : (n : ℕ) (bs : List ℕ) → length bs < n → past n bs ≡ Err UnexpectedEof
unfolding past
past_faulty n bs h = rw (lt-ltb (length bs) n h) refl

abbrev Inner : Type 0
Inner = ℕ → List ℕ → Result (List ℕ) DecodeError

abbrev pub Takes : (ℕ → List ℕ → Type 0) → ℕ → List ℕ → List ℕ → Type 0
Takes G f bs rest = (p : List ℕ) × G f p × (bs ≡ p ++ rest)

-- a tag, a payload and what was read behind them begin the bytes
pub one_more : (bs t p after mid body rest : List ℕ) → bs ≡ t ++ after → after ≡ p ++ mid → mid ≡ body ++ rest → bs ≡ ((t ++ p) ++ body) ++ rest
one_more bs t p after mid body rest e f g = e ∙ ap (λ z. t ++ z) (f ∙ ap (λ z. p ++ z) g) ∙ simp append_assoc

module _ (inner : Inner) (G : ℕ → List ℕ → Type 0) (F : ℕ → List ℕ → DecodeError → Type 0) where
  -- a reader of groups answers as the grammar says
  abbrev pub Sound : Type 0
  Sound = (f : ℕ) (bs : List ℕ) → Agrees (inner f bs) (λ rest. Takes G f bs rest) (F f bs)

  abbrev pub Complete : Type 0
  Complete = (f : ℕ) (p rest : List ℕ) → G f p → inner f (p ++ rest) ≡ Ok rest

  abbrev pub Faults : Type 0
  Faults = (f : ℕ) (bs : List ℕ) (e : DecodeError) → F f bs e → inner f bs ≡ Err e

  pub skip_sound : Sound → (f : ℕ) (w : WireType) (bs : List ℕ) → Agrees (skip_by inner f w bs) (λ rest. (p : List ℕ) × PayloadOver G f w p × (bs ≡ p ++ rest)) (PayloadFaultOver F f w bs)
  skip_sound s f Varint bs = agree_bind (varint_sound bs) (λ n v. record { holds = (v.0, (n.0, v.1), v.2) }) (λ e h. h)
  skip_sound s f Fixed64 bs = past_sound 8 bs
  skip_sound s f LengthDelimited bs = agree_bind (varint_sound bs)
      (λ n v. agree_weaker (past_sound n.0 n.1)
      (λ rest b. (v.0 ++ b.0, (v.0, b.0, subst (λ k. IsVarint v.0 k) (sym b.1) v.1, refl), v.2 ∙ ap (λ m. v.0 ++ m) b.2 ∙ sym (append_assoc v.0 b.0 rest)))
      (λ e b. inr (n.0, n.1, v, b.0, b.1)))
      (λ e h. inl h)
  skip_sound s f StartGroup bs = s f bs
  skip_sound s f EndGroup bs = record { holds = refl }
  skip_sound s f Fixed32 bs = past_sound 4 bs

  pub skip_complete : Complete → (f : ℕ) (w : WireType) (p rest : List ℕ) → PayloadOver G f w p → skip_by inner f w (p ++ rest) ≡ Ok rest
  skip_complete c f Varint p rest h = rw (varint_complete p h.0 rest h.1) refl
  skip_complete c f Fixed64 p rest h = past_complete 8 p rest h
  skip_complete c f LengthDelimited p rest (t, body, v, e) = rw (e, append_assoc t body rest, varint_complete t (length body) (body ++ rest) v) (past_complete (length body) body rest refl)
  skip_complete c f StartGroup p rest h = c f p rest h
  skip_complete c f EndGroup p rest h = absurd h
  skip_complete c f Fixed32 p rest h = past_complete 4 p rest h

  pub skip_faulty : Faults → (f : ℕ) (w : WireType) (bs : List ℕ) (e : DecodeError) → PayloadFaultOver F f w bs e → skip_by inner f w bs ≡ Err e
  skip_faulty c f Varint bs e h = rw (varint_faulty bs e h) refl
  skip_faulty c f Fixed64 bs e h = past_faulty 8 bs h.0 ∙ ap (λ x. Err x) (sym h.1)
  skip_faulty c f LengthDelimited bs e (inl h) = rw (varint_faulty bs e h) refl
  skip_faulty c f LengthDelimited bs e (inr (n, rest, (t, v, is), l, k)) = rw (is, varint_complete t n rest v) (past_faulty n rest l ∙ ap (λ x. Err x) (sym k))
  skip_faulty c f StartGroup bs e h = c f bs e h
  skip_faulty c f EndGroup bs e h = ap (λ x. Err x) (sym h)
  skip_faulty c f Fixed32 bs e h = past_faulty 4 bs h.0 ∙ ap (λ x. Err x) (sym h.1)

  abbrev pub TakesFields : ℕ → List ℕ → List ℕ → Type 0
  TakesFields f bs rest = (body : List ℕ) × (t : List ℕ) × Join (SomeFieldOver G) body × IsTag t f EndGroup × (bs ≡ body ++ (t ++ rest))

  abbrev pub FieldsFault : ℕ → List ℕ → DecodeError → Type 0
  FieldsFault f bs e = (body : List ℕ) × (rest : List ℕ) × Join (SomeFieldOver G) body × (bs ≡ body ++ rest) × FieldFaultOver F f rest e

  -- ---- fields up to the end tag, as pieces up to an end
  abbrev Passes : Unit {0} → List ℕ → Unit {0} → Type 0
  Passes s p t = SomeFieldOver G p

  abbrev EndsAt : ℕ → Unit {0} → List ℕ → List ℕ → Type 0
  EndsAt f s bs rest = (t : List ℕ) × IsTag t f EndGroup × (bs ≡ t ++ rest)

  abbrev Breaks : ℕ → Unit {0} → List ℕ → DecodeError → Type 0
  Breaks f s bs e = FieldFaultOver F f bs e

  abbrev field_step : ℕ → Unit {0} → List ℕ → Scanned (Unit {0}) (Result (List ℕ) DecodeError)
  field_step f s bs = fields_step inner f (tag_at bs)

  some_field : (s t : Unit {0}) (p : List ℕ) → Passes s p t → 0 < length p
  some_field s t p (g, w, (tag, q, is, x, e)) = omega (arith, tag_some tag g w is, ap length e, length-append tag q)

  joined : (s t : Unit {0}) (ps : List (List ℕ)) → ParsesEach Passes s ps t → Join (SomeFieldOver G) (join ps)
  joined s t [] h = none
  joined s t (p ∷ ps) (u, h, w) = more p (join ps) h (joined u t ps w)

  pieces : (body : List ℕ) → Join (SomeFieldOver G) body → (ps : List (List ℕ)) × (body ≡ join ps) × ParsesEach Passes tt ps tt
  pieces body none = ([], refl, refl)
  pieces body (more first rest h j) = let q = pieces rest j in (first ∷ q.0, ap (λ z. first ++ z) q.1, (tt, h, q.2))

  -- an end tag has no payload
  payload_no_end : (f : ℕ) (w : WireType) (p : List ℕ) → PayloadOver G f w p → w ≢ EndGroup
  payload_no_end f w p h e = subst (λ v. PayloadOver G f v p) e h

  module _ (s : Sound) where
    passed_meets : (f : ℕ) (bs : List ℕ) (t : ℕ × WireType × List ℕ) → tag_at bs ≡ Ok t → t.1 ≢ EndGroup → (r : Result (List ℕ) DecodeError) → skip_by inner t.0 t.1 t.2 ≡ r
        → Meets Passes (Ends (EndsAt f) (Breaks f)) (passed r) tt bs
    passed_meets f bs t e other (Ok mid) h =
        let u = agree_ok (tag_at bs) t (tag_sound bs) e in
        let p = agree_ok (skip_by inner t.0 t.1 t.2) mid (skip_sound s t.0 t.1 t.2) h in
        (u.0 ++ p.0, (t.0, t.1, (u.0, p.0, u.1, p.1, refl)), u.2 ∙ ap (λ z. u.0 ++ z) p.2 ∙ sym (append_assoc u.0 p.0 mid), λ r. refl)
    passed_meets f bs t e other (Err d) h =
        let u = agree_ok (tag_at bs) t (tag_sound bs) e in
        inr (inr (t.0, t.1, t.2, u, other, agree_err (skip_by inner t.0 t.1 t.2) d (skip_sound s t.0 t.1 t.2) h))

    step_meets : (f : ℕ) (bs : List ℕ) (r : Result (ℕ × WireType × List ℕ) DecodeError) → tag_at bs ≡ r → Meets Passes (Ends (EndsAt f) (Breaks f)) (fields_step inner f r) tt bs
    step_meets f bs (Ok t) e =
        let u = agree_ok (tag_at bs) t (tag_sound bs) e in
        if_meets Passes (Ends (EndsAt f) (Breaks f)) (same_wire EndGroup t.1) (if t.0 == f then Ok t.2 else Err (InvalidEndGroup t.0)) (passed (skip_by inner t.0 t.1 t.2)) tt bs
        (λ last. let end : IsTag u.0 t.0 EndGroup = subst (λ w. IsTag u.0 t.0 w) (sym (same_true EndGroup t.1 last)) u.1 in
        (agree_if {Q = EndsAt f tt bs} {E = Breaks f tt bs} (t.0 == f)
        (λ m. record { holds = (u.0, subst (λ g. IsTag u.0 g EndGroup) (eqb-true t.0 f m) end, u.2) })
        (λ m. record { holds = inr (inl (t.0, t.2, (u.0, end, u.2), eqb-false t.0 f m, refl)) })).holds)
        (λ other. passed_meets f bs t e (same_differs EndGroup t.1 other) (skip_by inner t.0 t.1 t.2) refl)
    step_meets f bs (Err d) e = inl (agree_err (tag_at bs) d (tag_sound bs) e)

    meets : (f : ℕ) (u : Unit {0}) (bs : List ℕ) → Meets Passes (Ends (EndsAt f) (Breaks f)) (field_step f u bs) u bs
    meets f u bs = step_meets f bs (tag_at bs) refl

    pub fields_turn : (f : ℕ) (bs : List ℕ) (r : Result (ℕ × WireType × List ℕ) DecodeError) → tag_at bs ≡ r → fields_at inner f bs ≡ step_then (λ _. fields_at inner f) (fields_step inner f r)
    unfolding fields_at
    fields_turn f bs r e =
        upto_turn Passes (Ends (EndsAt f) (Breaks f)) some_field (field_step f) (Err UnexpectedEof) (meets f) tt bs
        ∙ ap (λ z. step_then (λ _. fields_at inner f) (fields_step inner f z)) e

    pub fields_sound : (f : ℕ) (bs : List ℕ) → Agrees (fields_at inner f bs) (λ rest. TakesFields f bs rest) (FieldsFault f bs)
    unfolding fields_at
    fields_sound f bs =
        let all = upto_sound Passes (Ends (EndsAt f) (Breaks f)) some_field (field_step f) (Err UnexpectedEof) (meets f) tt bs in
        agree_weaker (upto_agrees Passes (EndsAt f) (Breaks f) (scan (field_step f) (Err UnexpectedEof) tt bs) tt bs all)
        (λ rest (u, mid, (ps, is, w), (t, tag, e)). (join ps, t, joined tt u ps w, tag, is ∙ ap (λ z. join ps ++ z) e))
        (λ e (u, rest, (ps, is, w), x). (join ps, rest, joined tt u ps w, is, x))

  module _ (s : Sound) (c : Complete) where
    -- a whole field is passed
    goes_on : (f : ℕ) (u v : Unit {0}) (p rest : List ℕ) → Passes u p v → field_step f u (p ++ rest) ≡ goes v rest (λ r. r)
    goes_on f u v p rest (g, w, (t, q, tag, x, e)) =
        ap (λ z. fields_step inner f (tag_at z)) (ap (λ z. z ++ rest) e ∙ append_assoc t q rest)
        ∙ rw (tag_complete t g w (q ++ rest) tag, same_false EndGroup w (payload_no_end g w q x), skip_complete c g w q rest x) refl

    -- fields, and then what ends them
    through : (f : ℕ) (bs body rest : List ℕ) (r : Result (List ℕ) DecodeError) → Join (SomeFieldOver G) body → bs ≡ body ++ rest → fields_step inner f (tag_at rest) ≡ ends r → fields_at inner f bs ≡ r
    unfolding fields_at
    through f bs body rest r j is end =
        let q = pieces body j in
        upto_complete Passes (Ends (EndsAt f) (Breaks f)) some_field (field_step f) (Err UnexpectedEof) (meets s f) (goes_on f) tt bs r (tt, rest, (q.0, is ∙ ap (λ z. z ++ rest) q.1, q.2), end)

    pub fields_complete : (f : ℕ) (bs rest : List ℕ) → TakesFields f bs rest → fields_at inner f bs ≡ Ok rest
    fields_complete f bs rest (body, t, j, tag, e) = through f bs body (t ++ rest) (Ok rest) j e (rw (tag_complete t f EndGroup rest tag, eq-eqb f f refl) refl)

    at_fault : Faults → (f : ℕ) (bs : List ℕ) (e : DecodeError) → FieldFaultOver F f bs e → fields_step inner f (tag_at bs) ≡ ends (Err e)
    at_fault d f bs e (inl x) = rw (tag_faulty bs e x) refl
    at_fault d f bs e (inr (inl (g, rest, (t, tag, is), n, k))) = rw (is, tag_complete t g EndGroup rest tag, ne_eqb g f n) (ap (λ x. ends (Err x)) (sym k))
    at_fault d f bs e (inr (inr (g, w, rest, (t, tag, is), n, x))) = rw (is, tag_complete t g w rest tag, same_false EndGroup w n, skip_faulty d g w rest e x) refl

    pub fields_faulty : Faults → (f : ℕ) (bs : List ℕ) (e : DecodeError) → FieldsFault f bs e → fields_at inner f bs ≡ Err e
    fields_faulty d f bs e (body, rest, j, is, x) = through f bs body rest (Err e) j is (at_fault d f rest e x)

pub group_sound : (d : ℕ) → Sound (group_at d) (Group d) (GroupFault d)
unfolding group_at Group GroupFault
group_sound zero f bs = record { holds = refl }
group_sound (suc d) f bs = agree_weaker (fields_sound (group_at d) (Group d) (GroupFault d) (group_sound d) f bs)
    (λ rest x. (x.0 ++ x.1, (x.0, x.1, x.2, x.3, refl), x.4 ∙ sym (append_assoc x.0 x.1 rest)))
    (λ e x. x)

pub group_complete : (d : ℕ) → Complete (group_at d) (Group d) (GroupFault d)
unfolding group_at Group
group_complete zero f p rest h = absurd h
group_complete (suc d) f p rest (body, t, j, s, e) =
    fields_complete (group_at d) (Group d) (GroupFault d) (group_sound d) (group_complete d) f (p ++ rest) rest (body, t, j, s, ap (λ z. z ++ rest) e ∙ append_assoc body t rest)

pub group_faulty : (d : ℕ) → Faults (group_at d) (Group d) (GroupFault d)
unfolding group_at GroupFault
group_faulty zero f bs e h = ap (λ x. Err x) (sym h)
group_faulty (suc d) f bs e h = fields_faulty (group_at d) (Group d) (GroupFault d) (group_sound d) (group_complete d) (group_faulty d) f bs e h

pub payload_sound : (d f : ℕ) (w : WireType) (bs : List ℕ) → Agrees (skip_at d f w bs) (λ rest. TakesPayload d f w bs rest) (PayloadFault d f w bs)
payload_sound d f w bs = skip_sound (group_at d) (Group d) (GroupFault d) (group_sound d) f w bs

pub payload_complete : (d f : ℕ) (w : WireType) (p rest : List ℕ) → PayloadOver (Group d) f w p → skip_at d f w (p ++ rest) ≡ Ok rest
payload_complete d f w p rest h = skip_complete (group_at d) (Group d) (GroupFault d) (group_complete d) f w p rest h

pub payload_faulty : (d f : ℕ) (w : WireType) (bs : List ℕ) (e : DecodeError) → PayloadFault d f w bs e → skip_at d f w bs ≡ Err e
payload_faulty d f w bs e h = skip_faulty (group_at d) (Group d) (GroupFault d) (group_faulty d) f w bs e h

pub skip_falls : (d f : ℕ) (w : WireType) (bs rest : List ℕ) → skip_at d f w bs ≡ Ok rest → length rest ≤ length bs
skip_falls d f w bs rest e = let u = agree_ok (skip_at d f w bs) rest (payload_sound d f w bs) e in omega (arith, ap length u.2, length-append u.0 rest)

-- ---- a group, a tag at a time
step_is : (go : List ℕ → Result (List ℕ) DecodeError) (b : Bool) (x r : Result (List ℕ) DecodeError) → step_then (λ _. go) (if b then ends x else passed r) ≡ (if b then x else (r >>= go))
step_is go true x r = refl
step_is go false x (Ok rest) = refl
step_is go false x (Err e) = refl

group_by : (d f : ℕ) (bs : List ℕ) (r : Result (ℕ × WireType × List ℕ) DecodeError) → tag_at bs ≡ r → group_at (suc d) f bs ≡ (r >>= group_step d f)
unfolding group_at
group_by d f bs (Ok t) e =
    fields_turn (group_at d) (Group d) (GroupFault d) (group_sound d) f bs (Ok t) e
    ∙ step_is (fields_at (group_at d) f) (same_wire EndGroup t.1) (if t.0 == f then Ok t.2 else Err (InvalidEndGroup t.0)) (skip_at d t.0 t.1 t.2)
group_by d f bs (Err x) e = fields_turn (group_at d) (Group d) (GroupFault d) (group_sound d) f bs (Err x) e

pub group_is : (d f : ℕ) (bs : List ℕ) → group_at (suc d) f bs ≡ (tag_at bs >>= group_step d f)
group_is d f bs = group_by d f bs (tag_at bs) refl

-- ---- the loop over the fields of a group
pub group_limit : (d f : ℕ) (bs : List ℕ) → d ≡ 0 → group_at d f bs ≡ Err RecursionLimitExceeded
unfolding group_at
group_limit d f bs e = rw e refl

at_least : (d f : ℕ) (bs : List ℕ) → d ≢ 0 → group_at d f bs ≡ (tag_at bs >>= group_step (d - 1) f)
at_least zero f bs n = absurd (n refl)
at_least (suc d) f bs n = let e : suc d - 1 ≡ d = omega arith in rw e (group_is d f bs)

pub group_tag_err : (d f : ℕ) (bs : List ℕ) (all : Result (List ℕ) DecodeError) (e : DecodeError) → d ≢ 0 → group_at d f bs ≡ all → tag_at bs ≡ Err e → all ≡ Err e
group_tag_err d f bs all e n h t = sym h ∙ at_least d f bs n ∙ rw t refl

pub group_end : (d f : ℕ) (bs : List ℕ) (all : Result (List ℕ) DecodeError) (t : ℕ × WireType × List ℕ) → d ≢ 0 → group_at d f bs ≡ all → tag_at bs ≡ Ok t → t.1 ≡ EndGroup → t.0 ≡ f → all ≡ Ok t.2
group_end d f bs all t n h e w m = sym h ∙ at_least d f bs n ∙ rw (e, w, eq-eqb t.0 f m) refl

pub group_other : (d f : ℕ) (bs : List ℕ) (all : Result (List ℕ) DecodeError) (t : ℕ × WireType × List ℕ) → d ≢ 0 → group_at d f bs ≡ all → tag_at bs ≡ Ok t → t.1 ≡ EndGroup → t.0 ≢ f → all ≡ Err (InvalidEndGroup t.0)
group_other d f bs all t n h e w m = sym h ∙ at_least d f bs n ∙ rw (e, w, ne_eqb t.0 f m) refl

pub group_skip_err : (d f : ℕ) (bs : List ℕ) (all : Result (List ℕ) DecodeError) (t : ℕ × WireType × List ℕ) (x : DecodeError) → d ≢ 0 → group_at d f bs ≡ all → tag_at bs ≡ Ok t → t.1 ≢ EndGroup → skip_at (d - 1) t.0 t.1 t.2 ≡ Err x → all ≡ Err x
group_skip_err d f bs all t x n h e w s = sym h ∙ at_least d f bs n ∙ rw (e, same_false EndGroup t.1 w, s) refl

pub group_next : (d f : ℕ) (bs rest : List ℕ) (all : Result (List ℕ) DecodeError) (t : ℕ × WireType × List ℕ) → d ≢ 0 → group_at d f bs ≡ all → tag_at bs ≡ Ok t → t.1 ≢ EndGroup → skip_at (d - 1) t.0 t.1 t.2 ≡ Ok rest → group_at d f rest ≡ all
group_next zero f bs rest all t n h e w s = absurd (n refl)
group_next (suc d) f bs rest all t n h e w s =
    let k : suc d - 1 ≡ d = omega arith in
    let s2 : skip_at d t.0 t.1 t.2 ≡ Ok rest = subst (λ m. skip_at m t.0 t.1 t.2 ≡ Ok rest) k s in
    sym (group_is d f bs ∙ rw (e, same_false EndGroup t.1 w, s2) refl) ∙ h

-- ---- laws
pub payload_taken : (d f : ℕ) (w : WireType) (bs rest : List ℕ) → TakesPayload d f w bs rest → skip_at d f w bs ≡ Ok rest
payload_taken d f w bs rest h = ap (λ z. skip_at d f w z) h.2 ∙ payload_complete d f w h.0 rest h.1

pub onward : (bs t rest x : List ℕ) → bs ≡ t ++ rest → bs ++ x ≡ t ++ (rest ++ x)
onward bs t rest x e = ap (λ z. z ++ x) e ∙ append_assoc t rest x

pub varint_less : (bs : List ℕ) (n : ℕ) (rest : List ℕ) → varint_at bs ≡ Ok (n, rest) → length rest < length bs
varint_less bs n rest e = let t = agree_ok (varint_at bs) (n, rest) (varint_sound bs) e in omega (arith, varint_falls t.0 n t.1, ap length t.2, length-append t.0 rest)

pub ok_there : {A E : Type 0} (r : Result A E) → IsOk r → (x : A) × (r ≡ Ok x)
ok_there (Ok x) h = (x, refl)
ok_there (Err e) h = cc

-- ---- no payload and no field begins another
pub one_payload : (d f : ℕ) (w : WireType) (bs x y : List ℕ) → TakesPayload d f w bs x → TakesPayload d f w bs y → x ≡ y
one_payload d f w bs x y h k = ok_same (sym (payload_taken d f w bs x h) ∙ payload_taken d f w bs y k)

-- a field, as a tag and what follows its payload
field_at : ℕ → List ℕ → Result (List ℕ) DecodeError
field_at d bs = tag_at bs >>= (λ t. skip_at d t.0 t.1 t.2)

field_taken : (d : ℕ) (b x : List ℕ) → SomeField d b → field_at d (b ++ x) ≡ Ok x
unfolding field_at
field_taken d b x (f, w, (t, p, tag, payload, is)) =
    let whole : b ++ x ≡ t ++ (p ++ x) = ap (λ z. z ++ x) is ∙ append_assoc t p x in
    rw (whole, tag_complete t f w (p ++ x) tag) (payload_complete d f w p x payload)

pub one_field : (d : ℕ) (first second x y : List ℕ) → SomeField d first → SomeField d second → first ++ x ≡ second ++ y → first ≡ second
one_field d first second x y h k e =
    let rest : x ≡ y = ok_same (sym (field_taken d first x h) ∙ ap (field_at d) e ∙ field_taken d second y k) in
    append_cancel_right first second y (ap (λ z. first ++ z) (sym rest) ∙ e)
