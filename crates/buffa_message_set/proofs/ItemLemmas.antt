-- Items: what is read of them, and the grammar.
use Rattle.std.proofs.Common.{◌≡◌, ◌≢◌, ◌⊎◌, inl, inr, ℕ, ◌==◌, ◌&&◌, nat_lt, ◌<◌, ◌^◌, Bool, true, false, List, [], ◌∷◌, ◌++◌, length, drop, Option, None, Some, Result, Ok, Err, IfOk, IsOk, refl, true≢false, sym, ap, subst, ◌∙◌, arith, append_assoc, append-nil, length-append}
use Rattle.std.proofs.lemmas.Bool.{and_cases, and_parts, eqb-true, eq-eqb, lt-ltb, le-ltb, ltb-true, ltb-false}
use Rattle.std.proofs.lemmas.List.{append_cancel_right}
use Rattle.buffa_bytes.specs.Field.{IsTag, LengthFault, Payload, TakesDelimited, TakesTag}
use Rattle.buffa_bytes.specs.Values.{tag_encoding}
use Rattle.buffa_bytes.specs.Varint.{IsVarint, varint_encoding}
use Rattle.buffa_bytes.specs.Readings.{delimited_at, skip_at, tag_at, taken, varint_at, same_wire, FullOnlyIf, Gives}
use Rattle.buffa_bytes.specs.Scan.{parsed, scan, ParsesEach, ParsesTo, join}
use Rattle.buffa_bytes.specs.Scan.Scanned.{ends, goes}
use Rattle.buffa_bytes.specs.declared.wire_type.WireType.{WireType}
use Rattle.buffa_bytes.specs.declared.wire_type.WireType.TheVariants.{Varint, LengthDelimited, EndGroup}
use Rattle.buffa_bytes.specs.declared.error.DecodeError.{DecodeError}
use Rattle.buffa_bytes.specs.declared.error.DecodeError.TheVariants.{InvalidMessageSet, OutOfMemory, UnexpectedEof}
use Rattle.buffa_bytes.specs.declared.error.MessageSetFault.TheVariants.{MissingTypeId, TypeIdOutOfRange}
use Rattle.buffa_bytes.proofs.StepLemmas.{Agrees, agree_bind, agree_err, agree_if, agree_ok, agree_weaker}
use Rattle.buffa_bytes.proofs.DelimitedLemmas.{delimited_complete, delimited_faulty, delimited_sound, taken_sound}
use Rattle.buffa_bytes.proofs.FieldLemmas.{ok_there, payload_complete, payload_faulty, payload_sound, tag_as, tag_complete, tag_faulty, takes_tag_as, tag_some, tag_sound, same_refl, same_true, tag_read}
use Rattle.buffa_bytes.proofs.ListLemmas.{cut_twice}
use Rattle.buffa_bytes.proofs.FaultLemmas.{IsOfBytes, as_of_bytes, length_fault, payload_fault, tag_fault, varint_fault}
use Rattle.buffa_bytes.proofs.FullLemmas.{skip_no_full}
use Rattle.buffa_bytes.proofs.VarintLemmas.{IsVarint-varint_encoding, varint_complete, varint_faulty, varint_sound}
use Rattle.buffa_bytes.specs.Unread.{IsFrontOf}
use Rattle.buffa_bytes.proofs.LendLemmas.{delimited_front}
use Rattle.buffa_bytes.proofs.SequenceLemmas.{Ends, Meets, ParsesTo-more, UpTo, if_meets, ok_same, parsed_meets, upto_agrees, upto_complete, upto_sound}
use Rattle.buffa_message_set.specs.Item.{BytesAt, EndFault, ItemFieldFault, HasMessage, IsItemField, IsMessageAt, IsOther, IsOutOfRange, IsTypeId, Item, ItemFault, Reaches, Said, TakesItem, TypeIdFault, appended_at, body_encoding, ends_item, ended, item_field_at, item_at, item_from, item_step, said, says, type_id_at, unsaid}

-- ---- numbers and wire types that are looked for
false_and : (a b : Bool) → (a ≡ true → b ≡ true → ⊥) → (a && b) ≡ false
false_and true true h = absurd (h refl refl)
false_and true false h = refl
false_and false b h = refl

pub both_true : (n m : ℕ) (v w : WireType) → ((n == m) && same_wire v w) ≡ true → (n ≡ m) × (v ≡ w)
both_true n m v w e = let h = and_parts (n == m) (same_wire v w) e in (eqb-true n m h.0, same_true v w h.1)

pub is_both : (n m : ℕ) (v w : WireType) → n ≡ m → w ≡ v → ((n == m) && same_wire v w) ≡ true
is_both n m v w a b = rw (eq-eqb n m a, b, same_refl v) refl

pub both_false : (n m : ℕ) (v w : WireType) → ((n == m) && same_wire v w) ≡ false → n ≡ m → w ≢ v
both_false n m v w e is same = true≢false (sym (is_both n m v w is same) ∙ e)

pub not_both : (n m : ℕ) (v w : WireType) → (n ≡ m → w ≢ v) → ((n == m) && same_wire v w) ≡ false
not_both n m v w h = false_and (n == m) (same_wire v w) (λ a b. h (eqb-true n m a) (sym (same_true v w b)))

-- ---- type ids
pub out_of : (n : ℕ) → (nat_lt 0 n && nat_lt n (2 ^ 31)) ≡ false → IsOutOfRange n
out_of n e = elim (and_cases (nat_lt 0 n) (nat_lt n (2 ^ 31)) e) [
  | inl h ↦ inl (omega (arith, ltb-false 0 n h))
  | inr h ↦ inr (ltb-false n (2 ^ 31) h)
]

pub is_type_id : (n : ℕ) → (nat_lt 0 n && nat_lt n (2 ^ 31)) ≡ true → IsTypeId n
is_type_id n e = let h = and_parts (nat_lt 0 n) (nat_lt n (2 ^ 31)) e in (ltb-true 0 n h.0, ltb-true n (2 ^ 31) h.1)

pub in_range : (n : ℕ) → IsTypeId n → (nat_lt 0 n && nat_lt n (2 ^ 31)) ≡ true
in_range n h = rw (lt-ltb 0 n h.0, lt-ltb n (2 ^ 31) h.1) refl

not_in_range : (n : ℕ) → IsOutOfRange n → (nat_lt 0 n && nat_lt n (2 ^ 31)) ≡ false
not_in_range n (inl h) = rw h refl
not_in_range n (inr h) = rw (le-ltb n (2 ^ 31) h) (false_and (nat_lt 0 n) false (λ a b. true≢false (sym b)))

type_id_sound : (bs : List ℕ) → Agrees (type_id_at bs) (λ x. (p : List ℕ) × IsVarint p x.0 × IsTypeId x.0 × (bs ≡ p ++ x.1)) (TypeIdFault bs)
type_id_sound bs = agree_bind (varint_sound bs)
    (λ n v. agree_if (nat_lt 0 n.0 && nat_lt n.0 (2 ^ 31))
    (λ e. record { holds = (v.0, v.1, is_type_id n.0 e, v.2) })
    (λ e. record { holds = inr (n.0, n.1, v, out_of n.0 e, refl) }))
    (λ e h. inl h)

type_id_complete : (p rest : List ℕ) (id : ℕ) → IsVarint p id → IsTypeId id → type_id_at (p ++ rest) ≡ Ok (id, rest)
type_id_complete p rest id v h = rw (varint_complete p id rest v, in_range id h) refl

type_id_faulty : (bs : List ℕ) (e : DecodeError) → TypeIdFault bs e → type_id_at bs ≡ Err e
type_id_faulty bs e (inl h) = rw (varint_faulty bs e h) refl
type_id_faulty bs e (inr (n, rest, (t, v, is), out, k)) = rw (is, varint_complete t n rest v, not_in_range n out) (ap (λ x. Err x) (sym k))

-- ---- fields
module _ (d : ℕ) where
  -- a field at the front of the bytes, which leads from s to what is said then
  abbrev pub FieldAt : Said → List ℕ → Said × List ℕ → Type 0
  FieldAt s all x = (f : List ℕ) × IsItemField d s f x.0 × (all ≡ f ++ x.1)

  pub field_sound : (s : Said) (all tag bs : List ℕ) (n : ℕ) (w : WireType) → IsTag tag n w → all ≡ tag ++ bs → (n ≡ 1 → w ≢ EndGroup) →
      Agrees (item_field_at d s n w bs) (FieldAt s all) (ItemFieldFault d all)
  field_sound s all tag bs n w is_tag e open_tag = agree_if ((n == 2) && same_wire Varint w)
      (λ two. let is = both_true n 2 Varint w two in let t = tag_as tag n 2 w Varint is_tag is.0 (sym is.1) in
      agree_bind (type_id_sound bs)
      (λ x m. record { holds = (tag ++ m.0, inl (tag, m.0, x.0, t, m.1, m.2, refl, refl), cut_twice all tag m.0 bs x.1 e m.3) })
      (λ f h. inr (inl (bs, (tag, t, e), h))))
      (λ not_two. agree_if ((n == 3) && same_wire LengthDelimited w)
      (λ three. let is = both_true n 3 LengthDelimited w three in let t = tag_as tag n 3 w LengthDelimited is_tag is.0 (sym is.1) in
      agree_bind (agree_bind {Q = λ x. (b : List ℕ) × TakesDelimited bs b x.1 × (x.0 ≡ s.message ++ b)} {E = LengthFault bs} (delimited_sound bs) (λ x m. record { holds = (x.0, m, refl) }) (λ f h. h))
      (λ x m. record {
        holds = (
          tag ++ (m.1.0 ++ m.0),
          inr (inl (tag, m.1.0, m.0, t, m.1.1, refl, ap (said s.type_id) m.2)),
          cut_twice all tag (m.1.0 ++ m.0) bs x.1 e (m.1.2 ∙ sym (append_assoc m.1.0 m.0 x.1)),
        );
      })
      (λ f h. inr (inr (inl (bs, (tag, t, e), h)))))
      (λ not_three. let other : IsOther n w = (both_false n 2 Varint w not_two, both_false n 3 LengthDelimited w not_three, open_tag) in
      agree_bind (payload_sound d n w bs)
      (λ rest p. record { holds = (tag ++ p.0, inr (inr (n, w, other, (tag, p.0, is_tag, p.1, refl), refl)), cut_twice all tag p.0 bs rest e p.2) })
      (λ f h. inr (inr (inr (n, w, bs, other, (tag, is_tag, e), h))))))

  pub field_no_end : (n : ℕ) (w : WireType) (p : List ℕ) → Payload d n w p → w ≢ EndGroup
  field_no_end n w p h e = subst (λ v. Payload d n v p) e h

  goes_on : (s t : Said) (f rest : List ℕ) → IsItemField d s f t → item_step d s (tag_at (f ++ rest)) ≡ goes t rest (λ r. r)
  goes_on s t f rest (inl (tag, p, id, is_tag, v, range, e, st)) =
      rw (e, append_assoc tag p rest, tag_complete tag 2 Varint (p ++ rest) is_tag, type_id_complete p rest id v range, st) refl
  goes_on s t f rest (inr (inl (tag, l, b, is_tag, v, e, st))) =
      rw (e, append_assoc tag (l ++ b) rest, append_assoc l b rest, tag_complete tag 3 LengthDelimited (l ++ (b ++ rest)) is_tag, delimited_complete l b rest v, st) refl
  goes_on s t f rest (inr (inr (n, w, other, (tag, p, is_tag, h, e), st))) =
      rw (e, append_assoc tag p rest, tag_complete tag n w (p ++ rest) is_tag, not_both n 1 EndGroup w other.2, not_both n 2 Varint w other.0, not_both n 3 LengthDelimited w other.1, payload_complete d n w p rest h, st) refl

  field_some : (s t : Said) (f : List ℕ) → IsItemField d s f t → 0 < length f
  field_some s t f (inl (tag, p, id, is_tag, v, range, e, st)) = omega (arith, tag_some tag 2 Varint is_tag, ap length e, length-append tag p)
  field_some s t f (inr (inl (tag, l, b, is_tag, v, e, st))) = omega (arith, tag_some tag 3 LengthDelimited is_tag, ap length e, length-append tag (l ++ b))
  field_some s t f (inr (inr (n, w, other, (tag, p, is_tag, h, e), st))) = omega (arith, tag_some tag n w is_tag, ap length e, length-append tag p)

  -- ---- whole Items, from where s was said
  -- the end tag, after which an Item that says x ends
  abbrev ItemEnds : Said → List ℕ → ℕ × List ℕ × List ℕ → Type 0
  ItemEnds t rest x = TakesTag rest 1 EndGroup x.2 × (t ≡ says x.0 x.1)

  abbrev ItemStops : Said → List ℕ → DecodeError → Type 0
  ItemStops t rest e = ItemFieldFault d rest e ⊎ EndFault t rest e

  abbrev pub TakesFrom : Said → List ℕ → ℕ × List ℕ × List ℕ → Type 0
  TakesFrom = UpTo (IsItemField d) ItemEnds

  abbrev pub StopsFrom : Said → List ℕ → DecodeError → Type 0
  StopsFrom = UpTo (IsItemField d) ItemStops

  abbrev Finishes : Said → List ℕ → Result (ℕ × List ℕ × List ℕ) DecodeError → Type 0
  Finishes = Ends ItemEnds ItemStops

  ended_sound : (s : Said) (o : Option ℕ) (bs rest : List ℕ) → s.type_id ≡ o → TakesTag bs 1 EndGroup rest → Finishes s bs (ended o s.message rest)
  ended_sound s None bs rest so u = inr (rest, u, so, refl)
  ended_sound s (Some id) bs rest so u = (u, ap (λ o. said o s.message) so)

  meets : (s : Said) (bs : List ℕ) (r : Result (ℕ × WireType × List ℕ) DecodeError) → tag_at bs ≡ r → Meets (IsItemField d) Finishes (item_step d s r) s bs
  meets s bs (Ok t) e =
      let u = agree_ok (tag_at bs) t (tag_sound bs) e in
      if_meets (IsItemField d) Finishes (ends_item t.0 t.1) (ended s.type_id s.message t.2) (parsed (item_field_at d s t.0 t.1 t.2)) s bs
      (λ last. let is = both_true t.0 1 EndGroup t.1 last in ended_sound s s.type_id bs t.2 refl (takes_tag_as bs t.2 t.0 1 t.1 EndGroup u is.0 (sym is.1)))
      (λ other.
      let sound = field_sound s bs u.0 t.2 t.0 t.1 u.1 u.2 (both_false t.0 1 EndGroup t.1 other) in
      parsed_meets (IsItemField d) ItemEnds ItemStops (item_field_at d s t.0 t.1 t.2) s bs (agree_weaker sound (λ x f. f) (λ y f. inl f)))
  meets s bs (Err x) e = inl (inl (agree_err (tag_at bs) x (tag_sound bs) e))

  at_stop : (s : Said) (bs : List ℕ) (e : DecodeError) → ItemStops s bs e → item_step d s (tag_at bs) ≡ ends (Err e)
  at_stop s bs e (inl (inl h)) = rw (tag_faulty bs e h) refl
  at_stop s bs e (inl (inr (inl (rest, t, h)))) = rw (tag_read bs rest 2 Varint t, type_id_faulty rest e h) refl
  at_stop s bs e (inl (inr (inr (inl (rest, t, h))))) = rw (tag_read bs rest 3 LengthDelimited t, delimited_faulty rest e h) refl
  at_stop s bs e (inl (inr (inr (inr (n, w, rest, other, t, h))))) =
      rw (tag_read bs rest n w t, not_both n 1 EndGroup w other.2, not_both n 2 Varint w other.0, not_both n 3 LengthDelimited w other.1, payload_faulty d n w rest e h) refl
  at_stop s bs e (inr (rest, t, no_id, k)) = rw (tag_read bs rest 1 EndGroup t, no_id, k) refl

  pub item_sound : (s : Said) (bs : List ℕ) → Agrees (item_from d s bs) (TakesFrom s bs) (StopsFrom s bs)
  unfolding item_from
  item_sound s bs =
      let all = upto_sound (IsItemField d) Finishes field_some (λ t rest. item_step d t (tag_at rest)) (Err UnexpectedEof) (λ t rest. meets t rest (tag_at rest) refl) s bs in
      upto_agrees (IsItemField d) ItemEnds ItemStops (scan (λ t rest. item_step d t (tag_at rest)) (Err UnexpectedEof) s bs) s bs all

  -- whole fields are passed
  passed : (s t : Said) (bs rest : List ℕ) (r : Result (ℕ × List ℕ × List ℕ) DecodeError) → ParsesTo (IsItemField d) s bs t rest → item_step d t (tag_at rest) ≡ ends r → item_from d s bs ≡ r
  unfolding item_from
  passed s t bs rest r w e =
      upto_complete (IsItemField d) Finishes field_some (λ t rest. item_step d t (tag_at rest)) (Err UnexpectedEof) (λ t rest. meets t rest (tag_at rest) refl) goes_on s bs r (t, rest, w, e)

  pub from_complete : (s : Said) (bs : List ℕ) (x : ℕ × List ℕ × List ℕ) → TakesFrom s bs x → item_from d s bs ≡ Ok x
  from_complete s bs x (t, rest, w, (u, is)) = passed s t bs rest (Ok x) w (rw (tag_read rest x.2 1 EndGroup u, is) refl)

  pub from_faulty : (s : Said) (bs : List ℕ) (e : DecodeError) → StopsFrom s bs e → item_from d s bs ≡ Err e
  from_faulty s bs e (t, rest, w, h) = passed s t bs rest (Err e) w (at_stop t rest e h)

  -- ---- the reading of an Item
  pub takes_from : (bs msg rest : List ℕ) (id : ℕ) → TakesItem d bs id msg rest → TakesFrom unsaid bs (id, msg, rest)
  takes_from bs msg rest id (b, (end, is, (ps, e, w)), whole_is) =
      (says id msg, end ++ rest, (ps, whole_is ∙ ap (λ z. z ++ rest) e ∙ append_assoc (join ps) end rest, w), ((end, is, refl), refl))

  pub takes_item : (bs msg rest : List ℕ) (id : ℕ) → TakesFrom unsaid bs (id, msg, rest) → TakesItem d bs id msg rest
  takes_item bs msg rest id (t, mid, (ps, e, w), ((end, is, split), same)) =
      (join ps ++ end, (end, is, (ps, refl, subst (λ z. ParsesEach (IsItemField d) unsaid ps z) same w)), e ∙ ap (λ z. join ps ++ z) split ∙ sym (append_assoc (join ps) end rest))

  pub read_sound : (bs : List ℕ) → Agrees (item_at d bs) (λ x. TakesItem d bs x.0 x.1 x.2) (ItemFault d bs)
  unfolding item_at
  read_sound bs = agree_weaker (item_sound unsaid bs) (λ x h. takes_item bs x.1 x.2 x.0 h) (λ e h. h)

  pub read_complete : (bs msg rest : List ℕ) (id : ℕ) → TakesItem d bs id msg rest → item_at d bs ≡ Ok (id, msg, rest)
  unfolding item_at
  read_complete bs msg rest id h = from_complete unsaid bs (id, msg, rest) (takes_from bs msg rest id h)

  pub read_faulty : (bs : List ℕ) (e : DecodeError) → ItemFault d bs e → item_at d bs ≡ Err e
  unfolding item_at
  read_faulty bs e h = from_faulty unsaid bs e h

-- ---- no fault of an Item is a budget's, nor memory's
type_id_fault : (bs : List ℕ) (e : DecodeError) → TypeIdFault bs e → IsOfBytes e
type_id_fault bs e (inl h) = varint_fault bs e h
type_id_fault bs e (inr (n, x, v, out, is)) = as_of_bytes e (InvalidMessageSet TypeIdOutOfRange) is tt

pub type_id_no_full : {P : Type 0} (bs : List ℕ) (e : DecodeError) → type_id_at bs ≡ Err e → e ≡ OutOfMemory → P
type_id_no_full bs e h k = absurd (subst IsOfBytes k (type_id_fault bs e (agree_err (type_id_at bs) e (type_id_sound bs) h)))

pub skipped_no_full : {X : Type 0} (P : Type 0) (r : Result X DecodeError) (d n : ℕ) (w : WireType) (bs rest : List ℕ) → Gives (λ _. rest) r (skip_at d n w bs) → FullOnlyIf r P
skipped_no_full P (Ok x) d n w bs rest h = tt
skipped_no_full P (Err e) d n w bs rest h = skip_no_full d n w bs e h

module _ (d : ℕ) where
  field_fault : (bs : List ℕ) (e : DecodeError) → ItemFieldFault d bs e → IsOfBytes e
  field_fault bs e (inl h) = tag_fault bs e h
  field_fault bs e (inr (inl (rest, t, h))) = type_id_fault rest e h
  field_fault bs e (inr (inr (inl (rest, t, h)))) = length_fault rest e h
  field_fault bs e (inr (inr (inr (n, w, rest, other, t, h)))) = payload_fault d n w rest e h

  pub item_fault : (bs : List ℕ) (e : DecodeError) → ItemFault d bs e → IsOfBytes e
  item_fault bs e (s, rest, reached, inl h) = field_fault rest e h
  item_fault bs e (s, rest, reached, inr (after, t, none_is, is)) = as_of_bytes e (InvalidMessageSet MissingTypeId) is tt

-- ---- message bytes
-- no bytes change nothing
pub no_bytes : (n : ℕ) (msg bs mid : List ℕ) → varint_at bs ≡ Ok (n, mid) → n ≡ 0 → appended_at msg bs ≡ Ok (msg, mid)
unfolding taken
no_bytes n msg bs mid v none = rw (v, none, le-ltb (length mid) 0 (omega arith), append-nil msg) refl

-- bytes that lie at the front, after their length
pub part_appended : (n : ℕ) (msg bs mid part rest : List ℕ) → varint_at bs ≡ Ok (n, mid) → IsFrontOf part n mid → rest ≡ drop n mid → appended_at msg bs ≡ Ok (msg ++ part, rest)
part_appended n msg bs mid part rest v f e = rw (delimited_front n bs mid part v f, e) refl

-- after a length that isn't 0 there are bytes, where so many are left
some_bytes : (n : ℕ) (bs mid : List ℕ) → varint_at bs ≡ Ok (n, mid) → n ≢ 0 → IsOk (taken n mid) → BytesAt bs
some_bytes n bs mid v some there =
    let x = ok_there (taken n mid) there in
    let t = agree_ok (taken n mid) x.0 (taken_sound n mid) x.1 in
    (x.0.0, x.0.1, rw v x.1, λ e. some (sym t.0 ∙ ap length e))

pub full_bytes : {X : Type 0} (r : Result X DecodeError) (n : ℕ) (bs mid : List ℕ) → varint_at bs ≡ Ok (n, mid) → n ≢ 0 → FullOnlyIf r (IsOk (taken n mid)) → FullOnlyIf r (BytesAt bs)
full_bytes (Ok x) n bs mid v some h = tt
full_bytes (Err e) n bs mid v some h = λ k. some_bytes n bs mid v some (h k)

pub part_there : (n : ℕ) (mid part : List ℕ) → IsFrontOf part n mid → IsOk (taken n mid)
unfolding taken
part_there n mid part f = rw (le-ltb (length mid) n f.fits) refl

-- ---- the loop over the fields
module _ (d : ℕ) (all : List ℕ) (s : Said) (bs : List ℕ) (reached : Reaches d all s bs) where
  pub no_tag : (e : DecodeError) → tag_at bs ≡ Err e → item_at d all ≡ Err e
  no_tag e h = read_faulty d all e (s, bs, reached, inl (inl (agree_err (tag_at bs) e (tag_sound bs) h)))

  module _ (n : ℕ) (w : WireType) (rest : List ℕ) (tag : tag_at bs ≡ Ok (n, w, rest)) where
    took : TakesTag bs n w rest
    took = agree_ok (tag_at bs) (n, w, rest) (tag_sound bs) tag

    took_end : ends_item n w ≡ true → TakesTag bs 1 EndGroup rest
    took_end h = let is = both_true n 1 EndGroup w h in takes_tag_as bs rest n 1 w EndGroup took is.0 (sym is.1)

    pub whole_item : ends_item n w ≡ true → (id : ℕ) → s.type_id ≡ Some id → item_at d all ≡ Ok (id, s.message, rest)
    whole_item h id is = read_complete d all s.message rest id (takes_item d all s.message rest id (s, bs, reached, (took_end h, ap (λ o. said o s.message) is)))

    pub no_type_id : ends_item n w ≡ true → s.type_id ≡ None → item_at d all ≡ Err (InvalidMessageSet MissingTypeId)
    no_type_id h is = read_faulty d all (InvalidMessageSet MissingTypeId) (s, bs, reached, inr (rest, took_end h, is, refl))

    ended_by : ends_item n w ≡ true → (o : Option ℕ) → s.type_id ≡ o → item_at d all ≡ ended o s.message rest
    ended_by h None is = no_type_id h is
    ended_by h (Some id) is = whole_item h id is

    pub ended_item : ends_item n w ≡ true → item_at d all ≡ ended s.type_id s.message rest
    ended_item h = ended_by h s.type_id refl

    module _ (goes_on : ends_item n w ≡ false) where
      sound : Agrees (item_field_at d s n w rest) (FieldAt d s bs) (ItemFieldFault d bs)
      sound = field_sound d s bs took.0 rest n w took.1 took.2 (both_false n 1 EndGroup w goes_on)

      pub bad_field : (e : DecodeError) → item_field_at d s n w rest ≡ Err e → item_at d all ≡ Err e
      bad_field e h = read_faulty d all e (s, bs, reached, inl (agree_err (item_field_at d s n w rest) e sound h))

      pub next_field : (t : Said) (after : List ℕ) → item_field_at d s n w rest ≡ Ok (t, after) → Reaches d all t after
      next_field t after h =
          let u = agree_ok (item_field_at d s n w rest) (t, after) sound h in
          ParsesTo-more (IsItemField d) all unsaid s t u.0 bs after reached u.1 u.2

      pub fewer : (t : Said) (after : List ℕ) → item_field_at d s n w rest ≡ Ok (t, after) → length after < length bs
      fewer t after h =
          let u = agree_ok (item_field_at d s n w rest) (t, after) sound h in
          omega (arith, field_some d s t u.0 u.1, ap length u.2, length-append u.0 after)

    pub found_message : IsMessageAt n w rest → HasMessage d all
    found_message (three, delimited, (b, after, e, some)) =
        let t = agree_ok (delimited_at rest) (b, after) (delimited_sound rest) e in
        (s, bs, rest, b, after, reached, takes_tag_as bs rest n 3 w LengthDelimited took three delimited, t, some)

-- ---- laws
module _ (d : ℕ) where
  -- an Item begins bytes in one way
  pub one_item : (a b x y m o : List ℕ) (n k : ℕ) → Item d a n m → Item d b k o → a ++ x ≡ b ++ y → (a ≡ b) × (n ≡ k) × (m ≡ o)
  one_item a b x y m o n k h j e =
      let same = ok_same (sym (read_complete d (a ++ x) m x n (a, h, refl)) ∙ read_complete d (a ++ x) o y k (b, j, e)) in
      let rest : x ≡ y = ap (λ z. z.2) same in
      (append_cancel_right a b y (ap (λ z. a ++ z) (sym rest) ∙ e), ap (λ z. z.0) same, ap (λ z. z.1) same)

  -- what is said of a type id is in range
  abbrev InRange : Option ℕ → Type 0
  InRange None = Unit {0}
  InRange (Some id) = IsTypeId id

  field_in_range : (s t : Said) (f : List ℕ) → IsItemField d s f t → InRange s.type_id → InRange t.type_id
  field_in_range s t f (inl (tag, p, id, is_tag, v, range, e, st)) h = subst (λ z. InRange z.type_id) (sym st) range
  field_in_range s t f (inr (inl (tag, l, b, is_tag, v, e, st))) h = subst (λ z. InRange z.type_id) (sym st) h
  field_in_range s t f (inr (inr (n, w, other, field, st))) h = subst (λ z. InRange z.type_id) (sym st) h

  each_in_range : (ps : List (List ℕ)) (s t : Said) → ParsesEach (IsItemField d) s ps t → InRange s.type_id → InRange t.type_id
  each_in_range [] s t e h = subst (λ z. InRange z.type_id) e h
  each_in_range (p ∷ ps) s t (u, f, more) h = each_in_range ps u t more (field_in_range s u p f h)

  pub item_in_range : (b msg : List ℕ) (id : ℕ) → Item d b id msg → IsTypeId id
  item_in_range b msg id (end, is, (ps, e, w)) = each_in_range ps unsaid (says id msg) w tt

  pub read_in_range : (bs : List ℕ) (id : ℕ) (msg rest : List ℕ) → item_at d bs ≡ Ok (id, msg, rest) → IsTypeId id
  read_in_range bs id msg rest h =
      let t = agree_ok (item_at d bs) (id, msg, rest) (read_sound d bs) h in item_in_range t.0 msg id t.1

  pub given_in_range : {X : Type 0} (r : Result X DecodeError) (id : X → ℕ) (msg : X → List ℕ) (o : Option ℕ) (m bs rest : List ℕ) →
      item_at d bs ≡ ended o m rest → Gives (λ x. (id x, msg x, rest)) r (ended o m rest) → IfOk r (λ x. IsTypeId (id x))
  given_in_range (Ok x) id msg o m bs rest e h = read_in_range bs (id x) (msg x) rest (e ∙ h)
  given_in_range (Err f) id msg o m bs rest e h = tt

  pub written_item : (id : ℕ) (msg : List ℕ) → IsTypeId id → length msg < 2 ^ 64 → Item d (body_encoding id msg) id msg
  written_item id msg range short =
      let two = tag_encoding 2 Varint in
      let three = tag_encoding 3 LengthDelimited in
      let len = varint_encoding (length msg) in
      let end = tag_encoding 1 EndGroup in
      let first = two ++ varint_encoding id in
      let second = three ++ (len ++ msg) in
      let is_two : IsTag two 2 Varint = ((omega arith, omega arith), IsVarint-varint_encoding 16 (omega arith)) in
      let is_three : IsTag three 3 LengthDelimited = ((omega arith, omega arith), IsVarint-varint_encoding 26 (omega arith)) in
      let is_end : IsTag end 1 EndGroup = ((omega arith, omega arith), IsVarint-varint_encoding 12 (omega arith)) in
      let is_id : IsVarint (varint_encoding id) id = IsVarint-varint_encoding id (omega (arith, range.1)) in
      let is_len : IsVarint len (length msg) = IsVarint-varint_encoding (length msg) short in
      let split : body_encoding id msg ≡ join (first ∷ second ∷ []) ++ end = simp (append_assoc, append-nil) in (
        end,
        is_end,
        (
          first ∷ second ∷ [],
          split,
          (says id [], inl (two, varint_encoding id, id, is_two, is_id, range, refl, refl), (says id msg, inr (inl (three, len, msg, is_three, is_len, refl, refl)), refl)),
        ),
      )
