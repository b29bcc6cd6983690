-- An Item is a group of number 1, one level deeper; and whether such a group is an Item doesn't depend on what follows it.
use Rattle.std.proofs.Common.{◌≡◌, ◌⊎◌, inl, inr, ℕ, suc, ◌==◌, ◌&&◌, nat_lt, ◌^◌, Bool, true, false, List, [], ◌∷◌, ◌++◌, Option, None, Some, refl, sym, ap, subst, ◌∙◌, append_assoc}
use Rattle.buffa_bytes.specs.Field.{Group, IsTag, Payload, SomeField}
use Rattle.buffa_bytes.specs.Join.{Join}
use Rattle.buffa_bytes.specs.Join.Join.{none, more}
use Rattle.buffa_bytes.specs.Varint.{IsVarint}
use Rattle.buffa_bytes.specs.declared.wire_type.WireType.{WireType}
use Rattle.buffa_bytes.specs.declared.wire_type.WireType.TheVariants.{Varint, LengthDelimited, EndGroup}
use Rattle.buffa_bytes.specs.declared.error.DecodeError.{DecodeError}
use Rattle.buffa_bytes.specs.declared.error.DecodeError.TheVariants.{InvalidMessageSet}
use Rattle.buffa_bytes.specs.declared.error.MessageSetFault.TheVariants.{MissingTypeId, TypeIdOutOfRange}
use Rattle.buffa_bytes.proofs.FieldLemmas.{tag_as}
use Rattle.buffa_wire.proofs.MessageLemmas.{NoLimit, no_limit}
use Rattle.buffa_bytes.proofs.SequenceLemmas.{ParsesTo-first}
use Rattle.buffa_bytes.specs.Scan.{ParsesEach, join}
use Rattle.buffa_bytes.specs.Readings.{same_wire}
use Rattle.buffa_message_set.specs.Item.{ItemFieldFault, IsItemField, IsReadAlike, Item, ItemFault, Said, said, says, unsaid}
use Rattle.buffa_message_set.proofs.ItemLemmas.{StopsFrom, TakesFrom, both_false, both_true, field_no_end, is_type_id, item_fault, out_of, read_complete, read_faulty, takes_item}

-- ---- an Item is a group
field_is : (d : ℕ) (s t : Said) (f : List ℕ) → IsItemField d s f t → SomeField d f
field_is d s t f (inl (tag, p, id, is_tag, v, range, e, st)) = (2, Varint, (tag, p, is_tag, (id, v), e))
field_is d s t f (inr (inl (tag, l, b, is_tag, v, e, st))) = (3, LengthDelimited, (tag, l ++ b, is_tag, (l, b, v, refl), e))
field_is d s t f (inr (inr (n, w, other, h, st))) = (n, w, h)

pub item_fields : (d : ℕ) (ps : List (List ℕ)) (s t : Said) → ParsesEach (IsItemField d) s ps t → Join (SomeField d) (join ps)
item_fields d [] s t h = none
item_fields d (p ∷ ps) s t (u, h, w) = more p (join ps) (field_is d s u p h) (item_fields d ps u t w)

pub item_group : (d : ℕ) (b msg : List ℕ) (id : ℕ) → Item d b id msg → Group (suc d) 1 b
unfolding Group
item_group d b msg id (end, is, (ps, e, w)) = (join ps, end, item_fields d ps unsaid (says id msg) w, is, e)

-- ---- a group is an Item, or isn't, whatever follows it
module _ (d : ℕ) where
  -- from s, b is an Item up to its end; or it is none, for one fault
  abbrev Alike : Said → List ℕ → Type 0
  Alike s b =
      ((id : ℕ) × (msg : List ℕ) × ((x : List ℕ) → TakesFrom d s (b ++ x) (id, msg, x)))
      ⊎ ((e : DecodeError) × ((x : List ℕ) → StopsFrom d s (b ++ x) e))

  -- f is a field of an Item; or it is none, for one fault
  abbrev FieldAlike : Said → List ℕ → Type 0
  FieldAlike s f = ((u : Said) × IsItemField d s f u) ⊎ ((e : DecodeError) × ((x : List ℕ) → ItemFieldFault d (f ++ x) e))

  id_alike : (s : Said) (f t p : List ℕ) (k : ℕ) (b : Bool) → (nat_lt 0 k && nat_lt k (2 ^ 31)) ≡ b → IsTag t 2 Varint → IsVarint p k → f ≡ t ++ p → FieldAlike s f
  id_alike s f t p k true e tag v is = inl (record s { type_id = Some k }, inl (t, p, k, tag, v, is_type_id k e, is, refl))
  id_alike s f t p k false e tag v is =
      inr (InvalidMessageSet TypeIdOutOfRange, λ x. inr (inl (p ++ x, (t, tag, ap (λ z. z ++ x) is ∙ append_assoc t p x), inr (k, x, (p, v, refl), out_of k e, refl))))

  message_alike : (s : Said) (f t p : List ℕ) → IsTag t 3 LengthDelimited → Payload d 3 LengthDelimited p → f ≡ t ++ p → FieldAlike s f
  message_alike s f t p tag (l, b, v, split) is = inl (record s { message = s.message ++ b }, inr (inl (t, l, b, tag, v, is ∙ ap (λ z. t ++ z) split, refl)))

  field_alike : (s : Said) (f t p : List ℕ) (n : ℕ) (w : WireType) (a b : Bool) → ((n == 2) && same_wire Varint w) ≡ a → ((n == 3) && same_wire LengthDelimited w) ≡ b →
      IsTag t n w → Payload d n w p → f ≡ t ++ p → FieldAlike s f
  field_alike s f t p n w true b two three tag h is =
      let same = both_true n 2 Varint w two in
      let v : Payload d n Varint p = subst (λ z. Payload d n z p) (sym same.1) h in
      id_alike s f t p v.0 (nat_lt 0 v.0 && nat_lt v.0 (2 ^ 31)) refl (tag_as t n 2 w Varint tag same.0 (sym same.1)) v.1 is
  field_alike s f t p n w false true two three tag h is =
      let same = both_true n 3 LengthDelimited w three in
      message_alike s f t p (tag_as t n 3 w LengthDelimited tag same.0 (sym same.1)) (subst (λ z. Payload d n z p) (sym same.1) h) is
  field_alike s f t p n w false false two three tag h is =
      inl (s, inr (inr (n, w, (both_false n 2 Varint w two, both_false n 3 LengthDelimited w three, λ _. field_no_end d n w p h), (t, p, tag, h, is), refl)))

  end_alike : (s : Said) (t : List ℕ) (o : Option ℕ) → s.type_id ≡ o → IsTag t 1 EndGroup → Alike s t
  end_alike s t None e tag = inr (InvalidMessageSet MissingTypeId, λ x. (s, t ++ x, ([], refl, refl), inr (x, (t, tag, refl), e, refl)))
  end_alike s t (Some id) e tag = inl (id, s.message, λ x. (s, t ++ x, ([], refl, refl), ((t, tag, refl), ap (λ o. said o s.message) e)))

  step_alike : (s u : Said) (f b : List ℕ) → IsItemField d s f u → Alike u b → Alike s (f ++ b)
  step_alike s u f b step (inl (id, msg, k)) =
      inl (id, msg, λ x. let t = k x in (t.0, t.1, ParsesTo-first (IsItemField d) ((f ++ b) ++ x) s u t.0 f (b ++ x) t.1 step (append_assoc f b x) t.2, t.3))
  step_alike s u f b step (inr (e, k)) =
      inr (e, λ x. let t = k x in (t.0, t.1, ParsesTo-first (IsItemField d) ((f ++ b) ++ x) s u t.0 f (b ++ x) t.1 step (append_assoc f b x) t.2, t.3))

  then_alike : (s : Said) (f b : List ℕ) → FieldAlike s f → ((u : Said) → Alike u b) → Alike s (f ++ b)
  then_alike s f b (inl (u, step)) rest = step_alike s u f b step (rest u)
  then_alike s f b (inr (e, k)) rest =
      inr (e, λ x. (s, (f ++ b) ++ x, ([], refl, refl), inl (subst (λ z. ItemFieldFault d z e) (sym (append_assoc f b x)) (k (b ++ x)))))

  fields_alike : (body t : List ℕ) → Join (SomeField d) body → IsTag t 1 EndGroup → (s : Said) → Alike s (body ++ t)
  fields_alike _ t none tag s = end_alike s t s.type_id refl tag
  fields_alike _ t (more f r (n, w, (g, p, is_tag, h, is)) j) tag s =
      let field = field_alike s f g p n w ((n == 2) && same_wire Varint w) ((n == 3) && same_wire LengthDelimited w) refl refl is_tag h is in
      subst (λ z. Alike s z) (sym (append_assoc f r t)) (then_alike s f (r ++ t) field (λ u. fields_alike r t j tag u))

  answered : (p : List ℕ) → Alike unsaid p → IsReadAlike d p
  answered p (inl (id, msg, k)) = inl (id, msg, λ x. read_complete d (p ++ x) msg x id (takes_item d (p ++ x) msg x id (k x)))
  answered p (inr (e, k)) = inr (e, λ x. read_faulty d (p ++ x) e (k x))

  pub group_alike : (p : List ℕ) → Group (suc d) 1 p → IsReadAlike d p
  unfolding Group
  group_alike p (body, t, j, tag, is) = answered p (subst (λ z. Alike unsaid z) (sym is) (fields_alike body t j tag unsaid))

-- ---- no fault of an Item is a limit's
pub item_no_limit : (d : ℕ) (bs : List ℕ) (e : DecodeError) → ItemFault d bs e → NoLimit e
item_no_limit d bs e h = no_limit e (item_fault d bs e h)
