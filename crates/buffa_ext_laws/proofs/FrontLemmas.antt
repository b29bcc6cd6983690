-- What stands in front of an Item makes another one.
use Rattle.std.proofs.Common.{◌≡◌, ◌≢◌, ◌⊎◌, inl, inr, ℕ, ◌<◌, ◌==◌, Bool, true, false, Err, if◌then◌else◌, List, [], ◌∷◌, ◌++◌, length, Option, None, Some, refl, sym, ap, subst, ◌∙◌, arith, append_assoc, append-nil}
use Rattle.std.proofs.lemmas.Bool.{eqb-true}
use Rattle.buffa_bytes.specs.Field.{Field, IsTag, LengthFault, PayloadFault, TagFault}
use Rattle.buffa_bytes.specs.Field.{SomeField}
use Rattle.buffa_bytes.specs.Join.{Join}
use Rattle.buffa_bytes.specs.Scan.{ParsesEach, join}
use Rattle.buffa_bytes.specs.Varint.{IsVarint, VarintFault}
use Rattle.buffa_bytes.specs.declared.error.DecodeError.{DecodeError}
use Rattle.buffa_bytes.specs.declared.error.DecodeError.TheVariants.{InvalidMessageSet, UnknownFieldLimitExceeded}
use Rattle.buffa_bytes.specs.declared.error.MessageSetFault.TheVariants.{MissingTypeId, TypeIdOutOfRange}
use Rattle.buffa_bytes.specs.declared.wire_type.WireType.{WireType}
use Rattle.buffa_bytes.specs.declared.wire_type.WireType.TheVariants.{Varint, LengthDelimited, EndGroup}
use Rattle.buffa_message_set.specs.Item.{EndFault, HasMessage, IsItemField, IsOther, IsOutOfRange, IsTypeId, Item, ItemFault, ItemFieldFault, Said, item_at, item_in, said, says, unsaid}
use Rattle.buffa_message_set.proofs.GroupLemmas.{item_fields}

-- the number that was said, or else another one
abbrev or_earlier : Option ℕ → Option ℕ → Option ℕ
or_earlier earlier None = earlier
or_earlier earlier (Some id) = Some id

-- what is said where an earlier type id and earlier message bytes were said first
abbrev behind : Option ℕ → List ℕ → Said → Said
behind earlier front s = said (or_earlier earlier s.type_id) (front ++ s.message)

module _ (d : ℕ) (earlier : Option ℕ) (front : List ℕ) where
  field_behind : (s t : Said) (f : List ℕ) → IsItemField d s f t → IsItemField d (behind earlier front s) f (behind earlier front t)
  field_behind s t f (inl (tag, p, id, is_tag, v, range, e, st)) = inl (tag, p, id, is_tag, v, range, e, ap (behind earlier front) st)
  field_behind s t f (inr (inl (tag, l, b, is_tag, v, e, st))) =
      inr (inl (tag, l, b, is_tag, v, e, ap (behind earlier front) st ∙ ap (said (or_earlier earlier s.type_id)) (sym (append_assoc front s.message b))))
  field_behind s t f (inr (inr (n, w, other, field, st))) = inr (inr (n, w, other, field, ap (behind earlier front) st))

  fields_behind : (ps : List (List ℕ)) (s t : Said) → ParsesEach (IsItemField d) s ps t → ParsesEach (IsItemField d) (behind earlier front s) ps (behind earlier front t)
  fields_behind [] s t h = ap (behind earlier front) h
  fields_behind (p ∷ ps) s t h = (behind earlier front h.0, field_behind s h.0 p h.1, fields_behind ps h.0 t h.2)

joined : (f b end : List ℕ) (ps : List (List ℕ)) → b ≡ join ps ++ end → f ++ b ≡ join (f ∷ ps) ++ end
joined f b end ps e = ap (λ x. f ++ x) e ∙ sym (append_assoc f (join ps) end)

-- a field in front of an Item, which says the earlier type id and message bytes
field_first : (d : ℕ) (earlier : Option ℕ) (front f b msg : List ℕ) (id : ℕ) → IsItemField d unsaid f (behind earlier front unsaid) → Item d b id msg → Item d (f ++ b) id (front ++ msg)
field_first d earlier front f b msg id h (end, is_end, (ps, cut, each)) =
    (end, is_end, (f ∷ ps, joined f b end ps cut, (behind earlier front unsaid, h, fields_behind d earlier front ps unsaid (says id msg) each)))

pub least_item : (d n : ℕ) (tag p end : List ℕ) → IsTag tag 2 Varint → IsVarint p n → IsTypeId n → IsTag end 1 EndGroup → Item d (tag ++ (p ++ end)) n []
least_item d n tag p end is_tag v range is_end =
    (end, is_end, ((tag ++ p) ∷ [], sym (append_assoc tag p end) ∙ joined (tag ++ p) end end [] refl, (says n [], inl (tag, p, n, is_tag, v, range, refl, refl), refl)))

pub earlier_id : (d n id : ℕ) (tag p b msg : List ℕ) → IsTag tag 2 Varint → IsVarint p n → IsTypeId n → Item d b id msg → Item d (tag ++ (p ++ b)) id msg
earlier_id d n id tag p b msg is_tag v range h =
    subst (λ x. Item d x id msg) (append_assoc tag p b) (field_first d (Some n) [] (tag ++ p) b msg id (inl (tag, p, n, is_tag, v, range, refl, refl)) h)

pub message_first : (d id : ℕ) (tag l m b msg : List ℕ) → IsTag tag 3 LengthDelimited → IsVarint l (length m) → Item d b id msg → Item d (tag ++ (l ++ (m ++ b))) id (m ++ msg)
message_first d id tag l m b msg is_tag v h =
    subst (λ x. Item d x id (m ++ msg)) (append_assoc tag (l ++ m) b ∙ ap (λ x. tag ++ x) (append_assoc l m b))
    (field_first d None m (tag ++ (l ++ m)) b msg id (inr (inl (tag, l, m, is_tag, v, refl, ap (said None) (append-nil m)))) h)

pub other_first : (d id n : ℕ) (w : WireType) (f b msg : List ℕ) → Field d n w f → IsOther n w → Item d b id msg → Item d (f ++ b) id msg
other_first d id n w f b msg field other h = field_first d None [] f b msg id (inr (inr (n, w, other, field, refl))) h

-- ---- faults

-- the fault of the first field
front_fault : (d : ℕ) (bs : List ℕ) (e : DecodeError) → ItemFieldFault d bs e ⊎ EndFault unsaid bs e → ItemFault d bs e
front_fault d bs e h = (unsaid, bs, ([], refl, refl), h)

pub no_tag : (d : ℕ) (bs : List ℕ) (e : DecodeError) → TagFault bs e → ItemFault d bs e
no_tag d bs e h = front_fault d bs e (inl (inl h))

pub no_type_id : (d : ℕ) (end rest : List ℕ) → IsTag end 1 EndGroup → ItemFault d (end ++ rest) (InvalidMessageSet MissingTypeId)
no_type_id d end rest tag = front_fault d (end ++ rest) _ (inr (rest, (end, tag, refl), refl, refl))

pub out_of_range : (d n : ℕ) (tag p rest : List ℕ) → IsTag tag 2 Varint → IsVarint p n → IsOutOfRange n → ItemFault d (tag ++ (p ++ rest)) (InvalidMessageSet TypeIdOutOfRange)
out_of_range d n tag p rest is_tag v out = front_fault d _ _ (inl (inr (inl (p ++ rest, (tag, is_tag, refl), inr (n, rest, (p, v, refl), out, refl)))))

pub no_varint : (d : ℕ) (tag bs : List ℕ) (e : DecodeError) → IsTag tag 2 Varint → VarintFault bs e → ItemFault d (tag ++ bs) e
no_varint d tag bs e is_tag h = front_fault d _ e (inl (inr (inl (bs, (tag, is_tag, refl), inl h))))

pub no_bytes : (d : ℕ) (tag bs : List ℕ) (e : DecodeError) → IsTag tag 3 LengthDelimited → LengthFault bs e → ItemFault d (tag ++ bs) e
no_bytes d tag bs e is_tag h = front_fault d _ e (inl (inr (inr (inl (bs, (tag, is_tag, refl), h)))))

pub no_payload : (d n : ℕ) (w : WireType) (tag bs : List ℕ) (e : DecodeError) → IsTag tag n w → (n ≡ 2 → w ≢ Varint) → (n ≡ 3 → w ≢ LengthDelimited) → (n ≡ 1 → w ≢ EndGroup) → PayloadFault d n w bs e → ItemFault d (tag ++ bs) e
no_payload d n w tag bs e is_tag two three one h = front_fault d _ e (inl (inr (inr (inr (n, w, bs, (two, three, one), (tag, is_tag, refl), h)))))

module _ (d : ℕ) (earlier : Option ℕ) (front f b : List ℕ) (e : DecodeError) where
  -- a fault behind a field that says the earlier type id and message bytes, where the fault of the end is one behind it too
  fault_behind : IsItemField d unsaid f (behind earlier front unsaid) → ((s : Said) (rest : List ℕ) → EndFault s rest e → EndFault (behind earlier front s) rest e) → ItemFault d b e → ItemFault d (f ++ b) e
  fault_behind h end (s, rest, (ps, cut, each), fault) =
      (behind earlier front s, rest, (f ∷ ps, joined f b rest ps cut, (behind earlier front unsaid, h, fields_behind d earlier front ps unsaid s each)), at fault)
    where
      at : ItemFieldFault d rest e ⊎ EndFault s rest e → ItemFieldFault d rest e ⊎ EndFault (behind earlier front s) rest e
      at (inl x) = inl x
      at (inr x) = inr (end s rest x)

-- where the field says no type id, none is said behind it either
still_none : (front : List ℕ) (e : DecodeError) (s : Said) (rest : List ℕ) → EndFault s rest e → EndFault (behind None front s) rest e
still_none front e s rest (more, tag, none, is) = (more, tag, ap (or_earlier None) none, is)

pub behind_id : (d n : ℕ) (tag p b : List ℕ) (e : DecodeError) → IsTag tag 2 Varint → IsVarint p n → IsTypeId n → e ≢ InvalidMessageSet MissingTypeId → ItemFault d b e → ItemFault d (tag ++ (p ++ b)) e
behind_id d n tag p b e is_tag v range other h =
    subst (λ x. ItemFault d x e) (append_assoc tag p b)
    (fault_behind d (Some n) [] (tag ++ p) b e (inl (tag, p, n, is_tag, v, range, refl, refl)) (λ s rest x. absurd (other x.3)) h)

pub behind_message : (d : ℕ) (tag l m b : List ℕ) (e : DecodeError) → IsTag tag 3 LengthDelimited → IsVarint l (length m) → ItemFault d b e → ItemFault d (tag ++ (l ++ (m ++ b))) e
behind_message d tag l m b e is_tag v h =
    subst (λ x. ItemFault d x e) (append_assoc tag (l ++ m) b ∙ ap (λ x. tag ++ x) (append_assoc l m b))
    (fault_behind d None m (tag ++ (l ++ m)) b e (inr (inl (tag, l, m, is_tag, v, refl, ap (said None) (append-nil m)))) (still_none m e) h)

pub behind_other : (d n : ℕ) (w : WireType) (f b : List ℕ) (e : DecodeError) → Field d n w f → (n ≡ 2 → w ≢ Varint) → (n ≡ 3 → w ≢ LengthDelimited) → (n ≡ 1 → w ≢ EndGroup) → ItemFault d b e → ItemFault d (f ++ b) e
behind_other d n w f b e field two three one h = fault_behind d None [] f b e (inr (inr (n, w, (two, three, one), field, refl))) (still_none [] e) h

-- ---- where memory is asked for

-- a field behind others
one_more : (d : ℕ) (ps : List (List ℕ)) (s t u : Said) (f : List ℕ) → ParsesEach (IsItemField d) s ps t → IsItemField d t f u → ParsesEach (IsItemField d) s (ps ++ f ∷ []) u
one_more d [] s t u f h k = (u, subst (λ z. IsItemField d z f u) (sym h) k, refl)
one_more d (p ∷ ps) s t u f h k = (h.0, h.1, one_more d ps h.0 t u f h.2 k)

joined_behind : (ps : List (List ℕ)) (f rest : List ℕ) → join ps ++ (f ++ rest) ≡ join (ps ++ f ∷ []) ++ rest
joined_behind [] f rest = ap (λ z. z ++ rest) (sym (append-nil f))
joined_behind (p ∷ ps) f rest = append_assoc p (join ps) (f ++ rest) ∙ ap (λ z. p ++ z) (joined_behind ps f rest) ∙ sym (append_assoc p (join (ps ++ f ∷ [])) rest)

-- fields, a type id and an end tag are an Item
begins_item : (d : ℕ) (ps : List (List ℕ)) (s : Said) → ParsesEach (IsItemField d) unsaid ps s → (n : ℕ) (id p end : List ℕ) → IsTag id 2 Varint → IsVarint p n → IsTypeId n → IsTag end 1 EndGroup →
    (msg : List ℕ) × Item d (join ps ++ (id ++ (p ++ end))) n msg
begins_item d ps s each n id p end is_id v range is_end = (
  s.message,
  (
    end,
    is_end,
    (
      ps ++ (id ++ p) ∷ [],
      ap (λ z. join ps ++ z) (sym (append_assoc id p end)) ∙ joined_behind ps (id ++ p) end,
      one_more d ps unsaid s (says n s.message) (id ++ p) each (inl (id, p, n, is_id, v, range, refl, refl)),
    ),
  ),
)

pub message_there : (d : ℕ) (bs : List ℕ) → HasMessage d bs → (front : List ℕ) × (tag : List ℕ) × (l : List ℕ) × (b : List ℕ) × (rest : List ℕ)
    × (bs ≡ front ++ (tag ++ (l ++ (b ++ rest)))) × Join (SomeField d) front × IsTag tag 3 LengthDelimited × IsVarint l (length b) × (b ≢ [])
    × ((n : ℕ) (id p end : List ℕ) → IsTag id 2 Varint → IsVarint p n → IsTypeId n → IsTag end 1 EndGroup → (msg : List ℕ) × Item d (front ++ (id ++ (p ++ end))) n msg)
message_there d bs (s, field, payload, b, rest, (ps, cut, each), (tag, is_tag, split), (l, v, is), some) =
    (join ps, tag, l, b, rest, cut ∙ ap (λ x. join ps ++ x) (split ∙ ap (λ x. tag ++ x) is), item_fields d ps unsaid s each, is_tag, v, some, begins_item d ps s each)

read_by : (d n : ℕ) (bs : List ℕ) (b : Bool) → (n == 0) ≡ b → 0 < n → (if b then Err UnknownFieldLimitExceeded else item_at d bs) ≡ item_at d bs
read_by d n bs true e h = absurd (omega (arith, h, eqb-true n 0 e))
read_by d n bs false e h = refl

pub read_where_left : (d n : ℕ) (bs : List ℕ) → 0 < n → item_in d n bs ≡ item_at d bs
read_where_left d n bs h = read_by d n bs (n == 0) refl h
