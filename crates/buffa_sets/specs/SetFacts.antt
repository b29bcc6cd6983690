-- What a MessageSet owes as a message.
use Rattle.std.proofs.Common.{◌≡◌, ◌≢◌, ◌⊎◌, inl, inr, ℕ, zero, suc, ◌<◌, ◌≤◌, ◌^◌, max, Bool, true, false, List, [], ◌∷◌, ◌++◌, length, Some, Result, Ok, refl, sym, ap, subst, ◌∙◌, arith, append_assoc, append-nil, if◌then◌else◌}
use Rattle.buffa_bytes.proofs.StepLemmas.{Agrees, agree_bind, agree_if, agree_weaker}
use Rattle.buffa_bytes.proofs.VarintLemmas.{IsVarint-varint_encoding}
use Rattle.buffa_bytes.specs.Field.{Group, IsTag, Payload}
use Rattle.buffa_bytes.specs.declared.wire_type.WireType.{WireType}
use Rattle.buffa_bytes.specs.declared.wire_type.WireType.TheVariants.{StartGroup}
use Rattle.buffa_bytes.specs.declared.error.DecodeError.{DecodeError}
use Rattle.buffa_wire.proofs.MessageLemmas.{NoLimit}
use Rattle.buffa_wire.specs.BudgetLeft.{unknown_fields}
use Rattle.buffa_wire.specs.Parse.{AreValid, Fits}
use Rattle.buffa_wire.specs.Records.{FieldData, Records, bytes, field_data_height, fixed32, fixed64, group, height, one, records_of, varint}
use Rattle.buffa_wire.specs.Encoding.{records_encoding, tagged_encoding}
use Rattle.buffa_bytes.specs.Values.{tag_encoding}
use Rattle.buffa_message_set.specs.Item.{IsReadAlike, IsTypeId, body_encoding, item_at, item_encoding}
use Rattle.buffa_message_set.proofs.ItemLemmas.{both_true, in_range, read_complete, read_sound, written_item}
use Rattle.buffa_message_set.proofs.GroupLemmas.{group_alike, item_group, item_no_limit}
use Rattle.buffa_wire.specs.Takes.{Stays, cost_of, framed, merged_of}
use Rattle.buffa_wire.proofs.TakesLemmas.{cost_by_is, framed_same, framed_sound, merged_by_is}
use Rattle.buffa_wire.proofs.ByFieldLemmas.{IsSame, IsSound, Same, empty, read}
use Rattle.buffa_fields.specs.UndeclaredFields.{keep_takes}
use Rattle.buffa_wire.proofs.KeepLemmas.{keep_stays}
use Rattle.buffa_sets.specs.Set.{AreItems, encoded_record, is_type_id, item_field, item_record, set_record_encoding, set_field, set_levels, set_merged, set_charge, set_cost, set_records, set_encoding, set_takes, starts}

-- ---- one field
item_sound : (d : ℕ) (v : List (ℕ × FieldData)) (bs : List ℕ) → Agrees (item_field d v bs) (λ x. (p : List ℕ) × Payload d 1 StartGroup p × (bs ≡ p ++ x.1)) NoLimit
item_sound zero v bs = record { holds = λ l. l }
item_sound (suc d) v bs = agree_bind (read_sound d bs) (λ x u. record { holds = (u.0, item_group d u.0 x.1 x.0 u.1, u.2) }) (λ e h. item_no_limit d bs e h)

pub payload_as : (d n m : ℕ) (v w : WireType) (p : List ℕ) → n ≡ m → v ≡ w → Payload d m v p → Payload d n w p
payload_as d n m v w p a b h = subst (λ k. Payload d k w p) (sym a) (subst (λ z. Payload d m z p) b h)

pub set_sound : (d : ℕ) → IsSound d (set_field d)
set_sound d v n w bs = agree_if (starts n w)
    (λ e. let is = both_true n 1 StartGroup w e in agree_weaker (item_sound d v bs) (λ x u. (u.0, payload_as d n 1 StartGroup w u.0 is.0 is.1 u.1, u.2)) (λ e h. h))
    (λ e. framed_sound keep_takes d v n w bs)

answered : (d : ℕ) (v : List (ℕ × FieldData)) (p : List ℕ) → IsReadAlike d p → Same (item_field (suc d) v) p
answered d v p (inl (id, msg, k)) = inl (v ++ (id, bytes msg) ∷ [], λ x. rw (k x) refl)
answered d v p (inr (e, k)) = inr (e, λ x. rw (k x) refl)

item_same : (d : ℕ) (v : List (ℕ × FieldData)) (p : List ℕ) → Payload d 1 StartGroup p → Same (item_field d v) p
unfolding Group
item_same zero v p h = absurd h
item_same (suc d) v p h = answered d v p (group_alike d p h)

pick : (f g : List ℕ → Result (List (ℕ × FieldData) × List ℕ) DecodeError) (p : List ℕ) (b : Bool) → (b ≡ true → Same f p) → (b ≡ false → Same g p) → Same (λ bs. if b then f bs else g bs) p
pick f g p true h k = h refl
pick f g p false h k = k refl

pub set_same : (d : ℕ) → IsSame d (set_field d)
set_same d v n w p h = pick (item_field d v) (framed keep_takes d v n w) p (starts n w)
    (λ e. let is = both_true n 1 StartGroup w e in item_same d v p (payload_as d 1 n w StartGroup p (sym is.0) (sym is.1) h))
    (λ e. framed_same keep_takes d v n w p h)

pub set_stays : Stays set_charge
set_stays d n w p x h = ap (λ z. if starts n w then unknown_fields 1 else z) (keep_stays d n w p x h)

pub set_merged_is : (d : ℕ) (v : List (ℕ × FieldData)) (b : List ℕ) → set_merged d v b ≡ merged_of set_takes d v b
set_merged_is d v b = merged_by_is set_field set_sound set_same d v b

pub set_cost_is : (d : ℕ) (b : List ℕ) → set_cost d b ≡ cost_of set_charge d b
set_cost_is d b = cost_by_is set_charge d b

-- ---- the encoding is that of records
item_encoding_record : (n : ℕ) (b : List ℕ) → item_encoding n b ≡ tagged_encoding (item_record n b).0 (item_record n b).1
item_encoding_record n b = simp (append_assoc, append-nil)

bytes_encoding : (k : Bool) (n : ℕ) (b : List ℕ) → (if k then item_encoding n b else tagged_encoding n (bytes b)) ≡
    tagged_encoding (if k then item_record n b else (n, bytes b)).0 (if k then item_record n b else (n, bytes b)).1
bytes_encoding true n b = item_encoding_record n b
bytes_encoding false n b = refl

one_encoding : (n : ℕ) (x : FieldData) → set_record_encoding n x ≡ tagged_encoding (encoded_record n x).0 (encoded_record n x).1
one_encoding n (bytes b) = bytes_encoding (is_type_id n) n b
one_encoding n (varint v) = refl
one_encoding n (fixed32 v) = refl
one_encoding n (fixed64 v) = refl
one_encoding n (group rs) = refl

pub set_encoding_records : (v : List (ℕ × FieldData)) → set_encoding v ≡ records_encoding (set_records v)
set_encoding_records [] = refl
set_encoding_records (r ∷ rs) = λ i. one_encoding r.0 r.1 i ++ set_encoding_records rs i

-- ---- it reads back
encoded_item : (n : ℕ) (b : List ℕ) → IsTypeId n → encoded_record n (bytes b) ≡ item_record n b
encoded_item n b h = rw (in_range n h) refl

encoding_item : (n : ℕ) (b : List ℕ) → IsTypeId n → set_record_encoding n (bytes b) ≡ item_encoding n b
encoding_item n b h = rw (in_range n h) refl

start_tag : IsTag (tag_encoding 1 StartGroup) 1 StartGroup
start_tag = ((omega arith, omega arith), IsVarint-varint_encoding 11 (omega arith))

fit_parts : (n : ℕ) (b : List ℕ) (rs : Records) → Fits (one (item_record n b).0 (item_record n b).1 rs) → (length b < 2 ^ 64) × Fits rs
fit_parts n b rs ((id, (short, end)), more) = (short, more)

-- an Item in front of what follows it
item_back : (d : ℕ) (v : List (ℕ × FieldData)) (n : ℕ) (b rest : List ℕ) → IsTypeId n → length b < 2 ^ 64 → set_merged (suc d) v (item_encoding n b ++ rest) ≡ set_merged (suc d) (v ++ (n, bytes b) ∷ []) rest
item_back d v n b rest h short =
    let reads : item_at d (body_encoding n b ++ rest) ≡ Ok (n, b, rest) = read_complete d (body_encoding n b ++ rest) b rest n (body_encoding n b, written_item d n b h short, refl) in
    let taken : set_field (suc d) v 1 StartGroup (body_encoding n b ++ rest) ≡ Ok (v ++ (n, bytes b) ∷ [], rest) = rw reads refl in
    ap (set_merged (suc d) v) (append_assoc (tag_encoding 1 StartGroup) (body_encoding n b) rest)
    ∙ read (suc d) (set_field (suc d)) (set_sound (suc d)) (set_same (suc d)) v 1 StartGroup (tag_encoding 1 StartGroup) start_tag (v ++ (n, bytes b) ∷ []) (body_encoding n b ++ rest) rest taken

set_parsed : (ys : List (ℕ × FieldData)) (d : ℕ) (v : List (ℕ × FieldData)) → Fits (records_of (set_records ys)) → AreItems ys → set_levels ys ≤ d → set_merged d v (set_encoding ys) ≡ Some (v ++ ys)
set_parsed [] d v f h l = empty d (set_field d) (set_sound d) (set_same d) v ∙ ap (λ z. Some z) (sym (append-nil v))
set_parsed ((n, bytes b) ∷ ys) zero v f h l =
    let deep : max (field_data_height (item_record n b).1) (height (set_records ys)) ≤ 0 = subst (λ r. max (field_data_height r.1) (height (set_records ys)) ≤ 0) (encoded_item n b h.0) l in
    absurd (omega (arith, deep))
set_parsed ((n, bytes b) ∷ ys) (suc d) v f h l =
    let fit = fit_parts n b (records_of (set_records ys)) (subst (λ r. Fits (one r.0 r.1 (records_of (set_records ys)))) (encoded_item n b h.0) f) in
    let deep : max (field_data_height (item_record n b).1) (height (set_records ys)) ≤ suc d = subst (λ r. max (field_data_height r.1) (height (set_records ys)) ≤ suc d) (encoded_item n b h.0) l in
    ap (λ z. set_merged (suc d) v (z ++ set_encoding ys)) (encoding_item n b h.0)
    ∙ item_back d v n b (set_encoding ys) h.0 fit.0
    ∙ set_parsed ys (suc d) (v ++ (n, bytes b) ∷ []) fit.1 h.1 (omega (arith, deep))
    ∙ ap (λ z. Some z) (append_assoc v ((n, bytes b) ∷ []) ys)
set_parsed ((n, varint x) ∷ ys) d v f h l = absurd h.0
set_parsed ((n, fixed32 x) ∷ ys) d v f h l = absurd h.0
set_parsed ((n, fixed64 x) ∷ ys) d v f h l = absurd h.0
set_parsed ((n, group x) ∷ ys) d v f h l = absurd h.0

-- Items are valid records
item_valid : (n : ℕ) (b : List ℕ) (rs : Records) → IsTypeId n → AreValid rs → AreValid (one (item_record n b).0 (item_record n b).1 rs)
item_valid n b rs h k =
    ((omega arith, omega arith), ((omega arith, omega arith), omega (arith, h), ((omega arith, omega arith), tt, tt)), k)

pub set_valid : (v : List (ℕ × FieldData)) → AreItems v → AreValid (records_of (set_records v))
set_valid [] h = tt
set_valid ((n, bytes b) ∷ ys) h =
    subst (λ r. AreValid (one r.0 r.1 (records_of (set_records ys)))) (sym (encoded_item n b h.0)) (item_valid n b (records_of (set_records ys)) h.0 (set_valid ys h.1))
set_valid ((n, varint x) ∷ ys) h = absurd h.0
set_valid ((n, fixed32 x) ∷ ys) h = absurd h.0
set_valid ((n, fixed64 x) ∷ ys) h = absurd h.0
set_valid ((n, group x) ∷ ys) h = absurd h.0

pub set_back : (d : ℕ) (v : List (ℕ × FieldData)) → Fits (records_of (set_records v)) → AreItems v → set_levels v ≤ d → set_merged d [] (set_encoding v) ≡ Some v
set_back d v f h l = set_parsed v d [] f h l

-- ---- how deep Items nest
at_most_one : (v : List (ℕ × FieldData)) → AreItems v → set_levels v ≤ 1
at_most_one [] h = omega arith
at_most_one ((n, bytes b) ∷ ys) h =
    subst (λ r. max (field_data_height r.1) (set_levels ys) ≤ 1) (sym (encoded_item n b h.0)) (omega (arith, at_most_one ys h.1))
at_most_one ((n, varint x) ∷ ys) h = absurd h.0
at_most_one ((n, fixed32 x) ∷ ys) h = absurd h.0
at_most_one ((n, fixed64 x) ∷ ys) h = absurd h.0
at_most_one ((n, group x) ∷ ys) h = absurd h.0

pub nest_one_deep : (v : List (ℕ × FieldData)) → AreItems v → ((v ≡ []) × (set_levels v ≡ 0)) ⊎ ((v ≢ []) × (set_levels v ≡ 1))
nest_one_deep [] h = inl (refl, refl)
nest_one_deep ((n, bytes b) ∷ ys) h =
    let one_deep : max (field_data_height (item_record n b).1) (set_levels ys) ≡ 1 = omega (arith, at_most_one ys h.1) in
    inr (λ e. cc, subst (λ r. max (field_data_height r.1) (set_levels ys) ≡ 1) (sym (encoded_item n b h.0)) one_deep)
nest_one_deep ((n, varint x) ∷ ys) h = absurd h.0
nest_one_deep ((n, fixed32 x) ∷ ys) h = absurd h.0
nest_one_deep ((n, fixed64 x) ∷ ys) h = absurd h.0
nest_one_deep ((n, group x) ∷ ys) h = absurd h.0
