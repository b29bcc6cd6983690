-- The last record that is read.
use Rattle.std.proofs.Common.{◌≡◌, ◌≢◌, ℕ, ◌+◌, ◌-◌, ◌<◌, ◌≤◌, List, [], ◌∷◌, ◌++◌, Option, Some, None, Result, Ok, Err, sym, ◌∙◌, ap, take, drop, length, get_or, arith}
use Rattle.std.specs.Result.{OnErr}
use Rattle.std.specs.List.{filter_map, last_or, cons_option}
use Rattle.std.proofs.lemmas.List.{drop_more}
use Rattle.std.proofs.lemmas.List.Elements.{filter_map-append}
use Rattle.buffa_wire.specs.Records.{FieldData}
use Rattle.buffa_wire.specs.RecordsOfValues.{record_of, records_in, field_data_of}
use Rattle.buffa_wire.specs.declared.unknown_fields.UnknownField.{UnknownField}
use Rattle.buffa_codec.specs.RecordsOfNumber.{sub}
use Rattle.buffa_codec.specs.Decoded.{HasLast, last_read}
use Rattle.buffa_codec.proofs.FilteredLemmas.{last_or-append, sub-append}
use Rattle.buffa_codec.proofs.TurnLemmas.{sub-cut, sub-one_same, sub-one_other}

step_down : (i : ℕ) → 0 < i → (i - 1) + 1 ≡ i
step_down i h = omega arith

pub below : (i n : ℕ) → 0 < i → i ≤ n → i - 1 < n
below i n h k = omega arith

-- one field more from behind
pub sub-drop_less : (n : ℕ) (xs : List UnknownField) (i : ℕ) (x : UnknownField) → 0 < i → i ≤ length xs → x ≡ get_or xs (i - 1) x → sub n (records_in (drop (i - 1) xs)) ≡ sub n (record_of x ∷ []) ++ sub n (records_in (drop i xs))
sub-drop_less n xs i x pos le e =
    ap (λ l. sub n (records_in l)) (drop_more xs (i - 1) x (below i (length xs) pos le) ∙ ap (λ y. y ∷ drop ((i - 1) + 1) xs) (sym e) ∙ ap (λ k. x ∷ drop k xs) (step_down i pos))
    ∙ sub-append n (record_of x ∷ []) (records_in (drop i xs))

pub none_at_other : {M : Type 0} (one : FieldData → Option M) (n : ℕ) (xs : List UnknownField) (i : ℕ) (x : UnknownField) → 0 < i → i ≤ length xs → x ≡ get_or xs (i - 1) x → x.number ≢ n
    → filter_map one (sub n (records_in (drop i xs))) ≡ [] → filter_map one (sub n (records_in (drop (i - 1) xs))) ≡ []
none_at_other one n xs i x pos le e other h =
    ap (filter_map one) (sub-drop_less n xs i x pos le e ∙ ap (λ l. l ++ sub n (records_in (drop i xs))) (sub-one_other n x other)) ∙ h

pub none_at_unread : {M : Type 0} (one : FieldData → Option M) (n : ℕ) (xs : List UnknownField) (i : ℕ) (x : UnknownField) → 0 < i → i ≤ length xs → x ≡ get_or xs (i - 1) x → x.number ≡ n
    → one (field_data_of x.payload) ≡ None
    → filter_map one (sub n (records_in (drop i xs))) ≡ [] → filter_map one (sub n (records_in (drop (i - 1) xs))) ≡ []
none_at_unread one n xs i x pos le e same none h =
    ap (filter_map one) (sub-drop_less n xs i x pos le e ∙ ap (λ l. l ++ sub n (records_in (drop i xs))) (sub-one_same n x same))
    ∙ ap (λ o. cons_option o (filter_map one (sub n (records_in (drop i xs))))) none ∙ h

-- the records of one number, cut at one of them
last_cut : (n : ℕ) (xs : List UnknownField) (i : ℕ) (x : UnknownField) → 0 < i → i ≤ length xs → x ≡ get_or xs (i - 1) x → x.number ≡ n
    → sub n (records_in xs) ≡ sub n (records_in (take (i - 1) xs)) ++ (field_data_of x.payload ∷ sub n (records_in (drop i xs)))
last_cut n xs i x pos le e same =
    sub-cut n xs (i - 1) x (below i (length xs) pos le) e same
    ∙ ap (λ k. sub n (records_in (take (i - 1) xs)) ++ (field_data_of x.payload ∷ sub n (records_in (drop k xs)))) (step_down i pos)

-- such a record, and none behind it that is read
pub last_there : {M T E : Type 0} (r : Result T E) (P : FieldData → Type 0) (one : FieldData → Option M) (n : ℕ) (xs : List UnknownField) (i : ℕ) (x : UnknownField) (rs : List (ℕ × FieldData)) → 0 < i → i ≤ length xs → x ≡ get_or xs (i - 1) x → x.number ≡ n
    → records_in xs ≡ rs → filter_map one (sub n (records_in (drop i xs))) ≡ [] → P (field_data_of x.payload) → OnErr r (HasLast P one (sub n rs))
last_there (Ok u) P one n xs i x rs pos le e same whole none p = tt
last_there (Err u) P one n xs i x rs pos le e same whole none p =
    (sub n (records_in (take (i - 1) xs)), field_data_of x.payload, sub n (records_in (drop i xs)), p, none, ap (sub n) (sym whole) ∙ last_cut n xs i x pos le e same)

pub found_last : {M : Type 0} (one : FieldData → Option M) (n : ℕ) (xs : List UnknownField) (i : ℕ) (x : UnknownField) (v : M) → 0 < i → i ≤ length xs → x ≡ get_or xs (i - 1) x → x.number ≡ n
    → Some v ≡ one (field_data_of x.payload)
    → filter_map one (sub n (records_in (drop i xs))) ≡ [] → Some v ≡ last_read one (sub n (records_in xs))
found_last one n xs i x v pos le e same some h =
    let front = sub n (records_in (take (i - 1) xs)) in
    let d = field_data_of x.payload in
    let cut = last_cut n xs i x pos le e same in
    sym (ap (last_read one) cut
    ∙ ap (last_or None) (filter_map-append one front (d ∷ sub n (records_in (drop i xs)))
    ∙ ap (λ o. filter_map one front ++ cons_option o (filter_map one (sub n (records_in (drop i xs))))) (sym some)
    ∙ ap (λ l. filter_map one front ++ v ∷ l) h)
    ∙ last_or-append None (filter_map one front) (v ∷ []))
