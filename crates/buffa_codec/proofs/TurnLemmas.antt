-- One turn of a loop over the records.
use Rattle.std.proofs.Common.{◌≡◌, ◌≢◌, ℕ, ◌+◌, ◌<◌, List, [], ◌∷◌, ◌++◌, Option, cond, refl, sym, ◌∙◌, ap, map, take, drop, length, get_or, arith, append_assoc, subst, Result, Ok, Err}
use Rattle.std.proofs.lemmas.Bool.{eq-eqb, ne_eqb}
use Rattle.std.proofs.lemmas.List.{length-map, map-append, append-nil, take-map}
use Rattle.std.specs.Result.{OnErr}
use Rattle.buffa_wire.specs.Records.{FieldData}
use Rattle.buffa_wire.specs.RecordsOfValues.{record_of, records_in, field_data_of}
use Rattle.buffa_wire.specs.BudgetLeft.{BudgetLeft}
use Rattle.buffa_wire.specs.declared.unknown_fields.UnknownField.{UnknownField}
use Rattle.buffa_codec.specs.RecordsOfNumber.{sub, tagged}
use Rattle.buffa_codec.specs.Decoded.{AddsSome, ReadsAll, elements}
use Rattle.buffa_codec.proofs.FilteredLemmas.{sub-append, sub-cons}
use Rattle.buffa_bytes.proofs.ListLemmas.{means_cut, means_more}
use Rattle.buffa_codec.proofs.ListLemmas.{some_there}

-- one more record is read
pub ReadsAll-snoc : {M : Type 0} (one : BudgetLeft → FieldData → Option M) (leaves : BudgetLeft → FieldData → BudgetLeft → Type 0) (packed : List ℕ → List M) (ds : List FieldData) (d : FieldData) (b : BudgetLeft) (vs : List M) (mid left : BudgetLeft)
    → ReadsAll one leaves packed b ds vs mid → leaves mid d left → ReadsAll one leaves packed b (ds ++ d ∷ []) (vs ++ elements packed d (one mid d)) left
ReadsAll-snoc one leaves packed [] d b vs mid left h s =
    (left, [], subst (λ m. leaves m d left) h.1 s, (refl, refl), ap (λ l. l ++ elements packed d (one mid d)) h.0 ∙ ap (λ m. elements packed d (one m d)) h.1 ∙ sym (append-nil (elements packed d (one b d))))
ReadsAll-snoc one leaves packed (e ∷ ds) d b vs mid left h s =
    (h.0, h.1 ++ elements packed d (one mid d), h.2, ReadsAll-snoc one leaves packed ds d h.0 h.1 mid left h.3 s, ap (λ l. l ++ elements packed d (one mid d)) h.4 ∙ append_assoc (elements packed e (one b e)) h.1 (elements packed d (one mid d)))

-- the records of one number, with one more field
pub sub-take_more : (n : ℕ) (xs : List UnknownField) (i : ℕ) (x : UnknownField) → i < length xs → x ≡ get_or xs i x → sub n (records_in (take (i + 1) xs)) ≡ sub n (records_in (take i xs)) ++ sub n (record_of x ∷ [])
sub-take_more n xs i x lt e = ap (sub n) (means_more record_of xs i x lt e) ∙ sub-append n (records_in (take i xs)) (record_of x ∷ [])

pub sub-one_same : (n : ℕ) (x : UnknownField) → x.number ≡ n → sub n (record_of x ∷ []) ≡ field_data_of x.payload ∷ []
sub-one_same n x same =
    sub-cons n _ []
    ∙ ap (λ b. cond b (field_data_of x.payload ∷ []) []) (eq-eqb _ n same)

pub sub-one_other : (n : ℕ) (x : UnknownField) → x.number ≢ n → sub n (record_of x ∷ []) ≡ []
sub-one_other n x other =
    sub-cons n _ []
    ∙ ap (λ b. cond b (field_data_of x.payload ∷ []) []) (ne_eqb _ n other)

pub sub-take_same : (n : ℕ) (xs : List UnknownField) (i : ℕ) (x : UnknownField) → i < length xs → x ≡ get_or xs i x → x.number ≡ n
    → sub n (records_in (take (i + 1) xs)) ≡ sub n (records_in (take i xs)) ++ field_data_of x.payload ∷ []
sub-take_same n xs i x lt e same = sub-take_more n xs i x lt e ∙ ap (λ l. sub n (records_in (take i xs)) ++ l) (sub-one_same n x same)

pub sub-take_other : (n : ℕ) (xs : List UnknownField) (i : ℕ) (x : UnknownField) → i < length xs → x ≡ get_or xs i x → x.number ≢ n
    → sub n (records_in (take (i + 1) xs)) ≡ sub n (records_in (take i xs))
sub-take_other n xs i x lt e other = sub-take_more n xs i x lt e ∙ ap (λ l. sub n (records_in (take i xs)) ++ l) (sub-one_other n x other) ∙ append-nil (sub n (records_in (take i xs)))

-- those of all fields, cut at one
pub sub-cut : (n : ℕ) (xs : List UnknownField) (i : ℕ) (x : UnknownField) → i < length xs → x ≡ get_or xs i x → x.number ≡ n
    → sub n (records_in xs) ≡ sub n (records_in (take i xs)) ++ field_data_of x.payload ∷ sub n (records_in (drop (i + 1) xs))
sub-cut n xs i x lt e same =
    let back = records_in (drop (i + 1) xs) in
    ap (sub n) (means_cut record_of xs i x lt e) ∙ sub-append n (records_in (take i xs)) (record_of x ∷ back)
    ∙ ap (λ l. sub n (records_in (take i xs)) ++ l) (sub-append n (record_of x ∷ []) back ∙ ap (λ l. l ++ sub n back) (sub-one_same n x same))

-- a turn at a record of the number
pub reads_one_more : {M : Type 0} (one : BudgetLeft → FieldData → Option M) (leaves : BudgetLeft → FieldData → BudgetLeft → Type 0) (packed : List ℕ → List M) (b : BudgetLeft) (n : ℕ) (xs : List UnknownField) (i : ℕ) (x : UnknownField) (vs vs' : List M) (mid left : BudgetLeft)
    → i < length xs → x ≡ get_or xs i x → x.number ≡ n
    → ReadsAll one leaves packed b (sub n (records_in (take i xs))) vs mid → leaves mid (field_data_of x.payload) left
    → vs' ≡ vs ++ elements packed (field_data_of x.payload) (one mid (field_data_of x.payload))
    → ReadsAll one leaves packed b (sub n (records_in (take (i + 1) xs))) vs' left
reads_one_more one leaves packed b n xs i x vs vs' mid left lt e same h s more =
    subst (λ ds. ReadsAll one leaves packed b ds vs' left) (sym (sub-take_same n xs i x lt e same))
    (subst (λ l. ReadsAll one leaves packed b (sub n (records_in (take i xs)) ++ field_data_of x.payload ∷ []) l left) (sym more)
    (ReadsAll-snoc one leaves packed (sub n (records_in (take i xs))) (field_data_of x.payload) b vs mid left h s))

-- a turn at another record
pub passes_one_over : {M : Type 0} (one : BudgetLeft → FieldData → Option M) (leaves : BudgetLeft → FieldData → BudgetLeft → Type 0) (packed : List ℕ → List M) (b : BudgetLeft) (n : ℕ) (xs : List UnknownField) (i : ℕ) (x : UnknownField) (vs vs' : List M) (left left' : BudgetLeft)
    → i < length xs → x ≡ get_or xs i x → x.number ≢ n → vs' ≡ vs → left' ≡ left
    → ReadsAll one leaves packed b (sub n (records_in (take i xs))) vs left
    → ReadsAll one leaves packed b (sub n (records_in (take (i + 1) xs))) vs' left'
passes_one_over one leaves packed b n xs i x vs vs' left left' lt e other ev el h =
    subst (λ ds. ReadsAll one leaves packed b ds vs' left') (sym (sub-take_other n xs i x lt e other))
    (subst (λ l. ReadsAll one leaves packed b (sub n (records_in (take i xs))) l left') (sym ev) (subst (λ m. ReadsAll one leaves packed b (sub n (records_in (take i xs))) vs m) (sym el) h))

-- one more record is written
pub writes_one_more : {V M : Type 0} (encoding : M → FieldData) (meaning : V → M) (n : ℕ) (vs : List V) (i : ℕ) (v : V) (d : FieldData) (start now next : List (ℕ × FieldData)) (r : ℕ × FieldData)
    → i < length vs → v ≡ get_or vs i v → d ≡ encoding (meaning v) → r ≡ (n, d)
    → now ≡ start ++ tagged n (map encoding (map meaning (take i vs))) → next ≡ now ++ r ∷ []
    → next ≡ start ++ tagged n (map encoding (map meaning (take (i + 1) vs)))
writes_one_more encoding meaning n vs i v d start now next r lt e written made before grown =
    grown ∙ ap (λ l. l ++ r ∷ []) before ∙ append_assoc start (tagged n (map encoding (map meaning (take i vs)))) (r ∷ [])
    ∙ ap (λ l. start ++ l) (ap (λ q. tagged n (map encoding (map meaning (take i vs))) ++ q ∷ []) (made ∙ ap (λ x. (n, x)) written)
    ∙ sym (ap (λ l. tagged n (map encoding l)) (means_more meaning vs i v lt e)
    ∙ ap (tagged n) (map-append encoding (map meaning (take i vs)) (meaning v ∷ [])) ∙ map-append (λ x. (n, x)) (map encoding (map meaning (take i vs))) (encoding (meaning v) ∷ [])))

-- how many records a list has
pub values_length : {V M : Type 0} (encoding : M → FieldData) (meaning : V → M) (vs : List V) → length (map encoding (map meaning vs)) ≡ length vs
values_length encoding meaning vs = length-map (map meaning vs) encoding ∙ length-map vs meaning

records_length : {V M : Type 0} (encoding : M → FieldData) (meaning : V → M) (n : ℕ) (vs : List V) → length (tagged n (map encoding (map meaning vs))) ≡ length vs
records_length encoding meaning n vs = length-map (map encoding (map meaning vs)) (λ x. (n, x)) ∙ values_length encoding meaning vs

-- what was written of a list is a front of what it writes, and not all
pub writes_part : {V M : Type 0} (encoding : M → FieldData) (meaning : V → M) (n : ℕ) (vs ws : List V) (i : ℕ) (start now : List (ℕ × FieldData)) → ws ≡ vs → i < length ws
    → now ≡ start ++ tagged n (map encoding (map meaning (take i ws))) → AddsSome start (tagged n (map encoding (map meaning vs))) now
writes_part encoding meaning n vs ws i start now same lt e = (
  i,
  omega (arith, lt, ap length same, records_length encoding meaning n vs),
  e ∙ ap (λ l. start ++ l) (ap (λ l. tagged n (map encoding (map meaning (take i l)))) same
      ∙ ap (λ l. tagged n (map encoding l)) (sym (take-map meaning i vs)) ∙ ap (tagged n) (sym (take-map encoding i (map meaning vs))) ∙ sym (take-map (λ x. (n, x)) i (map encoding (map meaning vs)))),
)

pub writes_front : {V M T E : Type 0} (r : Result T E) (encoding : M → FieldData) (meaning : V → M) (n : ℕ) (vs ws : List V) (i : ℕ) (start now : List (ℕ × FieldData)) → ws ≡ vs → i < length ws
    → now ≡ start ++ tagged n (map encoding (map meaning (take i ws))) → OnErr r (AddsSome start (tagged n (map encoding (map meaning vs))) now)
writes_front (Ok u) encoding meaning n vs ws i start now same lt e = tt
writes_front (Err u) encoding meaning n vs ws i start now same lt e = writes_part encoding meaning n vs ws i start now same lt e

-- nothing was written
pub writes_none : {T E : Type 0} (r : Result T E) (start ds : List (ℕ × FieldData)) → 0 < length ds → OnErr r (AddsSome start ds start)
writes_none (Ok u) start ds some = tt
writes_none (Err u) start ds some = (0, some, sym (append-nil start))

pub none_so_far : (n : ℕ) (xs : List UnknownField) (i : ℕ) (x : UnknownField) → i < length xs → x ≡ get_or xs i x → x.number ≢ n
    → sub n (records_in (take i xs)) ≡ [] → sub n (records_in (take (i + 1) xs)) ≡ []
none_so_far n xs i x lt e other h = sub-take_other n xs i x lt e other ∙ h

-- a record of the number that stands somewhere
pub one_is_there : (n : ℕ) (xs : List UnknownField) (i : ℕ) (x : UnknownField) → i < length xs → x ≡ get_or xs i x → x.number ≡ n → sub n (records_in xs) ≢ []
one_is_there n xs i x lt e same none =
    some_there (sub n (records_in (take i xs))) (sub n (records_in (drop (i + 1) xs))) (field_data_of x.payload) (sym (sub-cut n xs i x lt e same) ∙ none)
