-- Readings by way of others.
use Rattle.std.proofs.Common.{◌≡◌, ℕ, List, [], ◌∷◌, ◌++◌, map, Option, Some, None, option_map, refl, sym, ap, subst, ◌∙◌}
use Rattle.std.specs.List.{filter_map, last_or, cons_option}
use Rattle.std.proofs.lemmas.List.{map-append}
use Rattle.buffa_wire.specs.BudgetLeft.{BudgetLeft, defaults}
use Rattle.buffa_wire.specs.Records.{FieldData, varint, fixed32, fixed64, bytes, group}
use Rattle.buffa_codec.specs.Decoded.{ReadsAll, ReadsList, elements, last_read, packed_record}
use Rattle.buffa_ext_laws.specs.MappedReadings.{ListsThrough, ReadsThrough}
use Rattle.buffa_wire.specs.Encoding.{encodings}

pub option_twice : {A B C : Type 0} (g : A → B) (f : B → C) (o : Option A) → option_map (λ x. f (g x)) o ≡ option_map f (option_map g o)
option_twice g f None = refl
option_twice g f (Some x) = refl

module _ {M N : Type 0} (f : M → N) (one : BudgetLeft → FieldData → Option M) (two : BudgetLeft → FieldData → Option N) (same : (b : BudgetLeft) (d : FieldData) → two b d ≡ option_map f (one b d)) where
  last_by : (b : BudgetLeft) (ds : List FieldData) (o x : Option M)
      → ((p : Option M) → last_or (option_map f p) (filter_map (two b) ds) ≡ option_map f (last_or p (filter_map (one b) ds)))
      → last_or (option_map f o) (cons_option (option_map f x) (filter_map (two b) ds)) ≡ option_map f (last_or o (cons_option x (filter_map (one b) ds)))
  last_by b ds o None again = again o
  last_by b ds o (Some m) again = again (Some m)

  pub last_through : (b : BudgetLeft) (ds : List FieldData) (o : Option M) → last_or (option_map f o) (filter_map (two b) ds) ≡ option_map f (last_or o (filter_map (one b) ds))
  last_through b [] o = refl
  last_through b (d ∷ ds) o =
      ap (λ x. last_or (option_map f o) (cons_option x (filter_map (two b) ds))) (same b d) ∙ last_by b ds o (one b d) (last_through b ds)

  module _ (leaves : BudgetLeft → FieldData → BudgetLeft → Type 0) (packed : List ℕ → List M) (also : List ℕ → List N) (unpacks : (bs : List ℕ) → also bs ≡ map f (packed bs)) where
    elements_by : (d : FieldData) (x : Option M) → elements also d (option_map f x) ≡ map f (elements packed d x)
    elements_by d (Some v) = refl
    elements_by (varint n) None = refl
    elements_by (fixed32 n) None = refl
    elements_by (fixed64 n) None = refl
    elements_by (bytes b) None = unpacks b
    elements_by (group rs) None = refl

    pub list_from : (b : BudgetLeft) (ds : List FieldData) (out : List N) (left : BudgetLeft) → ReadsAll two leaves also b ds out left
        → (ms : List M) × ReadsAll one leaves packed b ds ms left × (out ≡ map f ms)
    list_from b [] out left h = ([], (refl, h.1), h.0)
    list_from b (d ∷ ds) out left h =
        let t = list_from h.0 ds h.1 left h.3 in (
          elements packed d (one b d) ++ t.0,
          (h.0, t.0, h.2, t.1, refl),
          h.4 ∙ ap (λ x. elements also d x ++ h.1) (same b d) ∙ ap (λ l. l ++ h.1) (elements_by d (one b d))
              ∙ ap (λ l. map f (elements packed d (one b d)) ++ l) t.2 ∙ sym (map-append f (elements packed d (one b d)) t.0),
        )

    pub list_to : (b : BudgetLeft) (ds : List FieldData) (ms : List M) (left : BudgetLeft) → ReadsAll one leaves packed b ds ms left → ReadsAll two leaves also b ds (map f ms) left
    list_to b [] ms left h = (ap (map f) h.0, h.1)
    list_to b (d ∷ ds) ms left h = (
      h.0,
      map f h.1,
      h.2,
      list_to h.0 ds h.1 left h.3,
      ap (map f) h.4 ∙ map-append f (elements packed d (one b d)) h.1 ∙ ap (λ l. l ++ map f h.1) (sym (elements_by d (one b d)))
          ∙ ap (λ x. elements also d x ++ map f h.1) (sym (same b d)),
    )

    pub lists_through : ListsThrough f (ReadsList one leaves packed) (ReadsList two leaves also)
    lists_through ds out = (
      λ h. (let t = list_from defaults ds out h.0 h.1 in (t.0, (h.0, t.1), t.2)),
      λ k. (k.1.0, subst (λ l. ReadsAll two leaves also defaults ds l k.1.0) (sym k.2) (list_to defaults ds k.0 k.1.0 k.1.1)),
    )

  pub reads_through : ReadsThrough f (λ ds o. o ≡ last_read (one defaults) ds) (λ ds o. o ≡ last_read (two defaults) ds)
  reads_through ds out = (
    λ h. (last_read (one defaults) ds, refl, h ∙ last_through defaults ds None),
    λ k. k.2 ∙ ap (option_map f) k.1 ∙ sym (last_through defaults ds None),
  )

-- ---- what is written

encodings_through : {V W : Type 0} (f : V → W) (encoding : W → List ℕ) (vs : List V) → encodings (λ v. encoding (f v)) vs ≡ encodings encoding (map f vs)
encodings_through f encoding [] = refl
encodings_through f encoding (v ∷ vs) = ap (λ l. encoding (f v) ++ l) (encodings_through f encoding vs)

pub packed_through : {V W : Type 0} (f : V → W) (encoding : W → List ℕ) (vs : List V) → packed_record (λ v. encoding (f v)) vs ≡ packed_record encoding (map f vs)
packed_through f encoding [] = refl
packed_through f encoding (v ∷ vs) = ap (λ l. bytes l ∷ []) (encodings_through f encoding (v ∷ vs))
