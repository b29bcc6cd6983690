-- Lists of records whose reading spends nothing.
use Rattle.std.proofs.Common.{◌≡◌, ℕ, List, [], ◌∷◌, ◌++◌, Option, refl, sym, ap, ◌∙◌, subst, append_assoc}
use Rattle.buffa_wire.specs.Records.{FieldData}
use Rattle.buffa_wire.specs.BudgetLeft.{BudgetLeft, defaults}
use Rattle.buffa_codec.specs.Decoded.{ReadsAll, ReadsList, elements}

module _ {M : Type 0} (one : BudgetLeft → FieldData → Option M) (leaves : BudgetLeft → FieldData → BudgetLeft → Type 0) (packed : List ℕ → List M)
    (free : (b left : BudgetLeft) (d : FieldData) → leaves b d left → left ≡ b) where
  splits : (b : BudgetLeft) (s r : List FieldData) (out : List M) (left : BudgetLeft) → ReadsAll one leaves packed b (s ++ r) out left
      → (vs : List M) × (ws : List M) × ReadsAll one leaves packed b s vs b × ReadsAll one leaves packed b r ws left × (out ≡ vs ++ ws)
  splits b [] r out left h = ([], out, (refl, refl), h, refl)
  splits b (d ∷ s) r out left h =
      let same = free b h.0 d h.2 in
      let t = splits b s r h.1 left (subst (λ m. ReadsAll one leaves packed m (s ++ r) h.1 left) same h.3) in
      (elements packed d (one b d) ++ t.0, t.1, (b, t.0, subst (leaves b d) same h.2, t.2, refl), t.3, h.4 ∙ ap (λ l. elements packed d (one b d) ++ l) t.4 ∙ sym (append_assoc (elements packed d (one b d)) t.0 t.1))

  stays : (b : BudgetLeft) (s : List FieldData) (vs : List M) (left : BudgetLeft) → ReadsAll one leaves packed b s vs left → left ≡ b
  stays b [] vs left h = h.1
  stays b (d ∷ s) vs left h = stays h.0 s h.1 left h.3 ∙ free b h.0 d h.2

  joins : (b : BudgetLeft) (s r : List FieldData) (vs ws : List M) (mid left : BudgetLeft) → ReadsAll one leaves packed b s vs mid → ReadsAll one leaves packed mid r ws left → ReadsAll one leaves packed b (s ++ r) (vs ++ ws) left
  joins b [] r vs ws mid left h k = subst (λ l. ReadsAll one leaves packed b r (l ++ ws) left) (sym h.0) (subst (λ m. ReadsAll one leaves packed m r ws left) h.1 k)
  joins b (d ∷ s) r vs ws mid left h k =
      (h.0, h.1 ++ ws, h.2, joins h.0 s r h.1 ws mid left h.3 k, ap (λ l. l ++ ws) h.4 ∙ append_assoc (elements packed d (one b d)) h.1 ws)

  pub list_splits : (s r : List FieldData) (out : List M) → ReadsList one leaves packed (s ++ r) out
      → (vs : List M) × (ws : List M) × ReadsList one leaves packed s vs × ReadsList one leaves packed r ws × (out ≡ vs ++ ws)
  list_splits s r out h = let t = splits defaults s r out h.0 h.1 in (t.0, t.1, (defaults, t.2), (h.0, t.3), t.4)

  pub list_joins : (s r : List FieldData) (out : List M) → (vs : List M) × (ws : List M) × ReadsList one leaves packed s vs × ReadsList one leaves packed r ws × (out ≡ vs ++ ws)
      → ReadsList one leaves packed (s ++ r) out
  list_joins s r out (vs, ws, (a, h), (left, k), e) = (
    left,
    subst (λ o. ReadsAll one leaves packed defaults (s ++ r) o left) (sym e)
        (joins defaults s r vs ws defaults left (subst (ReadsAll one leaves packed defaults s vs) (stays defaults s vs a h) h) k),
  )
