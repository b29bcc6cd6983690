-- What is proved of encodings that read back, field by field.
use Rattle.std.proofs.Common.{◌≡◌, ℕ, ◌==◌, Bool, true, List, [], ◌∷◌, ◌++◌, map, Some, refl, sym, ap, subst, ◌∙◌}
use Rattle.std.specs.List.{AllByRecursion}
use Rattle.std.proofs.lemmas.Bool.{eq-eqb}
use Rattle.buffa_bytes.proofs.FieldLemmas.{is_tag}
use Rattle.buffa_bytes.specs.Field.{Payload}
use Rattle.buffa_bytes.specs.Number.{IsNumber}
use Rattle.buffa_bytes.specs.Values.{tag_encoding}
use Rattle.buffa_bytes.specs.declared.wire_type.WireType.{WireType}
use Rattle.buffa_wire.specs.Takes.{Leads, Piece, ReadsBack, Taker, joined_fields}

-- no fields
pub no_pieces : {X : Type 0} (takes : Taker X) (P : ℕ → Bool) (d : ℕ) (v : X) → ReadsBack takes P d v [] v
no_pieces takes P d v = record { pieces = []; spelled = refl; leads = refl }

-- the field of a payload
abbrev pub piece : ℕ → WireType → List ℕ → Piece
piece n wire payload = record { tag = tag_encoding n wire; number = n; wire = wire; payload = payload }

-- one field, whose payload is taken
pub one_back : {X : Type 0} (takes : Taker X) (n : ℕ) (number : IsNumber n) (wire : WireType) (payload : List ℕ) (d : ℕ) (old new : X) (encoding : List ℕ) → encoding ≡ (tag_encoding n wire ++ payload) ++ [] →
    Payload d n wire payload → takes d old n wire payload ≡ Some new → ReadsBack takes (λ m. m == n) d old encoding new
one_back takes n number wire payload d old new encoding is whole taken = record {
  pieces = piece n wire payload ∷ [];
  spelled = is;
  leads = (eq-eqb n n refl, is_tag n wire number, whole, new, taken, refl);
}

-- the fields of values
abbrev pub pieces_of : {V : Type 0} → ℕ → WireType → (V → List ℕ) → List V → List Piece
pieces_of n wire payload vs = map (λ v. piece n wire (payload v)) vs

-- a field for each value, one after the other: put is what values make of what stood, and set what holds it
module _ {S A V : Type 0} (takes : Taker A) (P : ℕ → Bool) (n : ℕ) (has : P n ≡ true) (number : IsNumber n) (wire : WireType) (payload : V → List ℕ) (d : ℕ) (Good : V → Type 0) (set : S → A)
    (put : S → List V → S) (still : (old : S) → put old [] ≡ old) (further : (old : S) (v : V) (vs : List V) → put (put old (v ∷ [])) vs ≡ put old (v ∷ vs))
    (one : (old : S) (v : V) → Good v → Payload d n wire (payload v) × (takes d (set old) n wire (payload v) ≡ Some (set (put old (v ∷ []))))) where
  pub all_lead : (old : S) (vs : List V) → AllByRecursion Good vs → Leads takes P d (set old) (pieces_of n wire payload vs) (set (put old vs))
  all_lead old [] good = ap set (sym (still old))
  all_lead old (v ∷ vs) good =
      let first = one old v good.0 in
      let now = put old (v ∷ []) in
      (has, is_tag n wire number, first.0, set now, first.1, subst (λ z. Leads takes P d (set now) (pieces_of n wire payload vs) (set z)) (further old v vs) (all_lead now vs good.1))

-- they are the encoding
module _ {A V : Type 0} (takes : Taker A) (n : ℕ) (number : IsNumber n) (wire : WireType) (payload : V → List ℕ) (d : ℕ) (Good : V → Type 0)
    (encoding : List V → List ℕ) (empty : encoding [] ≡ []) (next : (v : V) (vs : List V) → encoding (v ∷ vs) ≡ (tag_encoding n wire ++ payload v) ++ encoding vs)
    (put : A → List V → A) (still : (old : A) → put old [] ≡ old) (further : (old : A) (v : V) (vs : List V) → put (put old (v ∷ [])) vs ≡ put old (v ∷ vs))
    (one : (old : A) (v : V) → Good v → Payload d n wire (payload v) × (takes d old n wire (payload v) ≡ Some (put old (v ∷ [])))) where
  spelled_all : (vs : List V) → encoding vs ≡ joined_fields (pieces_of n wire payload vs)
  spelled_all [] = empty
  spelled_all (v ∷ vs) = next v vs ∙ ap (λ (z : List ℕ). (tag_encoding n wire ++ payload v) ++ z) (spelled_all vs)

  pub all_back : (old : A) (vs : List V) → AllByRecursion Good vs → ReadsBack takes (λ m. m == n) d old (encoding vs) (put old vs)
  all_back old vs good = record {
    pieces = pieces_of n wire payload vs;
    spelled = spelled_all vs;
    leads = all_lead takes (λ m. m == n) n (eq-eqb n n refl) number wire payload d Good (λ s. s) put still further one old vs good;
  }
