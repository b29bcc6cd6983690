-- What bytes make of kept records that are valid is valid.
use Rattle.std.proofs.Common.{◌≡◌, ℕ, List, [], ◌∷◌, ◌++◌, Option, Some, sym, subst, ◌∙◌}
use Rattle.buffa_bytes.specs.Number.{IsNumber}
use Rattle.buffa_wire.proofs.ValidLemmas.{AreBytes, payload_valid}
use Rattle.buffa_wire.specs.Encoding.{wire_of}
use Rattle.buffa_wire.specs.Parse.{AreValid, IsPayload}
use Rattle.buffa_wire.specs.ReadableFacts.{valid_joined}
use Rattle.buffa_wire.specs.Records.{FieldData, records_of}
use Rattle.buffa_wire.specs.Takes.{merged_of}
use Rattle.buffa_map.proofs.StayLemmas.{all_keep}
use Rattle.buffa_fields.specs.UndeclaredFields.{keep_takes}
use Rattle.buffa_fields.specs.facts.UndeclaredFieldFacts.{kept_record}

one_with_unknowns : (d : ℕ) (v u : List (ℕ × FieldData)) (n : ℕ) (x : FieldData) (p : List ℕ) → AreValid (records_of v) → IsNumber n → AreBytes p → IsPayload d n x p →
    keep_takes d v n (wire_of x) p ≡ Some u → AreValid (records_of u)
one_with_unknowns d v u n x p valid number b payload taken =
    let same : (let o : Option (List (ℕ × FieldData)) = Some u in o ≡ Some (v ++ (n, x) ∷ [])) = sym taken ∙ kept_record d n x p v payload in
    let more : u ≡ v ++ (n, x) ∷ [] = cc in
    subst (λ z. AreValid (records_of z)) (sym more) (valid_joined v ((n, x) ∷ []) valid (number, payload_valid x d n p b payload, tt))

pub keep_stays_normal : (d : ℕ) (v u : List (ℕ × FieldData)) (bs : List ℕ) → AreBytes bs → AreValid (records_of v) → merged_of keep_takes d v bs ≡ Some u → AreValid (records_of u)
keep_stays_normal d v u bs b valid merged = all_keep keep_takes d (λ z. AreValid (records_of z)) (one_with_unknowns d) bs v u b valid merged
