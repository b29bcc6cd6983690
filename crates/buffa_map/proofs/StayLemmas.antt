-- What each payload keeps of a value, all bytes keep.
use Rattle.std.proofs.Common.{◌≡◌, ℕ, List, ◌++◌, Option, Some, refl, sym, ap, subst, ◌∙◌, append_assoc}
use Rattle.buffa_bytes.specs.Number.{IsNumber}
use Rattle.buffa_bytes.specs.Varint.{IsByte}
use Rattle.buffa_wire.proofs.JoinLemmas.{join_records, payload_of_record}
use Rattle.buffa_wire.proofs.TakesLemmas.{merged_of_fields, merged_of_none}
use Rattle.buffa_wire.proofs.ValidLemmas.{AreBytes, all_before, all_behind, as_bytes}
use Rattle.buffa_wire.specs.Encoding.{wire_of}
use Rattle.buffa_wire.specs.Parse.{IsPayload, Parse}
use Rattle.buffa_wire.specs.Records.{FieldData, Records, no_records, one}
use Rattle.buffa_wire.specs.Takes.{Taker, merged_of}
use Rattle.buffa_map.proofs.LowLemmas.{first_taken}

module _ {X : Type 0} (takes : Taker X) (d : ℕ) (P : X → Type 0)
    (keeps : (v u : X) (n : ℕ) (x : FieldData) (p : List ℕ) → P v → IsNumber n → AreBytes p → IsPayload d n x p → takes d v n (wire_of x) p ≡ Some u → P u) where
  same_value : (v w : X) → (let o : Option X = Some v in o ≡ Some w) → v ≡ w
  same_value v w h = cc

  along : (rs : Records) (b : List ℕ) (v w : X) → AreBytes b → Parse d b rs → P v → merged_of takes d v b ≡ Some w → P w
  along no_records b v w k parse h m = subst (λ z. P z) (same_value v w (sym (merged_of_none takes d v) ∙ ap (merged_of takes d v) (sym parse) ∙ m)) h
  along (one n x rs) b v w k (f, r, (t, p, tag, payload, is), next, all) h m =
      let whole = as_bytes b (f ++ r) all k in
      let field = as_bytes f (t ++ p) is (all_before IsByte f r whole) in
      let split : b ≡ t ++ (p ++ r) = all ∙ ap (λ z. z ++ r) is ∙ append_assoc t p r in
      let first = first_taken takes d v w n (wire_of x) t p r tag (payload_of_record x d n p payload) (takes d v n (wire_of x) p) refl (ap (merged_of takes d v) (sym split) ∙ m) in
      along rs r first.0 w (all_behind IsByte f r whole) next (keeps v first.0 n x p h tag.0 (all_behind IsByte t p field) payload first.1) first.2

  pub all_keep : (b : List ℕ) (v w : X) → AreBytes b → P v → merged_of takes d v b ≡ Some w → P w
  all_keep b v w k h m = let rs = join_records d b (merged_of_fields takes d v w b m) in along rs.0 b v w k rs.1 h m
