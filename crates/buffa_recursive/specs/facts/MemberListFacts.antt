-- What is proved of the members of a message that holds itself.
use Rattle.std.proofs.Common.{◌<◌, arith, ◌≡◌, ℕ, ◌≤◌, ◌==◌, not, max, ◌++◌, ap, subst, ◌∙◌, if◌then◌else◌}
use Rattle.std.specs.Option.{option_map}
use Rattle.buffa_fields.specs.UndeclaredFields.{AllNumbers}
use Rattle.buffa_fields.specs.Schema.{Schema, Shape}
use Rattle.buffa_fields.specs.MemberList.{field, part}
use Rattle.buffa_recursive.specs.MessageTree.{MessageTree, message_tree, tree_height, rest_of, inner_height}
use Rattle.buffa_recursive.specs.RecursiveSchema.{SchemasAlike}
use Rattle.buffa_fields.specs.MessageParts.{Part, PartLaws}

pub tree_lower : {a b h : ℕ} → a ≤ b → b ≤ h → a ≤ h
tree_lower low is = omega (arith, low, is)

pub same_low : (a : ℕ) → a ≤ a
same_low a = omega arith

pub rest_low : {W : Type 0} (x k : MessageTree W) → tree_height k ≤ inner_height (rest_of x).1 → tree_height k < tree_height x
rest_low (message_tree o ss) k low = omega (arith, low)

pub out_again : {A R Z : Type 0} (out : R → Z) {p q : A × R} {z : Z} → p ≡ q → out q.1 ≡ z → ◌≡◌ {A = A × Z} (p.0, out p.1) (q.0, z)
out_again out h j = λ i. ((h i).0, (ap (λ r. out r.1) h ∙ j) i)

-- ---- a part that isn't told of the messages inside
module _ {M A B : Type 0} (p : Part M A) (laws : PartLaws p) (l m : Schema M B) where
  pub part_taken_alike : (d : ℕ) → l.adds ≡ m.adds → l.takes d ≡ m.takes d → (part p laws l).takes d ≡ (part p laws m).takes d
  part_taken_alike d h j = λ i v n w x. if p.mine n then p.takes (h i) d v n w x else option_map (λ y. (v.0, y)) (j i v.1 n w x)

  pub part_charged_alike : (d : ℕ) → l.charge d ≡ m.charge d → (part p laws l).charge d ≡ (part p laws m).charge d
  part_charged_alike d j = λ i n w bs. if p.mine n then p.charge d n w bs else j i n w bs

  pub part_say_alike : (a : A) (b : B) → l.kept ≡ m.kept → SchemasAlike l m b → SchemasAlike (part p laws l) (part p laws m) (a, b)
  part_say_alike a b kept j = (
    λ i. p.records a ++ j.0 i,
    λ i. p.slots a ++ j.1 i,
    λ i. p.levels a (j.2 i) (kept i b),
    λ normal. (normal.0, j.3 normal.1, subst (λ f. p.WithUnknowns (f b)) kept normal.2),
  )

-- ---- a member that is
module _ {M A B : Type 0} (get : M → A) (k : ℕ) (s t : Shape A A) (l m : Schema M B) (d : ℕ) where
  pub members_taken_alike : s.takes d ≡ t.takes d → l.takes d ≡ m.takes d → (field k get s l).takes d ≡ (field k get t m).takes d
  members_taken_alike h j = λ i v n w x. if n == k then option_map (λ a. (a, v.1)) (h i v.0 n w x) else option_map (λ y. (v.0, y)) (j i v.1 n w x)

  pub members_charge_alike : s.charge d ≡ t.charge d → l.charge d ≡ m.charge d → (field k get s l).charge d ≡ (field k get t m).charge d
  members_charge_alike h j = λ i n w bs. if n == k then h i n w bs else j i n w bs

module _ {M A B : Type 0} (get : M → A) (k : ℕ) (s t : Shape A A) (l m : Schema M B) (a : A) (b : B) where
  pub added_say_alike : l.kept ≡ m.kept → (s.records k a ≡ t.records k a) × (s.slots a ≡ t.slots a) × (s.levels a ≡ t.levels a) × (s.normal a → t.normal a) → SchemasAlike l m b →
      SchemasAlike (field k get s l) (field k get t m) (a, b)
  added_say_alike kept h j = (
    λ i. h.0 i ++ j.0 i,
    λ i. h.1 i ++ j.1 i,
    λ i. max (h.2 i) (j.2 i),
    λ normal. (h.3 normal.0, j.3 normal.1, subst (λ f. AllNumbers (λ n. not (n == k)) (f b)) kept normal.2),
  )
