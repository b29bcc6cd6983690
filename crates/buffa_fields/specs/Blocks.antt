-- A block: members of a message, one after the other, which are one part of it. So many members are few parts.
-- Source: the protobuf encoding guide, "Message Structure".
use Rattle.std.specs.Prelude.{◌≡◌, ℕ, Bool, false, true, List, [], Option, Result, refl}
use Rattle.buffa_bytes.specs.declared.error.DecodeError.{DecodeError}
use Rattle.buffa_bytes.specs.declared.tag.Tag.{Tag}
use Rattle.buffa_wire.specs.BudgetLeft.{budget_left}
use Rattle.buffa_wire.specs.declared.context.DecodeContext.{DecodeContext}
use Rattle.buffa_fields.specs.UnknownsOfMembers.{Unknowns, Kept}
use Rattle.buffa_fields.specs.TwoPartsAreOne.{no_unknowns_part, both_part, part_within}
use Rattle.buffa_fields.specs.facts.BothPartFacts.{Alone, Leaves, no_unknowns_laws, both_alone, both_laws, both_leave, keeps_none, within_laws}
use Rattle.buffa_fields.specs.ContextAfter.{ContextAfter}
use Rattle.buffa_fields.specs.Schema.{Schema, Seen, Shape}
use Rattle.buffa_fields.specs.facts.MemberPartFacts.{laws_with_unknowns, member_laws}
use Rattle.buffa_fields.specs.MemberParts.{part_with_unknowns, member_part}
use Rattle.buffa_fields.specs.MemberList.{part}
use Rattle.buffa_fields.specs.facts.OneOfFacts.{one_of_laws}
use Rattle.buffa_fields.specs.OneOfParts.{OneOf, one_of_part}
use Rattle.buffa_fields.specs.MessageParts.{Part, PartLaws}
use denote.Ref.{Bor}

-- A part of a value P, with its laws. keeps: whether a field of it may give records to those that the message keeps.
pub record Block (keeps : Bool) (P A : Type 0) : Type 1 where
  pub part : Part P A
  pub laws : PartLaws part
  pub leaves : Leaves keeps part
  pub alone : keeps ≡ false → Alone part

-- a member under a number
abbrev pub one : {P A : Type 0} → ℕ → Shape P A → Block false P A
one k s = record {
  part = member_part k (λ p. p) s;
  laws = member_laws k (λ p. p) s;
  leaves = record { others = λ S E a b h. h; only = λ S E a b h. h };
  alone = λ _. record { none = λ kept beside. beside };
}

-- one that puts aside what it doesn't understand
abbrev pub one_with_unknowns : {P A : Type 0} → ℕ → Shape P A → Unknowns A → Block true P A
one_with_unknowns k s a = record {
  part = part_with_unknowns k (λ p. p) s a;
  laws = laws_with_unknowns k (λ p. p) s a;
  leaves = record { others = λ S E a b h. h; only = λ S E a b h. h };
  alone = λ is. keeps_none (part_with_unknowns k (λ p. p) s a) is;
}

-- a oneof
abbrev pub one_case : {O X : Type 0} → OneOf O X → Block false (Option O) (Option X)
one_case e = record {
  part = one_of_part (λ o. o) e;
  laws = one_of_laws (λ o. o) e;
  leaves = record { others = λ S E a b h. h; only = λ S E a b h. h };
  alone = λ _. record { none = λ kept beside. beside };
}

-- two blocks, one after the other
abbrev pub both_blocks : {keeps : Bool} {P Q A B : Type 0} → Block keeps P A → Block keeps Q B → Block keeps (P × Q) (A × B)
both_blocks {keeps} p q = record {
  part = both_part p.part q.part keeps;
  laws = both_laws p.part q.part keeps p.laws q.laws p.leaves q.leaves;
  leaves = both_leave p.part q.part keeps;
  alone = λ is. both_alone p.part q.part keeps (p.alone is) (q.alone is);
}

-- a block of which no field gives records, among those of which one may
abbrev pub no_unknowns : {P A : Type 0} → Block false P A → Block true P A
no_unknowns b = record {
  part = no_unknowns_part b.part;
  laws = no_unknowns_laws b.part b.laws b.leaves (b.alone refl);
  leaves = record { others = λ S E a b h. h; only = λ S E a b h. h };
  alone = λ is. keeps_none (no_unknowns_part b.part) is;
}

-- members, one after the other: the pairs of two, of three, and so on
abbrev pub two : {A B : Type 0} → A → B → A × B
two a b = (a, b)

abbrev pub three : {A B C : Type 0} → A → B → C → A × (B × C)
three a b c = (a, (b, c))

abbrev pub four : {A B C D : Type 0} → A → B → C → D → A × (B × (C × D))
four a b c d = (a, (b, (c, d)))

abbrev pub five : {A B C D E : Type 0} → A → B → C → D → E → A × (B × (C × (D × E)))
five a b c d e = (a, (b, (c, (d, e))))

abbrev pub six : {A B C D E F : Type 0} → A → B → C → D → E → F → A × (B × (C × (D × (E × F))))
six a b c d e f = (a, (b, (c, (d, (e, f)))))

abbrev pub seven : {A B C D E F G : Type 0} → A → B → C → D → E → F → G → A × (B × (C × (D × (E × (F × G)))))
seven a b c d e f g = (a, (b, (c, (d, (e, (f, g))))))

abbrev pub eight : {A B C D E F G H : Type 0} → A → B → C → D → E → F → G → H → A × (B × (C × (D × (E × (F × (G × H))))))
eight a b c d e f g h = (a, (b, (c, (d, (e, (f, (g, h)))))))

-- Some members of a message M, by a block: members P, which get finds in the message.
pub record BlockOf (M A : Type 0) : Type 1 where
  pub keeps : Bool
  pub P : Type 0
  pub get : M → P
  pub block : Block keeps P A

abbrev pub block_of : {keeps : Bool} {M P A : Type 0} → (M → P) → Block keeps P A → BlockOf M A
block_of {keeps} {P = P} get b = record { keeps = keeps; P = P; get = get; block = b }

-- a block, and the others
abbrev pub block : {M A B : Type 0} → BlockOf M A → Schema M B → Schema M (A × B)
block b l = part (part_within b.get b.block.part) (within_laws b.get b.block.part b.block.laws) l

-- what it owes, its slots, and what was seen of it
abbrev pub BlockOwes : {M A : Type 0} → BlockOf M A → Type 0
BlockOwes b = b.block.part.Owes

abbrev pub block_slots : {M A : Type 0} → BlockOf M A → M → List ℕ
block_slots b m = b.block.part.slots (b.block.part.meaning (b.get m))

abbrev pub block_seen : {M A : Type 0} → BlockOf M A → M → Seen → Seen
block_seen b m z = b.block.part.seen (b.get m) z

-- the member of the number took the field, and the others of the block stay; the message keeps these records before and after
abbrev pub TakesWithUnknowns : {M A D : Type 0} → Tag → DecodeContext → ContextAfter D → (b : BlockOf M A) → b.P → b.P → Kept → Kept → Bor (List ℕ) → Bor (List ℕ) → Result (Unit {0}) DecodeError → Type 0
TakesWithUnknowns tag ctx left b old new kept keeping before after r =
    b.block.part.Took ctx.depth old kept tag.number tag.wire_type before.now ctx.budget.now r new keeping (budget_left left) after.now

abbrev pub TakesBlock : {M A D : Type 0} → Tag → DecodeContext → ContextAfter D → (b : BlockOf M A) → b.P → b.P → Bor (List ℕ) → Bor (List ℕ) → Result (Unit {0}) DecodeError → Type 0
TakesBlock tag ctx left b old new before after r = TakesWithUnknowns tag ctx left b old new [] [] before after r
