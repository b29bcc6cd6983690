-- An Item is read and written in one way.
use Rattle.std.proofs.Common.{◌≡◌, ℕ, ◌==◌, ◌^◌, ◌<◌, Bool, false, true, List, [], ◌++◌, length, Ok, Err, refl, sym, ap, ◌∙◌, arith, inl, inr}
use Rattle.std.proofs.lemmas.Bool.{eqb-false, eqb-true}
use Rattle.std.proofs.lemmas.List.{append_cancel_left}
use Rattle.buffa_bytes.specs.declared.error.DecodeError.{DecodeError}
use Rattle.buffa_bytes.specs.declared.error.DecodeError.TheVariants.{UnknownFieldLimitExceeded}
use Rattle.buffa_bytes.specs.declared.wire_type.WireType.TheVariants.{StartGroup}
use Rattle.buffa_bytes.proofs.StepLemmas.{agree_err, agree_ok}
use Rattle.buffa_wire.specs.BudgetLeft.{BudgetLeft}
use Rattle.buffa_bytes.specs.Values.{tag_encoding}
use Rattle.buffa_bytes.proofs.SequenceLemmas.{ok_same}
use Rattle.buffa_wire.proofs.SpentLemmas.{same_left}
use Rattle.buffa_message_set.specs.Item.{IsTypeId, ItemFault, SpendsUnknown, TakesItem, body_encoding, item_at, item_in, item_encoding}
use Rattle.buffa_ext_laws.specs.LeftOpenItems.{GivesItem, ItemIsPinned, WrittenItemIsPinned}
use Rattle.buffa_message_set.proofs.ItemLemmas.{one_item, read_sound, written_item}

-- an unknown field is left
read_there : (d unknown : ℕ) (bs : List ℕ) → (unknown == 0) ≡ false → item_in d unknown bs ≡ item_at d bs
read_there d unknown bs e = rw e refl

none_there : (d unknown : ℕ) (bs : List ℕ) → (unknown == 0) ≡ true → item_in d unknown bs ≡ Err UnknownFieldLimitExceeded
none_there d unknown bs e = rw e refl

there : (d unknown : ℕ) (bs x : List ℕ) (a : ℕ × List ℕ) (b : Bool) → (unknown == 0) ≡ b → GivesItem d unknown bs (Ok a) x → (0 < unknown) × TakesItem d bs a.0 a.1 x
there d unknown bs x a true e h = let no = none_there d unknown bs e in cc
there d unknown bs x a false e h =
    (omega (arith, eqb-false unknown 0 e), agree_ok (item_at d bs) (a.0, a.1, x) (read_sound d bs) (sym (read_there d unknown bs e) ∙ h))

reported : (d unknown : ℕ) (bs : List ℕ) (f : DecodeError) (b : Bool) → (unknown == 0) ≡ b → item_in d unknown bs ≡ Err f → 0 < unknown → ItemFault d bs f
reported d unknown bs f true e h some = absurd (omega (arith, eqb-true unknown 0 e, some))
reported d unknown bs f false e h some = agree_err (item_at d bs) f (read_sound d bs) (sym (read_there d unknown bs e) ∙ h)

spent : (old a b : BudgetLeft) → SpendsUnknown old a → SpendsUnknown old b → a ≡ b
spent old a b (inl h) (inl k) = h.1 ∙ sym k.1
spent old a b (inl h) (inr k) = absurd (omega (arith, h.0, k.0))
spent old a b (inr h) (inl k) = absurd (omega (arith, h.0, k.0))
spent old a b (inr h) (inr k) = same_left a b (omega (arith, h.0, k.0)) (h.1 ∙ sym k.1)

pub item_is_pinned : ItemIsPinned
item_is_pinned = record {
  accepted = λ d unknown bs x y a b h k.
      let same = ok_same (sym h ∙ k) in
      (ap (λ z. (z.0, z.1)) same, ap (λ z. z.2) same);
  is_there = λ d unknown bs x a h. there d unknown bs x a (unknown == 0) refl h;
  refused = λ d unknown bs x y a f h k no. let e = k no in cc;
  fault = λ d unknown bs x y f g h k no nor. let e = h no in let j = k nor in cc;
  is_a_fault = λ d unknown bs x f h no some. reported d unknown bs f (unknown == 0) refl (h no) some;
  spent = spent;
}

no_other : (id other : ℕ) (msg bytes : List ℕ) → IsTypeId id → IsTypeId other → length msg < 2 ^ 64 → length bytes < 2 ^ 64 →
    item_encoding id msg ≡ item_encoding other bytes → (id ≡ other) × (msg ≡ bytes)
no_other id other msg bytes h k short brief e =
    let same : body_encoding id msg ≡ body_encoding other bytes = append_cancel_left (tag_encoding 1 StartGroup) (body_encoding id msg) (body_encoding other bytes) e in
    let one = one_item 0 (body_encoding id msg) (body_encoding other bytes) [] [] msg bytes id other (written_item 0 id msg h short) (written_item 0 other bytes k brief) (ap (λ z. z ++ []) same) in
    (one.1, one.2)

pub written_item_is_pinned : WrittenItemIsPinned
written_item_is_pinned = record {
  written = λ id msg old a b h k. h ∙ sym k;
  refused = λ id msg old a f h. h.0;
  fits = λ id room left msg f h enough. omega (arith, h, enough);
  no_other = no_other;
}
