-- What a message comes to that is read field by field, where no field lengthens the bytes.
use Rattle.std.proofs.Common.{◌≡◌, ◌≢◌, ℕ, ◌<◌, ◌≤◌, List, [], length, Some, None, Ok, Err, refl, ap, arith, length-append}
use Rattle.buffa_bytes.proofs.FieldLemmas.{tag_falls, tag_some, tag_sound}
use Rattle.buffa_bytes.proofs.SequenceLemmas.{Falls, along_err, along_none, along_ok, has_byte}
use Rattle.buffa_bytes.proofs.StepLemmas.{Agrees, agree_bind, agree_ok, agree_weaker}
use Rattle.buffa_bytes.specs.Readings.{tag_at}
use Rattle.buffa_bytes.specs.declared.error.DecodeError.{DecodeError}
use Rattle.buffa_bytes.specs.declared.wire_type.WireType.{WireType}
use Rattle.buffa_wire.specs.ByField.{FieldReader, merged_by, next_at, value_of}

-- what follows a field is no more than what follows its tag
abbrev pub Shortens : {X : Type 0} → FieldReader X → Type 0
Shortens {X} field = (v : X) (n : ℕ) (w : WireType) (bs : List ℕ) → Agrees (field v n w bs) (λ x. length x.1 ≤ length bs) (λ e. Unit {0})

tag_shortens : (bs : List ℕ) → Agrees (tag_at bs) (λ t. length t.2 < length bs) (λ e. Unit {0})
tag_shortens bs = agree_weaker (tag_sound bs) (λ t u. omega (arith, ap length u.2, tag_some u.0 t.0 t.1 u.1, length-append u.0 t.2)) (λ _ _. tt)

module _ {X : Type 0} (field : FieldReader X) (shortens : Shortens field) where
  next_shortens : (v : X) (bs : List ℕ) → Agrees (next_at field v bs) (λ x. length x.1 < length bs) (λ e. Unit {0})
  next_shortens v bs = agree_bind (tag_shortens bs) (λ t h. agree_weaker (shortens v t.0 t.1 t.2) (λ x k. omega (arith, h, k)) (λ _ _. tt)) (λ _ _. tt)

  falls : Falls (next_at field)
  falls v bs x h = agree_ok (next_at field v bs) x (next_shortens v bs) h

  -- no bytes change nothing
  pub none_merged : (v : X) → merged_by field v [] ≡ Some v
  none_merged v = ap value_of (along_none (next_at field) falls v)

  -- where no tag is, all is refused
  pub untagged_refused : (v : X) (bs : List ℕ) (e : DecodeError) → bs ≢ [] → tag_at bs ≡ Err e → merged_by field v bs ≡ None
  untagged_refused v bs e some h = ap value_of (along_err (next_at field) falls v bs e (has_byte bs some) (rw h refl))

  module _ (v : X) (bs mid : List ℕ) (n : ℕ) (w : WireType) (tag : tag_at bs ≡ Ok (n, w, mid)) where
    some : 0 < length bs
    some = omega (arith, tag_falls bs (n, w, mid) tag)

    -- a field is merged, and then what follows it
    pub field_merged : (u : X) (rest : List ℕ) → field v n w mid ≡ Ok (u, rest) → merged_by field v bs ≡ merged_by field u rest
    field_merged u rest h = ap value_of (along_ok (next_at field) falls v u bs rest some (rw tag h))

    -- a field is refused, and so is all
    pub field_refused : (e : DecodeError) → field v n w mid ≡ Err e → merged_by field v bs ≡ None
    field_refused e h = ap value_of (along_err (next_at field) falls v bs e some (rw tag h))
