-- The knot: what is told of messages that hold themselves, by their layout, which says it by what is told of the messages inside.
-- It is tied by layers: a value is written by as many as it is high, and bytes are read by as many as levels may still open.
use Rattle.std.specs.Prelude.{◌≡◌, ◌≤◌, ℕ, zero, suc, true, [], Option, None, Some}
use Rattle.std.proofs.Common.{◌∙◌, ap, sym}
use Rattle.std.specs.Option.{option_map}
use Rattle.buffa_wire.specs.BudgetLeft.{nothing}
use Rattle.buffa_wire.specs.Encoding.{records_encoding}
use Rattle.buffa_wire.specs.Parse.{Fits}
use Rattle.buffa_wire.specs.Records.{records_of}
use Rattle.buffa_wire.specs.Takes.{cost_of, merged_of}
use Rattle.buffa_wire.proofs.TakesLemmas.{merged_of_fields}
use Rattle.buffa_fields.specs.facts.SchemaFacts.{reads_back}
use Rattle.buffa_recursive.specs.facts.TakenByAnotherFacts.{merged_through}
use Rattle.buffa_recursive.specs.RecursiveSchema.{RecursiveSchema, whole_takes}
use Rattle.buffa_recursive.specs.InnerMessages.{Semantics}

-- each number is valid for a field, no two members have the same one, and records that a member puts aside are kept
abbrev pub IsSound : {X : Type 0} → RecursiveSchema X → Type 1
IsSound {X} o = (w : Semantics X) → (o.schema w).sound ≡ true

pub never_some : {A B : Type 0} (u : A) → (let o : Option A = None in o) ≡ Some u → B
never_some u h = cc

module _ {X : Type 0} (each : ℕ) (o : RecursiveSchema X) where
  -- nothing is told
  abbrev pub no_semantics : Semantics X
  no_semantics = record {
    each = each;
    blank = o.into o.blank;
    merged = λ d x b. None;
    cost = λ d b. nothing;
    records = λ x. [];
    slots = λ x. [];
    levels = λ x. 0;
    normal = λ x. ⊥;
    fields = λ d v u b h. never_some u h;
    valid = λ v h. absurd h;
    back = λ d v fits h low. absurd h;
  }

  -- a value is normal where it has no more than its members, these are, and those that hold other messages read back
  abbrev pub IsNormalRecursive : Semantics X → X → Type 0
  IsNormalRecursive w x = o.Owes × (o.into (o.out x) ≡ x) × (o.schema w).normal (o.out x)

  module _ (sound : IsSound o) where
    pub layer_back : (w : Semantics X) (d : ℕ) (x : X) → Fits (records_of ((o.schema w).records (o.out x))) → IsNormalRecursive w x → (o.schema w).levels (o.out x) ≤ d →
        merged_of (whole_takes o w) d (o.into o.blank) (records_encoding ((o.schema w).records (o.out x))) ≡ Some x
    layer_back w d x fits h low =
        let l = o.schema w in
        let bs = records_encoding (l.records (o.out x)) in
        merged_through o.into o.out o.again l.takes d o.blank bs
        ∙ ap (option_map o.into) (ap (λ z. merged_of l.takes d z bs) (sym (o.blank_is w)) ∙ reads_back l (o.owes w h.0) (sound w) d (o.out x) fits h.2 low)
        ∙ ap (λ z. Some z) h.1

    -- a layer more
    abbrev pub layer : Semantics X → Semantics X
    layer w = record {
      each = each;
      blank = o.into o.blank;
      merged = merged_of (whole_takes o w);
      cost = cost_of (o.schema w).charge;
      records = λ x. (o.schema w).records (o.out x);
      slots = λ x. (o.schema w).slots (o.out x);
      levels = λ x. (o.schema w).levels (o.out x);
      normal = IsNormalRecursive w;
      fields = λ d v u b h. merged_of_fields (whole_takes o w) d v u b h;
      valid = λ x h. (o.schema w).valid (o.owes w h.0) (sound w) (o.out x) h.2;
      back = layer_back w;
    }

    -- so many layers
    abbrev pub layers : ℕ → Semantics X
    layers zero = no_semantics
    layers (suc n) = layer (layers n)
