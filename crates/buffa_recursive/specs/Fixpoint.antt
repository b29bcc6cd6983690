-- What is told of messages that hold themselves, at every depth and height.
use Rattle.std.specs.Prelude.{◌≡◌, ◌≤◌, ◌+◌, ℕ, suc, Some}
use Rattle.std.proofs.Common.{◌∙◌, ap, subst, arith}
use Rattle.buffa_wire.specs.Encoding.{records_encoding}
use Rattle.buffa_wire.specs.Parse.{Fits}
use Rattle.buffa_wire.specs.Records.{records_of}
use Rattle.buffa_fields.specs.Schema.{Schema}
use Rattle.buffa_recursive.specs.RecursiveSchema.{RecursiveSchema}
use Rattle.buffa_recursive.specs.Layers.{IsSound, layers}
use Rattle.buffa_recursive.specs.facts.LayerFacts.{more_layers_merge, say_more}
use Rattle.buffa_recursive.specs.InnerMessages.{Semantics}

module _ {X : Type 0} (each : ℕ) (o : RecursiveSchema X) (sound : IsSound o) where
  -- what is told of a value, and of a depth
  abbrev pub semantics_of : X → Semantics X
  semantics_of x = layers each o sound (suc (o.height x))

  abbrev pub semantics_at : ℕ → Semantics X
  semantics_at d = layers each o sound (suc d)

  pub semantics_back : (d : ℕ) (x : X) → Fits (records_of ((semantics_of x).records x)) → (semantics_of x).normal x → (semantics_of x).levels x ≤ d →
      (semantics_at d).merged d (o.into o.blank) (records_encoding ((semantics_of x).records x)) ≡ Some x
  semantics_back d x fits normal low =
      let n = suc (d + o.height x) in
      let all = layers each o sound n in
      let same = say_more each o sound (suc (o.height x)) n x (omega arith) (omega arith) in
      let back = all.back d x (subst (λ rs. Fits (records_of rs)) same.0 fits) (same.3 normal) (subst (λ k. k ≤ d) same.2 low) in
      ap (λ rs. (semantics_at d).merged d (o.into o.blank) (records_encoding rs)) same.0
      ∙ (λ i. more_layers_merge each o sound (suc d) n d (omega arith) (omega arith) i (o.into o.blank) (records_encoding (all.records x))) ∙ back

  -- the words of the type
  unfoldable pub semantics : Semantics X
  semantics = record {
    each = each;
    blank = o.into o.blank;
    merged = λ d. (semantics_at d).merged d;
    cost = λ d. (semantics_at d).cost d;
    records = λ x. (semantics_of x).records x;
    slots = λ x. (semantics_of x).slots x;
    levels = λ x. (semantics_of x).levels x;
    normal = λ x. (semantics_of x).normal x;
    fields = λ d v u b h. (semantics_at d).fields d v u b h;
    valid = λ x h. (semantics_of x).valid x h;
    back = semantics_back;
  }

  -- its members, by these
  abbrev pub message_schema : Schema X o.Y
  message_schema = o.schema semantics
