-- What is proved of the passes of messages that hold themselves: what their members are sized and written as, they are.
use Rattle.std.proofs.Common.{◌≡◌, ℕ, List, [], Result, IsOk, sym, ap, subst, ◌∙◌}
use Rattle.buffa_bytes.specs.declared.error.EncodeError.{EncodeError}
use Rattle.buffa_wire.specs.Cache.{Cache}
use Rattle.buffa_wire.specs.Encoding.{records_encoding}
use Rattle.buffa_wire.specs.Passes.{IsSized, IsWritten}
use Rattle.buffa_fields.specs.Schema.{IsCounted, IsPut, Schema}
use Rattle.buffa_fields.specs.facts.SchemaFacts.{puts, sizes, start}
use Rattle.buffa_recursive.specs.RecursiveSchema.{RecursiveSchema}
use Rattle.buffa_recursive.specs.Layers.{IsSound}
use Rattle.buffa_recursive.specs.Fixpoint.{semantics, message_schema}
use Rattle.buffa_recursive.specs.facts.FixpointFacts.{records_are, slots_are}
use Rattle.buffa_recursive.specs.InnerMessages.{Semantics, encoding_by}

module _ {X : Type 0} (each : ℕ) (o : RecursiveSchema X) (sound : IsSound o) (x : X) where
  abbrev w : Semantics X
  w = semantics each o sound

  abbrev l : Schema X o.Y
  l = message_schema each o sound

  encoding_is : records_encoding (l.records (l.meaning x)) ≡ encoding_by w x
  encoding_is = ap records_encoding (ap l.records (o.meaning_is w x) ∙ sym (records_are each o sound x))

  slots_is : l.slots (l.meaning x) ≡ w.slots x
  slots_is = ap l.slots (o.meaning_is w x) ∙ sym (slots_are each o sound x)

  pub self_sized : (sink : ℕ) (before : List ℕ) (cache of : ℕ) (first now : Cache) (r : Result ℕ EncodeError) → IsCounted cache r now (l.seen x (start sink before of first)) →
      (cache ≡ of) × IsSized (encoding_by w x) (w.slots x) first r now × (w.slots x ≡ [] → IsOk r)
  self_sized sink before cache of first now r h =
      let k = sizes l x sink before cache of first now r h in
      (k.0, subst (λ e. IsSized e (w.slots x) first r now) encoding_is (subst (λ s. IsSized (records_encoding (l.records (l.meaning x))) s first r now) slots_is k.1), λ none. k.2 (slots_is ∙ none))

  pub self_put : (from sink : ℕ) (before : List ℕ) (of cache : ℕ) (first now : Cache) (new : List ℕ) (r : Result (Unit {0}) EncodeError) → IsPut sink cache new now r (l.seen x (start from before of first)) →
      (sink ≡ from) × (cache ≡ of) × IsWritten (encoding_by w x) (w.slots x) first before r now new
  self_put from sink before of cache first now new r h =
      let k = puts l x from sink before of cache first now new r h in
      (k.0, k.1, subst (λ e. IsWritten e (w.slots x) first before r now new) encoding_is (subst (λ s. IsWritten (records_encoding (l.records (l.meaning x))) s first before r now new) slots_is k.2))
