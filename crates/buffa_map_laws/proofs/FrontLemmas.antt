-- A length and an entry begin bytes in one way only, and not while they have a fault.
use Rattle.std.proofs.Common.{arith, ◌≡◌, ◌+◌, ◌<◌, ◌≤◌, ◌⊎◌, inl, inr, ℕ, Bool, false, List, ap, cond, subst, sym, ◌∙◌}
use Rattle.buffa_bytes.proofs.DelimitedLemmas.{delimited_faulty, delimited_taken}
use Rattle.buffa_bytes.specs.declared.error.DecodeError.{DecodeError}
use Rattle.buffa_bytes.specs.declared.error.DecodeError.TheVariants.{ElementMemoryLimitExceeded, UnknownFieldLimitExceeded}
use Rattle.buffa_bytes.specs.Field.{TakesDelimited}
use Rattle.buffa_wire.specs.BudgetLeft.{Lacks, BudgetLeft}
use Rattle.buffa_map.specs.Codec.{Reading}
use Rattle.buffa_map.specs.Entry.{EntryFault, EntryOf, FaultOf, IsEntry}
use Rattle.buffa_map.specs.EntryReading.{charge_of}
use Rattle.buffa_map.specs.declared.map_entry.MapEntry.{MapEntry}
use Rattle.buffa_bytes.proofs.SequenceLemmas.{ok_no_err, ok_same}
use Rattle.buffa_map.proofs.EntryLemmas.{entry_complete, entry_faulty}

module _ {K V : Type 0} (key : Reading K) (val : Reading V) (d : ℕ) where
  pub same_entry : (e : List ℕ) (s t : MapEntry K V) → IsEntry key val d e s → IsEntry key val d e t → s ≡ t
  same_entry e s t h k = ok_same (sym (entry_complete key val d e s h) ∙ entry_complete key val d e t k)

  pub entry_no_fault : (e : List ℕ) (s : MapEntry K V) (f : DecodeError) → IsEntry key val d e s → FaultOf key val d e f → ⊥
  entry_no_fault e s f h k = ok_no_err (sym (entry_complete key val d e s h) ∙ (entry_faulty key val d e f k).1)

  pub same_taken : (bs e a f b : List ℕ) → TakesDelimited bs e a → TakesDelimited bs f b → ◌≡◌ {A = List ℕ × List ℕ} (e, a) (f, b)
  same_taken bs e a f b h k = ok_same (sym (delimited_taken bs e a h) ∙ delimited_taken bs f b k)

  pub same_front : (bs e a : List ℕ) (s : MapEntry K V) (f b : List ℕ) (t : MapEntry K V) → EntryOf key val d bs e s a → EntryOf key val d bs f t b → (e ≡ f) × (a ≡ b) × (s ≡ t)
  same_front bs e a s f b t (taken_e, h) (taken_f, k) =
      let taken = same_taken bs e a f b taken_e taken_f in
      (ap (λ z. z.0) taken, ap (λ z. z.1) taken, same_entry e s t h (subst (λ z. IsEntry key val d z t) (sym (ap (λ z. z.0) taken)) k))

  -- the part of a fault behind the length
  abbrev Behind : ℕ → ℕ → BudgetLeft → DecodeError → List ℕ → Type 0
  Behind cost extra left f e =
      ((left.memory < cost) × (f ≡ ElementMemoryLimitExceeded))
      ⊎ ((cost ≤ left.memory) × (Lacks left (charge_of key val d cost e) ⊎ (FaultOf key val d e f
      ⊎ ((s : MapEntry K V) × IsEntry key val d e s × (s.known ≡ false) × (left.unknown < (charge_of key val d cost e).unknown + extra) × (f ≡ UnknownFieldLimitExceeded)))))

  none_behind : (cost extra : ℕ) (left : BudgetLeft) (e : List ℕ) (s : MapEntry K V) (f : DecodeError) → IsEntry key val d e s →
      (charge_of key val d cost e).memory ≤ left.memory → (charge_of key val d cost e).unknown + cond s.known 0 extra ≤ left.unknown → Behind cost extra left f e → ⊥
  none_behind cost extra left e s f h units slots (inl few) = absurd (omega (arith, units, few.0))
  none_behind cost extra left e s f h units slots (inr (many, inl (inl few))) = absurd (omega (arith, slots, few))
  none_behind cost extra left e s f h units slots (inr (many, inl (inr few))) = absurd (omega (arith, units, few))
  none_behind cost extra left e s f h units slots (inr (many, inr (inl bad))) = entry_no_fault e s f h bad
  none_behind cost extra left e s f h units slots (inr (many, inr (inr (t, k, known, few, which)))) =
      let same : s ≡ t = same_entry e s t h k in
      let open_extra : (charge_of key val d cost e).unknown + cond t.known 0 extra ≤ left.unknown = subst (λ (z : MapEntry K V). (charge_of key val d cost e).unknown + cond z.known 0 extra ≤ left.unknown) same slots in
      let taken : (charge_of key val d cost e).unknown + extra ≤ left.unknown = subst (λ (z : Bool). (charge_of key val d cost e).unknown + cond z 0 extra ≤ left.unknown) known open_extra in
      absurd (omega (arith, taken, few))

  pub paid_no_fault : (cost extra : ℕ) (left : BudgetLeft) (bs e rest : List ℕ) (s : MapEntry K V) (f : DecodeError) → EntryOf key val d bs e s rest →
      (charge_of key val d cost e).memory ≤ left.memory → (charge_of key val d cost e).unknown + cond s.known 0 extra ≤ left.unknown → EntryFault key val d cost extra left bs f → ⊥
  paid_no_fault cost extra left bs e rest s f (there, h) units slots (inl bad) = ok_no_err (sym (delimited_taken bs e rest there) ∙ delimited_faulty bs f bad)
  paid_no_fault cost extra left bs e rest s f (there, h) units slots (inr (g, after, also, k)) =
      let taken = same_taken bs g after e rest also there in
      none_behind cost extra left e s f h units slots (subst (λ (z : List ℕ). Behind cost extra left f z) (ap (λ z. z.0) taken) k)
