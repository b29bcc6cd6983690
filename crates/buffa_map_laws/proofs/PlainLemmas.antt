-- Entries in which no payload is a message.
use Rattle.std.proofs.Common.{arith, ◌≡◌, ◌+◌, ◌≤◌, ◌⊎◌, inl, inr, ℕ, List, ap}
use Rattle.buffa_bytes.specs.declared.error.DecodeError.{DecodeError}
use Rattle.buffa_wire.specs.BudgetLeft.{BudgetLeft, nothing, units}
use Rattle.buffa_map.specs.Entry.{EntryFault}
use Rattle.buffa_map.specs.EntryReading.{inner_charge, charge_of}
use Rattle.buffa_map.specs.Merge.{RefusesEntry, Rules, State, unknown_cost}
use Rattle.buffa_map_laws.specs.EntriesOfScalars.{MergesExactly, PlainFault, SpendsExactly}

exact : (a b cost n : ℕ) → (b ≡ a) ⊎ ((b + cost ≤ a) × (a ≤ b + (cost + n))) → n ≡ 0 → b + cost ≤ a → b + cost ≡ a
exact a b cost n (inl h) z l = omega (arith, h, l)
exact a b cost n (inr h) z l = omega (arith, h.1, z, l)

either : (a b cost n : ℕ) → (b ≡ a) ⊎ ((b + cost ≤ a) × (a ≤ b + (cost + n))) → n ≡ 0 → (b ≡ a) ⊎ (b + cost ≡ a)
either a b cost n (inl h) z = inl h
either a b cost n (inr h) z = inr (omega (arith, h, z))

module _ {K V : Type 0} (r : Rules K V) (charge : (e : List ℕ) → charge_of r.key r.val r.depth r.cost e ≡ units r.cost) (old : State K V) (bs : List ℕ) where
  fault_of_plain : (left : BudgetLeft) (f : DecodeError) → EntryFault r.key r.val r.depth r.cost (unknown_cost r) left bs f → PlainFault r.key r.val r.depth r.cost (unknown_cost r) left bs f
  fault_of_plain left f (inl h) = inl h
  fault_of_plain left f (inr (e, rest, t, inl h)) = inr (e, rest, t, inl h)
  fault_of_plain left f (inr (e, rest, t, inr (many, inl (inl few)))) = absurd (omega (arith, few, ap (λ (z : BudgetLeft). z.unknown) (charge e)))
  fault_of_plain left f (inr (e, rest, t, inr (many, inl (inr few)))) = absurd (omega (arith, few, many, ap (λ (z : BudgetLeft). z.memory) (charge e)))
  fault_of_plain left f (inr (e, rest, t, inr (many, inr (inl h)))) = inr (e, rest, t, inr (many, inl h))
  fault_of_plain left f (inr (e, rest, t, inr (many, inr (inr (s, entry, known, few, which))))) =
      inr (e, rest, t, inr (many, inr (s, entry, known, omega (arith, few, ap (λ (z : BudgetLeft). z.unknown) (charge e)), which)))

  pub exact_merge : (new : State K V) (rest : List ℕ) → MergesExactly r old bs new rest
  exact_merge new rest m = (omega (arith, m.pays.1, ap (λ (z : BudgetLeft). z.memory) (charge m.entry)), omega (arith, m.pays.0, ap (λ (z : BudgetLeft). z.unknown) (charge m.entry)))

  pub exact_refusal : inner_charge r.key r.val r.depth bs ≡ nothing → (new : State K V) (rest : List ℕ) (f : DecodeError) → RefusesEntry r old bs new rest f → SpendsExactly r old bs new f
  exact_refusal inner new rest f h =
      let unit = ap (λ (z : BudgetLeft). z.memory) inner in
      let extra = ap (λ (z : BudgetLeft). z.unknown) inner in
      record {
        which = λ ne. fault_of_plain old.left f (h.fault ne);
        units = either old.left.memory new.left.memory r.cost _ h.spent.units unit;
        charged = λ e rest t room. exact old.left.memory new.left.memory r.cost _ h.spent.units unit (h.spent.charged e rest t room);
        most = h.spent.fields.0;
        least = omega (arith, h.spent.fields.1, extra);
        no_keeping = λ ne. omega (arith, h.spent.fields.0, (h.spent.not_kept ne).1, extra);
      }
