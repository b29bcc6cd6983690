-- The fields of an entry and its cost: read, or refused, at each place where reading them ends.
use Rattle.std.proofs.Common.{arith, ◌≡◌, ◌+◌, ◌<◌, ◌⊎◌, inl, inr, ℕ, List, [], ◌∷◌, true, ap, refl, sym, ◌∙◌}
use Rattle.buffa_bytes.specs.declared.error.DecodeError.{DecodeError}
use Rattle.buffa_bytes.specs.declared.error.DecodeError.TheVariants.{ElementMemoryLimitExceeded}
use Rattle.buffa_wire.specs.BudgetLeft.{BudgetLeft, Lacks}
use Rattle.buffa_bytes.specs.Scan.{ParsesEach}
use Rattle.buffa_map.specs.Codec.{AlwaysDeclared, Reading}
use Rattle.buffa_map.specs.Entry.{FaultOf, IsEntryField, MergesFields, RefusesFields}
use Rattle.buffa_map.specs.EntryReading.{blanks, charge_at, charge_of}
use Rattle.buffa_map.specs.EntryFieldsSpent.{ReadsParts, RefusesParts}
use Rattle.buffa_map.specs.declared.map_entry.MapEntry.{MapEntry}
use Rattle.buffa_map.proofs.ChargeLemmas.{lacks_after}

module _ {K V : Type 0} (key : Reading K) (val : Reading V) (d cost : ℕ) (e : List ℕ) (left : BudgetLeft) where
  pub no_units : (now : BudgetLeft) (f : DecodeError) → left.memory < cost → now ≡ left → f ≡ ElementMemoryLimitExceeded → RefusesParts key val d cost e left now f
  no_units now f few same which =
      let units = ap (λ (z : BudgetLeft). z.memory) same in
      let slots = ap (λ (z : BudgetLeft). z.unknown) same in
      record {
        fault = λ ne. inl (few, which);
        memory = λ out. cc;
        units = inl units;
        charged = λ room. absurd (omega (arith, room, few));
        most = omega (arith, slots);
        least = omega (arith, slots);
      }

  module _ (now : BudgetLeft) (charged : now.memory + cost ≡ left.memory) (slots : now.unknown ≡ left.unknown) where
    lacking : (f : DecodeError) → Lacks now (charge_at key val d (blanks key val d) e) ⊎ FaultOf key val d e f → Lacks left (charge_of key val d cost e) ⊎ FaultOf key val d e f
    lacking f (inl few) = inl (lacks_after key val d cost left now e charged slots few)
    lacking f (inr bad) = inr bad

    pub bad_fields : (over : BudgetLeft) (f : DecodeError) → RefusesFields key val d e now over f → RefusesParts key val d cost e left over f
    bad_fields over f h = record {
      fault = λ ne. inr (omega (arith, charged), lacking f (h.fault ne));
      memory = λ out. (omega (arith, charged), inl (h.full out));
      units = inr (omega (arith, charged, h.pays), omega (arith, charged, h.pays));
      charged = λ room. omega (arith, charged, h.pays);
      most = omega (arith, slots, h.pays);
      least = omega (arith, slots, h.pays);
    }

    pub all_read : (says : MapEntry K V) (over : BudgetLeft) → MergesFields key val d e now says over → ReadsParts key val d cost e left says over
    all_read says over h = record { entry = h.entry; pays = (omega (arith, slots, h.pays), omega (arith, charged, h.pays)) }

-- an entry is declared where each value is
module _ {K V : Type 0} (key : Reading K) (val : Reading V) (d : ℕ) (all : AlwaysDeclared val) where
  field_declared : (s : MapEntry K V) (f : List ℕ) (t : MapEntry K V) → s.known ≡ true → IsEntryField key val d s f t → t.known ≡ true
  field_declared s f t known (inl (k, same, field, is)) = rw is known
  field_declared s f t known (inr (inl (v, same, (head, payload, c, tag, room, has, reads, split), is))) = rw is (all d s.value c v same reads)
  field_declared s f t known (inr (inr (n, w, no_key, no_value, field, is))) = rw is known

  each_declared : (fs : List (List ℕ)) (s t : MapEntry K V) → s.known ≡ true → ParsesEach (IsEntryField key val d) s fs t → t.known ≡ true
  each_declared [] s t known same = ap (λ (z : MapEntry K V). z.known) (sym same) ∙ known
  each_declared (f ∷ fs) s t known (u, field, rest) = each_declared fs u t (field_declared s f u known field) rest

  pub entry_declared : {cost : ℕ} {e : List ℕ} {left : BudgetLeft} {says : MapEntry K V} {over : BudgetLeft} → ReadsParts key val d cost e left says over → says.known ≡ true
  entry_declared {says = says} h = each_declared h.entry.0 (blanks key val d) says refl h.entry.2
