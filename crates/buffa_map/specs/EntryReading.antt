-- What the bytes of an entry are read as, and what they cost: the same as the relations of `Entry` say, by functions. The laws
-- `entries_are_read` and `values_are_read` say that the two agree.
use Rattle.std.specs.Prelude.{ℕ, ◌==◌, Bool, true, List, if◌then◌else◌, Result, Ok}
use Rattle.buffa_bytes.specs.Readings.{tag_at, check_wire, skip_at, delimited_at, ◌>>=◌, same_wire}
use Rattle.buffa_bytes.specs.Scan.{scan, parse_all}
use Rattle.buffa_bytes.specs.declared.wire_type.WireType.{WireType}
use Rattle.buffa_bytes.specs.declared.error.DecodeError.{DecodeError}
use Rattle.buffa_wire.specs.BudgetLeft.{BudgetLeft, charge_by, nothing, plus, units, costs}
use Rattle.buffa_map.specs.Codec.{Reading, value_at, value_charge}
use Rattle.buffa_map.specs.declared.map_entry.MapEntry.{MapEntry}

-- what the codec makes of the payload at the front, in a field of number n and wire type w, or its fault
abbrev pub codec_at : {V : Type 0} → Reading V → ℕ → ℕ → V → WireType → List ℕ → Result ((V × Bool) × List ℕ) DecodeError
codec_at codec d n old w bs = check_wire n codec.wire w >>= (λ _. value_at codec d old bs)

-- what the payload at the front costs, in a field of wire type w
abbrev pub codec_charge : {V : Type 0} → Reading V → ℕ → WireType → List ℕ → BudgetLeft
codec_charge codec d w bs = if same_wire codec.wire w then value_charge codec d bs else nothing

module _ {K V : Type 0} (key : Reading K) (val : Reading V) (d : ℕ) where
  -- what an entry with no field says: the blanks
  abbrev pub blanks : MapEntry K V
  blanks = record { key = key.blank; value = val.blank; known = true }

  -- what the field at the front is read as, where s was said
  abbrev pub entry_field_at : MapEntry K V → List ℕ → Result (MapEntry K V × List ℕ) DecodeError
  entry_field_at s bs = do
    t ← tag_at bs
    if t.0 == 1 then (codec_at key d 1 s.key t.1 t.2 >>= (λ v. Ok (record s { key = v.0.0 }, v.1)))
        else (if t.0 == 2 then (codec_at val d 2 s.value t.1 t.2 >>= (λ v. Ok (record s { value = v.0.0; known = v.0.1 }, v.1)))
        else (skip_at d t.0 t.1 t.2 >>= (λ rest. Ok (s, rest))))

  -- what a whole entry is read as
  abbrev pub entry_of : List ℕ → Result (MapEntry K V) DecodeError
  entry_of e = parse_all entry_field_at blanks e

  -- what the field at the front costs, if it is one of the key's or the value's
  abbrev pub field_charge : List ℕ → BudgetLeft
  field_charge bs = charge_by (tag_at bs) (λ t.
      if t.0 == 1 then codec_charge key d t.1 t.2 else (if t.0 == 2 then codec_charge val d t.1 t.2 else nothing))

  -- what fields cost, where s was said, up to the first that isn't merged, which counts too
  unfoldable pub charge_at : MapEntry K V → List ℕ → BudgetLeft
  charge_at s bs = scan (λ t rest. costs (field_charge rest) (entry_field_at t rest)) nothing s bs

  -- What an entry needs, a malformed one too: so many units, and what the messages cost that are merged in it, or refused.
  abbrev pub charge_of : ℕ → List ℕ → BudgetLeft
  charge_of cost e = plus (units cost) (charge_at blanks e)

  -- what the length and the entry at the front need beyond the units, if they are there
  abbrev pub inner_charge : List ℕ → BudgetLeft
  inner_charge bs = charge_by (delimited_at bs) (λ e. charge_at blanks e.0)
