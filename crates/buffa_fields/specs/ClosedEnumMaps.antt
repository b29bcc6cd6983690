-- Map fields whose undeclared entries are put aside, whole: an entry of a map of closed enums whose value isn't declared is
-- kept, byte for byte, as a length-delimited record of the field's number, behind the records that the message keeps.
-- Source: the protobuf language guide, "Enumerations"; the protobuf encoding guide, "Maps".
use Rattle.std.specs.Prelude.{◌≡◌, ◌≢◌, ◌⊎◌, ℕ, zero, suc, ◌+◌, ◌≤◌, true, false, List, [], ◌++◌, length, cond, Result, Ok, Err, is_some, if◌then◌else◌}
use Rattle.buffa_bytes.specs.declared.error.DecodeError.{DecodeError}
use Rattle.buffa_bytes.specs.declared.error.DecodeError.TheVariants.{OutOfMemory}
use Rattle.buffa_bytes.specs.declared.wire_type.WireType.TheVariants.{LengthDelimited}
use Rattle.buffa_bytes.specs.Readings.{check_wire, delimited_at}
use Rattle.buffa_bytes.specs.declared.tag.Tag.{Tag}
use Rattle.buffa_wire.specs.declared.context.DecodeContext.{DecodeContext}
use Rattle.buffa_fields.specs.ContextAfter.{ContextAfter}
use Rattle.buffa_map.specs.Pairs.{means}
use denote.Ref.{Bor}
use Rattle.buffa_wire.specs.BudgetLeft.{BudgetLeft, budget_left, nothing, plus, unknown_fields}
use Rattle.buffa_wire.specs.Message.{FieldRefused}
use Rattle.buffa_wire.specs.ByField.{value_of}
use Rattle.buffa_wire.specs.Records.{FieldData, bytes}
use Rattle.buffa_wire.specs.Takes.{Asks, IsTaken, Charge, Taker}
use Rattle.buffa_map.specs.Codec.{Reading}
use Rattle.buffa_map.specs.Entry.{EntryFault, IsEntry, EntryFieldsTakeMemory}
use Rattle.buffa_map.specs.EntryReading.{entry_of, charge_of}
use Rattle.buffa_map.specs.Run.{undeclared_record}
use Rattle.buffa_map.specs.declared.map_entry.MapEntry.{MapEntry}
use Rattle.buffa_fields.specs.UnknownsOfMembers.{Kept}
use Rattle.buffa_fields.specs.EntriesTaken.{entry_cost, entry_taken}
use Rattle.buffa_fields.specs.MapFields.{stepped}

module _ {K V : Type 0} (key : Reading K) (val : Reading V) where
  -- ---- what is read

  -- the pair of a declared entry is put; of one that isn't the bytes go behind what is kept
  abbrev pub put_or_keep : (List (K × V) → K → V → List (K × V)) → ℕ → List (K × V) × Kept → List ℕ → MapEntry K V → List (K × V) × Kept
  put_or_keep puts n x e s = (stepped puts x.0 s, x.1 ++ undeclared_record n e s.known)

  abbrev pub kept_pair_taken : (List (K × V) → K → V → List (K × V)) → Taker (List (K × V) × Kept)
  kept_pair_taken puts d x n w p = entry_taken key val (put_or_keep puts n) d x n w p

  -- one that is kept costs an unknown field, beside what each entry does
  abbrev pub kept_entry_cost : Result (MapEntry K V) DecodeError → BudgetLeft
  kept_entry_cost (Ok s) = unknown_fields (cond s.known 0 1)
  kept_entry_cost (Err e) = nothing

  abbrev pub put_or_keep_cost : ℕ → ℕ → List ℕ → BudgetLeft
  put_or_keep_cost cost d e = plus (charge_of key val d cost e) (kept_entry_cost (entry_of key val d e))

  abbrev pub kept_pair_cost : ℕ → Charge
  kept_pair_cost cost = entry_cost (put_or_keep_cost cost)

  -- With so many unknown fields left, one takes memory where a length and so many bytes are there, and these may be copied to be
  -- kept; or a field in them takes memory, or they are an entry, which is put, or is kept where an unknown field is left for it.
  abbrev pub KeptPairTakesMemory : ℕ → ℕ → Asks
  KeptPairTakesMemory cost left d n w bs =
      (w ≡ LengthDelimited) × (e : List ℕ) × (rest : List ℕ) × (delimited_at bs ≡ Ok (e, rest))
      × (((val.undeclared ≡ true) × (e ≢ []))
      ⊎ (EntryFieldsTakeMemory key val d e
      ⊎ ((s : MapEntry K V) × IsEntry key val d e s × ((s.known ≡ true) ⊎ ((charge_of key val d cost e).unknown + 1 ≤ left)))))

  -- A refused entry isn't put: the pairs are as they were. Unless memory ran out, the wire type is told, or the fault that the entry
  -- has under this budget, where an undeclared one takes an unknown field.
  abbrev pub RefusesKeptPair : ℕ → FieldRefused (List (K × V))
  RefusesKeptPair cost d old n w bs left e new =
      (old ≡ new)
      × (e ≢ OutOfMemory → (check_wire n LengthDelimited w ≡ Err e) ⊎ ((w ≡ LengthDelimited) × EntryFault key val d cost 1 left bs e))

  -- ---- what may stand among the records that are kept

  -- e is an entry, where groups nest so deep, whose value is undeclared
  abbrev pub IsUndeclaredAt : ℕ → List ℕ → Type 0
  IsUndeclaredAt d e = (s : MapEntry K V) × IsEntry key val d e s × (s.known ≡ false)

  -- the first of so many depths, from d on, at which e is an entry; or the one behind them
  abbrev pub first_entry_depth : ℕ → ℕ → List ℕ → ℕ
  first_entry_depth zero d e = d
  first_entry_depth (suc k) d e = if is_some (value_of (entry_of key val d e)) then d else first_entry_depth k (suc d) e

  -- how deep groups nest in an entry: the least depth at which it is one; a level of them has a byte at least
  abbrev pub entry_depth : List ℕ → ℕ
  entry_depth e = first_entry_depth (length e) 0 e

  abbrev pub unknown_entry_levels : FieldData → ℕ
  unknown_entry_levels (bytes e) = entry_depth e
  unknown_entry_levels x = 0

  -- the bytes of an entry that isn't known, wherever it is one
  abbrev pub IsUnknownEntry : FieldData → Type 0
  IsUnknownEntry x = (e : List ℕ) × (x ≡ bytes e) × ((d : ℕ) → entry_depth e ≤ d → IsUndeclaredAt d e)

-- ---- a call that took the field whose tag was read: a map put its entry, or it went behind these records; where keys and values
-- mean so, pairs are put so, and a pair costs so many units
abbrev pub TakesKeptEntry : {A B D T K V : Type 0} → Tag → DecodeContext → ContextAfter D → List (A × B) → Kept → List (A × B) → Kept → Bor (List ℕ) → Bor (List ℕ) → Result T DecodeError → (A → K) → (B → V) → Reading K → Reading V →
    (List (K × V) → K → V → List (K × V)) → ℕ → Type 0
TakesKeptEntry tag ctx left old kept new keeps before after r key_means val_means key val puts cost =
    IsTaken (kept_pair_taken key val puts) (kept_pair_cost key val cost) ctx.depth (means key_means val_means old, kept) tag.number tag.wire_type before.now ctx.budget.now r (means key_means val_means new, keeps) (budget_left left) after.now
