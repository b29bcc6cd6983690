-- One turn of a strict reading of messages.
use Rattle.std.proofs.Common.{◌≡◌, ℕ, ◌+◌, ◌<◌, Bool, true, false, List, ◌||◌, Option, Ok, refl, sym, ap, ◌∙◌, take, drop, length, get_or}
use Rattle.buffa_bytes.specs.declared.wire_type.WireType.{WireType}
use Rattle.buffa_wire.specs.BudgetLeft.{BudgetLeft}
use Rattle.buffa_wire.specs.Records.{FieldData}
use Rattle.buffa_wire.specs.RecordsOfValues.{records_in, field_data_of}
use Rattle.buffa_wire.specs.declared.unknown_fields.UnknownField.{UnknownField}
use Rattle.buffa_codec.specs.Strict.{Faultless}
use Rattle.buffa_codec.specs.RecordsOfNumber.{sub}
use Rattle.buffa_codec.proofs.TurnLemmas.{sub-cut}
use Rattle.buffa_ext.specs.Messages.{IsAllMerged, encodings_in}
use Rattle.buffa_ext.specs.Strict.{ReachesStrictly, kind_fault}

pub or_true : (f : Bool) → (f || true) ≡ true
or_true true = refl
or_true false = refl

-- a record of the number is reached, and such is true of it
pub reaches_here : {X : Type 0} (held : FieldData → Option (List ℕ)) (k : ℕ) (xs : List UnknownField) (i : ℕ) (x : UnknownField) (lt : i < length xs) (e : x ≡ get_or xs i x) (merged : X → List ℕ → Option X) (cost : List ℕ → BudgetLeft) (w : WireType)
    (P : FieldData → X → BudgetLeft → Type 0) (old mid : X) (b m : BudgetLeft) (f : Bool) (all : List (ℕ × FieldData)) → x.number ≡ k → records_in xs ≡ all
    → Faultless (kind_fault held w k) (sub k (records_in (take i xs))) → IsAllMerged merged cost (encodings_in held (sub k (records_in (take i xs)))) old b (Ok f) mid m → P (field_data_of x.payload) mid m
    → ReachesStrictly merged cost held w k P old b (sub k all)
reaches_here held k xs i x lt e merged cost w P old mid b m f all same whole kinds h p =
    (sub k (records_in (take i xs)), field_data_of x.payload, sub k (records_in (drop (i + 1) xs)), mid, m, ap (sub k) (sym whole) ∙ sub-cut k xs i x lt e same, kinds, (h.1, h.2), p)
