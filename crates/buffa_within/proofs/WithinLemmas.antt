-- What a refused reading of the records of a number has spent.
use Rattle.std.proofs.Common.{◌≡◌, ℕ, ◌+◌, ◌<◌, Bool, List, [], ◌∷◌, ◌++◌, Option, Ok, sym, ◌∙◌, ap, take, drop, length, get_or, arith, subst}
use Rattle.std.proofs.lemmas.List.Elements.{filter_map-append}
use Rattle.buffa_wire.specs.BudgetLeft.{BudgetLeft, PaysAtMost, plus}
use Rattle.buffa_wire.specs.Records.{FieldData}
use Rattle.buffa_wire.specs.RecordsOfValues.{records_in, field_data_of}
use Rattle.buffa_wire.specs.declared.unknown_fields.UnknownField.{UnknownField}
use Rattle.buffa_codec.specs.RecordsOfNumber.{sub}
use Rattle.buffa_codec.proofs.TurnLemmas.{sub-cut}
use Rattle.buffa_ext.specs.Messages.{IsAllMerged, cost_all, encodings_in}
use Rattle.buffa_ext.specs.MessageFacts.{cost-append}

-- the records before one of the number are paid for, and at most its own cost is spent
pub most_here : {X : Type 0} (held : FieldData → Option (List ℕ)) (n : ℕ) (xs : List UnknownField) (i : ℕ) (x : UnknownField) (lt : i < length xs) (e : x ≡ get_or xs i x) (merged : X → List ℕ → Option X) (cost : List ℕ → BudgetLeft)
    (old mid : X) (b m a : BudgetLeft) (f : Bool) (all : List (ℕ × FieldData)) → x.number ≡ n → records_in xs ≡ all
    → IsAllMerged merged cost (encodings_in held (sub n (records_in (take i xs)))) old b (Ok f) mid m → PaysAtMost m (cost_all cost (encodings_in held (field_data_of x.payload ∷ []))) a
    → PaysAtMost b (cost_all cost (encodings_in held (sub n all))) a
most_here held n xs i x lt e merged cost old mid b m a f all same whole h k =
    let front = sub n (records_in (take i xs)) in
    let one = field_data_of x.payload ∷ [] in
    let back = sub n (records_in (drop (i + 1) xs)) in
    let costs : cost_all cost (encodings_in held (sub n all)) ≡ plus (cost_all cost (encodings_in held front)) (plus (cost_all cost (encodings_in held one)) (cost_all cost (encodings_in held back))) =
    ap (λ ds. cost_all cost (encodings_in held ds)) (ap (sub n) (sym whole) ∙ sub-cut n xs i x lt e same) ∙ ap (cost_all cost) (filter_map-append held front (one ++ back))
    ∙ cost-append merged cost (encodings_in held front) (encodings_in held (one ++ back))
    ∙ ap (plus (cost_all cost (encodings_in held front))) (ap (cost_all cost) (filter_map-append held one back) ∙ cost-append merged cost (encodings_in held one) (encodings_in held back)) in
    subst (λ c. PaysAtMost b c a) (sym costs) (omega (arith, h.2, k.0), omega (arith, h.2, k.0, k.1), omega (arith, h.2, k.0), omega (arith, h.2, k.0, k.1))
