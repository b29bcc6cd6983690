-- What `rewrite N` answers means what it was given.
use Rattle.std.proofs.Common.{◌≡◌, inl, inr, ℕ, List, Result, Ok, Err, refl, ap, subst, arith}
use Rattle.std.specs.Prelude.{FitsSigned}
use Rattle.std.specs.Cmp.{eq_by_cmp_equiv}
use Rattle.std.specs.Int.{w32}
use Rattle.std.specs.Ordering.{int_eq}
use Rattle.std.proofs.lemmas.Cmp.{int_cmp_total}
use Rattle.buffa_bytes.specs.declared.error.DecodeError.{DecodeError}
use Rattle.buffa_wire.specs.BudgetLeft.{BudgetLeft, defaults}
use Rattle.buffa_wire.specs.Enums.{Numbers, Refines}
use Rattle.buffa_bytes.specs.Number.{IsNumber}
use Rattle.buffa_map.specs.Enums.{ClosedFits, closed_reading, closed_writing}
use Rattle.buffa_map_laws.specs.Laws.{OneReading, RewriteMeans, RunsAreRead}
use Rattle.buffa_map.specs.Rewrite.{IsRewrite, KeepsMeaning}
use Rattle.buffa_map.specs.Run.{Run}
use Rattle.buffamap.specs.Choice.{two_numbers}
use Rattle.buffa_map.specs.Scalars.{int32_reading, int32_writing}
use Rattle.buffamap.specs.Reply.{Reply, success, hex_line}
use Rattle.buffamap.specs.Rewrite.{Entry, IsRewritten, IsRewrittenOf, RewriteKeepsMeaning, choice_reading, choice_run}

module _ (n : ℕ) (means : RewriteMeans int32_reading int32_writing (FitsSigned w32)) (read : RunsAreRead int32_reading choice_reading) (one : OneReading int32_reading choice_reading) (number : IsNumber n)
    (f : Numbers) (finer : Refines two_numbers f) (bytes text : List ℕ) (es fs : List Entry)
    (run : Run int32_reading choice_reading 100 n bytes es) (newer : Run int32_reading (closed_reading f) 100 n bytes fs) where
  abbrev pub Kept : Type 0
  Kept = (out : List ℕ) × (gs : List Entry) × (text ≡ hex_line out) × Run int32_reading (closed_reading f) 100 n out gs × KeepsMeaning int_eq es fs gs

  kept_by : (r : Result (List Entry × BudgetLeft) DecodeError) → choice_run n bytes ≡ r → IsRewritten n r (success text) → Kept
  kept_by (Err e) is k = let other : ◌≡◌ {A = ℕ} 0 1 = ap (λ (x : Reply). x.status) k in absurd (omega (arith, other))
  kept_by (Ok r) is (inr k) = let other : ◌≡◌ {A = ℕ} 0 1 = ap (λ (x : Reply). x.status) k.1 in absurd (omega (arith, other))
  kept_by (Ok r) is (inl k) =
      let whole = (read.ok 100 n 8 1 defaults bytes r.0 r.1).0 is in
      let same : r.0 ≡ es = one.run 100 n bytes r.0 es whole.0 run in
      let rewrite : IsRewrite int_eq int32_writing closed_writing (FitsSigned w32) (ClosedFits two_numbers) n es k.0 = subst (λ z. IsRewrite int_eq int32_writing closed_writing (FitsSigned w32) (ClosedFits two_numbers) n z k.0) same k.1.0 in
      let m = means int_eq (eq_by_cmp_equiv int_cmp_total) two_numbers f refl finer 100 n bytes k.0 es fs number run newer rewrite in
      (k.0, m.0, ap (λ (x : Reply). x.text) k.2, m.1, m.2)

-- the reply to a run is read as a run of the same meaning
pub keeps_meaning : (n : ℕ) → RewriteMeans int32_reading int32_writing (FitsSigned w32) → RunsAreRead int32_reading choice_reading → OneReading int32_reading choice_reading → IsNumber n → RewriteKeepsMeaning n
keeps_meaning n means read one number f finer input bytes text digits reply es fs run newer =
    kept_by n means read one number f finer bytes text es fs run newer (choice_run n bytes) refl (subst (λ z. IsRewrittenOf n z (success text)) digits reply)
