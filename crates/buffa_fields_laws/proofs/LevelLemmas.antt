-- A message of members whose levels are exact has exact levels.
use Rattle.std.proofs.Common.{◌≡◌, ℕ, ◌<◌, ◌≤◌, true, Option, Some, None, refl, subst, arith}
use Rattle.std.specs.List.{AllByRecursion}
use Rattle.buffa_wire.specs.Encoding.{records_encoding}
use Rattle.buffa_wire.specs.Parse.{Fits}
use Rattle.buffa_wire.specs.ReadableFacts.{readable}
use Rattle.buffa_wire.specs.Records.{records_of}
use Rattle.buffa_wire.specs.Takes.{merged_of}
use Rattle.buffa_fields.specs.Schema.{Schema}
use Rattle.buffa_fields.specs.facts.LevelFacts.{back_holds, front_holds}
use Rattle.buffa_fields.specs.Levels.{AreExactLevels, IsTakenWritten}
use Rattle.buffa_recursive.specs.facts.WrittenAreTakenFacts.{height_low, of_any_number, taken_written}

module _ {M X : Type 0} (l : Schema M X) (owes : l.Owes) (exact : l.Exact) (sound : l.sound ≡ true) where
  low : (d : ℕ) (old v w : X) → Fits (records_of (l.records v)) → l.normal v → merged_of l.takes d old (records_encoding (l.records v)) ≡ Some w → l.levels v ≤ d
  low d old v w fits normal h =
      let all = taken_written l.takes d (l.records v) old w (readable (records_of (l.records v)) (l.valid owes sound v normal) fits) h in
      let parts = subst (λ z. AllByRecursion (IsTakenWritten l.takes d) z) (l.in_two v) all in
      let own = front_holds (IsTakenWritten l.takes d) (l.own v) (l.kept v) parts in
      let kept = back_holds (IsTakenWritten l.takes d) (l.own v) (l.kept v) parts in
      l.least owes exact sound d v normal (height_low l.takes d (l.kept v) kept) own (of_any_number l.takes d l.declares (l.kept v) kept)

  by_answer : (d : ℕ) (old v : X) → Fits (records_of (l.records v)) → l.normal v → d < l.levels v → (o : Option X) → merged_of l.takes d old (records_encoding (l.records v)) ≡ o → o ≡ None
  by_answer d old v fits normal less None is = refl
  by_answer d old v fits normal less (Some w) is = absurd (omega (arith, less, low d old v w fits normal is))

  pub exact_message : AreExactLevels (merged_of l.takes) (λ v. records_encoding (l.records v)) l.records l.normal l.levels
  exact_message d old v fits normal less = by_answer d old v fits normal less (merged_of l.takes d old (records_encoding (l.records v))) refl
