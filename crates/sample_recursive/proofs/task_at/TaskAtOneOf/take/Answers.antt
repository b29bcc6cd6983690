use Rattle.std.proofs.Common.{rules, sym, ◌∙◌}
use Rattle.std.proofs.lemmas.Int.{to_z-of_z}
use Rattle.std.specs.Int.{w32}
use Rattle.buffa_fields.specs.Terms.{chosen}
use Rattle.sample_recursive.proofs.task_at.TaskAtOneOf.take.Goals as goal

pub returns-in_ok-it-in-6 : goal.returns-in_ok-it-in-6
returns-in_ok-it-in-6 c =
    let n = c.args.tag.number in
    let is = sym c.field_number.ensures ∙ c.in-6.is in
    let kept = to_z-of_z w32 c.in_ok-it-in-6.it (search rules) in
    chosen _ n 6 is (simp (c.replace.ensures.after, kept) c.in_ok-it-in-6.ensures.ok)
