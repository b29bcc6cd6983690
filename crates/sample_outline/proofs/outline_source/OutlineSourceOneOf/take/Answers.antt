use Rattle.std.proofs.Common.{rules, refl, sym, ap, ◌∙◌, ◌==◌}
use Rattle.std.proofs.lemmas.Int.{to_z-of_z}
use Rattle.std.specs.Int.{w32}
use Rattle.buffa_fields.specs.Terms.{chosen, not_here}
use Rattle.sample_outline.proofs.outline_source.OutlineSourceOneOf.take.Goals as goal

pub returns-in_ok-it-in-8 : goal.returns-in_ok-it-in-8
returns-in_ok-it-in-8 c =
    let n = c.args.tag.number in
    let is = sym c.field_number.ensures ∙ c.in-8.is in
    let kept = to_z-of_z w32 c.in_ok-it-in-8.it (search rules) in
    not_here _ (sym (ap (λ z. z == 7) is)) refl (chosen _ n 8 is (simp (c.replace-in-8.ensures.after, kept) c.in_ok-it-in-8.ensures.ok))
