use Rattle.std.proofs.Common.{◌∙◌, refl, sym}
use Rattle.buffa_fields.specs.UnknownsOfMembers.{TookWithUnknowns}
use Rattle.buffa_fields.specs.Schema.{AsksAsSaid, RefusesAsSaid, TakesAsSaid, TellsWrongType}
use Rattle.buffa_fields.specs.facts.SchemaFacts.{chosen, not_chosen}
use Rattle.sample_node.proofs.node.NodeRecursiveFields.take.Goals as goal

pub returns-in-1-clause-taken : goal.returns-in-1-clause-taken
unfolding AsksAsSaid RefusesAsSaid TakesAsSaid TellsWrongType
returns-in-1-clause-taken g c =
    let n = c.args.tag.number in
    let is = sym c.field_number.ensures ∙ c.in-1.is in
    rw (sym c.self.view_is) (chosen _ n 1 is ((c.merge.ensures.taken, c.merge.ensures.memory, c.merge.ensures.wrong_type, c.merge.ensures.refused), (refl, (refl, refl))))

pub returns-in-2-clause-taken : goal.returns-in-2-clause-taken
returns-in-2-clause-taken g c =
    let n = c.args.tag.number in
    let is = sym c.field_number.ensures ∙ c.in-2.is in
    rw (sym c.self.view_is) (not_chosen _ n 1 (λ e. let no = sym is ∙ e in cc) (refl, chosen _ n 2 is (c.take_map.ensures, (refl, refl))))

pub returns-in-3-clause-taken : goal.returns-in-3-clause-taken
unfolding TookWithUnknowns
returns-in-3-clause-taken g c =
    let n = c.args.tag.number in
    let is = sym c.field_number.ensures ∙ c.in-3.is in
    rw (sym c.self.view_is) (not_chosen _ n 1 (λ e. let no = sym is ∙ e in cc) (refl, not_chosen _ n 2 (λ e. let no = sym is ∙ e in cc) (refl, chosen _ n 3 is (c.merge_with_unknowns.ensures, tt))))
