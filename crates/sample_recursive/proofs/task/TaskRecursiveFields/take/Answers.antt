use Rattle.std.proofs.Common.{false, refl, sym, true, ◌==◌, ◌||◌, ◌∙◌, ◌≡◌}
use Rattle.buffa_fields.specs.Terms.{AsksAsSaid, RefusesAsSaid, TakesAsSaid, TellsWrongType, chosen, not_chosen}
use Rattle.sample_recursive.proofs.task.TaskRecursiveFields.take.Goals as goal

pub returns-in-1-clause-taken : goal.returns-in-1-clause-taken
unfolding AsksAsSaid RefusesAsSaid TakesAsSaid TellsWrongType
returns-in-1-clause-taken g c =
    let n = c.args.tag.number in
    let is = sym c.field_number.ensures ∙ c.in-1.is in
    rw (sym c.self.view_is) (chosen _ n 1 is ((c.merge.ensures.taken, c.merge.ensures.memory, c.merge.ensures.wrong_type, c.merge.ensures.refused), (refl, (refl, (refl, (refl, (refl, refl)))))))

pub returns-in-2-clause-taken : goal.returns-in-2-clause-taken
returns-in-2-clause-taken g c =
    let n = c.args.tag.number in
    let is = sym c.field_number.ensures ∙ c.in-2.is in
    rw (sym c.self.view_is) (not_chosen _ n 1 (λ e. let no = sym is ∙ e in cc) (refl, chosen _ n 2 is (c.take_list.ensures, (refl, (refl, (refl, (refl, refl)))))))

pub returns-in-3-clause-taken : goal.returns-in-3-clause-taken
returns-in-3-clause-taken g c =
    let n = c.args.tag.number in
    let is = sym c.field_number.ensures ∙ c.in-3.is in
    rw (sym c.self.view_is) (not_chosen _ n 1 (λ e. let no = sym is ∙ e in cc) (refl, not_chosen _ n 2 (λ e. let no = sym is ∙ e in cc) (refl, chosen _ n 3 is (c.take_one.ensures, (refl, (refl, (refl, refl)))))))

pub returns-in-4-clause-taken : goal.returns-in-4-clause-taken
returns-in-4-clause-taken g c =
    let n = c.args.tag.number in
    let is = sym c.field_number.ensures ∙ c.in-4.is in
    rw (sym c.self.view_is) (not_chosen _ n 1 (λ e. let no = sym is ∙ e in cc) (refl, not_chosen _ n 2 (λ e. let no = sym is ∙ e in cc) (refl, not_chosen _ n 3 (λ e. let no = sym is ∙ e in cc) (refl, chosen _ n 4 is (c.take_map.ensures, (refl, (refl, refl)))))))

pub returns-in-5-clause-taken : goal.returns-in-5-clause-taken
unfolding AsksAsSaid RefusesAsSaid TakesAsSaid TellsWrongType
returns-in-5-clause-taken g c =
    let n = c.args.tag.number in
    let is = sym c.field_number.ensures ∙ c.in-5.is in
    rw (sym c.self.view_is) (not_chosen _ n 1 (λ e. let no = sym is ∙ e in cc) (refl, not_chosen _ n 2 (λ e. let no = sym is ∙ e in cc) (refl, not_chosen _ n 3 (λ e. let no = sym is ∙ e in cc) (refl, not_chosen _ n 4 (λ e. let no = sym is ∙ e in cc) (refl, chosen _ n 5 is ((c.merge-in-5.ensures.taken, c.merge-in-5.ensures.memory, c.merge-in-5.ensures.wrong_type, c.merge-in-5.ensures.refused), (refl, refl)))))))

pub returns-in-6-clause-taken : goal.returns-in-6-clause-taken
returns-in-6-clause-taken g c =
    let n = c.args.tag.number in
    let is = sym c.field_number.ensures ∙ c.in-6.is in
    let mine : (n == 6 || (n == 7 || false)) ≡ true = rw is refl in
    rw (sym c.self.view_is) (not_chosen _ n 1 (λ e. let no = sym is ∙ e in cc) (refl, not_chosen _ n 2 (λ e. let no = sym is ∙ e in cc) (refl, not_chosen _ n 3 (λ e. let no = sym is ∙ e in cc) (refl, not_chosen _ n 4 (λ e. let no = sym is ∙ e in cc) (refl, not_chosen _ n 5 (λ e. let no = sym is ∙ e in cc) (refl, rw mine (c.take_one_of.ensures, refl)))))))

pub returns-in-7-clause-taken : goal.returns-in-7-clause-taken
returns-in-7-clause-taken g c =
    let n = c.args.tag.number in
    let is = sym c.field_number.ensures ∙ c.in-7.is in
    let mine : (n == 6 || (n == 7 || false)) ≡ true = rw is refl in
    rw (sym c.self.view_is) (not_chosen _ n 1 (λ e. let no = sym is ∙ e in cc) (refl, not_chosen _ n 2 (λ e. let no = sym is ∙ e in cc) (refl, not_chosen _ n 3 (λ e. let no = sym is ∙ e in cc) (refl, not_chosen _ n 4 (λ e. let no = sym is ∙ e in cc) (refl, not_chosen _ n 5 (λ e. let no = sym is ∙ e in cc) (refl, rw mine (c.take_one_of-in-7.ensures, refl)))))))
