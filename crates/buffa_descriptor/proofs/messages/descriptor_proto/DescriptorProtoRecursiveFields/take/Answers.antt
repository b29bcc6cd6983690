use Rattle.std.proofs.Common.{refl, sym, ◌∙◌}
use Rattle.buffa_fields.specs.Terms.{AsksAsSaid, RefusesAsSaid, TakesAsSaid, TellsWrongType, chosen, not_chosen}
use Rattle.buffa_descriptor.proofs.messages.descriptor_proto.DescriptorProtoRecursiveFields.take.Goals as goal

pub returns-in-1-clause-taken : goal.returns-in-1-clause-taken
unfolding AsksAsSaid RefusesAsSaid TakesAsSaid TellsWrongType
returns-in-1-clause-taken g c =
    let n = c.args.tag.number in
    let is = sym c.field_number.ensures ∙ c.in-1.is in
    rw (sym c.self.view_is) (chosen _ n 1 is ((c.merge.ensures.taken, c.merge.ensures.memory, c.merge.ensures.wrong_type, c.merge.ensures.refused), (refl, (refl, (refl, (refl, (refl, (refl, (refl, (refl, (refl, refl)))))))))))

pub returns-in-2-clause-taken : goal.returns-in-2-clause-taken
unfolding AsksAsSaid RefusesAsSaid TakesAsSaid TellsWrongType
returns-in-2-clause-taken g c =
    let n = c.args.tag.number in
    let is = sym c.field_number.ensures ∙ c.in-2.is in
    rw (sym c.self.view_is) (not_chosen _ n 1 (λ e. let no = sym is ∙ e in cc) (refl, chosen _ n 2 is ((c.merge-in-2.ensures.taken, c.merge-in-2.ensures.memory, c.merge-in-2.ensures.wrong_type, c.merge-in-2.ensures.refused), (refl, (refl, (refl, (refl, (refl, (refl, (refl, (refl, refl)))))))))))

pub returns-in-3-clause-taken : goal.returns-in-3-clause-taken
returns-in-3-clause-taken g c =
    let n = c.args.tag.number in
    let is = sym c.field_number.ensures ∙ c.in-3.is in
    rw (sym c.self.view_is) (not_chosen _ n 1 (λ e. let no = sym is ∙ e in cc) (refl, not_chosen _ n 2 (λ e. let no = sym is ∙ e in cc) (refl, chosen _ n 3 is (c.take_list.ensures, (refl, (refl, (refl, (refl, (refl, (refl, (refl, refl)))))))))))

pub returns-in-4-clause-taken : goal.returns-in-4-clause-taken
unfolding AsksAsSaid RefusesAsSaid TakesAsSaid TellsWrongType
returns-in-4-clause-taken g c =
    let n = c.args.tag.number in
    let is = sym c.field_number.ensures ∙ c.in-4.is in
    rw (sym c.self.view_is) (not_chosen _ n 1 (λ e. let no = sym is ∙ e in cc) (refl, not_chosen _ n 2 (λ e. let no = sym is ∙ e in cc) (refl, not_chosen _ n 3 (λ e. let no = sym is ∙ e in cc) (refl, chosen _ n 4 is ((c.merge-in-4.ensures.taken, c.merge-in-4.ensures.memory, c.merge-in-4.ensures.wrong_type, c.merge-in-4.ensures.refused), (refl, (refl, (refl, (refl, (refl, (refl, refl)))))))))))

pub returns-in-5-clause-taken : goal.returns-in-5-clause-taken
unfolding AsksAsSaid RefusesAsSaid TakesAsSaid TellsWrongType
returns-in-5-clause-taken g c =
    let n = c.args.tag.number in
    let is = sym c.field_number.ensures ∙ c.in-5.is in
    rw (sym c.self.view_is) (not_chosen _ n 1 (λ e. let no = sym is ∙ e in cc) (refl, not_chosen _ n 2 (λ e. let no = sym is ∙ e in cc) (refl, not_chosen _ n 3 (λ e. let no = sym is ∙ e in cc) (refl, not_chosen _ n 4 (λ e. let no = sym is ∙ e in cc) (refl, chosen _ n 5 is ((c.merge-in-5.ensures.taken, c.merge-in-5.ensures.memory, c.merge-in-5.ensures.wrong_type, c.merge-in-5.ensures.refused), (refl, (refl, (refl, (refl, (refl, refl)))))))))))

pub returns-in-6-clause-taken : goal.returns-in-6-clause-taken
unfolding AsksAsSaid RefusesAsSaid TakesAsSaid TellsWrongType
returns-in-6-clause-taken g c =
    let n = c.args.tag.number in
    let is = sym c.field_number.ensures ∙ c.in-6.is in
    rw (sym c.self.view_is) (not_chosen _ n 1 (λ e. let no = sym is ∙ e in cc) (refl, not_chosen _ n 2 (λ e. let no = sym is ∙ e in cc) (refl, not_chosen _ n 3 (λ e. let no = sym is ∙ e in cc) (refl, not_chosen _ n 4 (λ e. let no = sym is ∙ e in cc) (refl, not_chosen _ n 5 (λ e. let no = sym is ∙ e in cc) (refl, chosen _ n 6 is ((c.merge-in-6.ensures.taken, c.merge-in-6.ensures.memory, c.merge-in-6.ensures.wrong_type, c.merge-in-6.ensures.refused), (refl, (refl, (refl, (refl, refl)))))))))))

pub returns-in-7-clause-taken : goal.returns-in-7-clause-taken
unfolding AsksAsSaid RefusesAsSaid TakesAsSaid TellsWrongType
returns-in-7-clause-taken g c =
    let n = c.args.tag.number in
    let is = sym c.field_number.ensures ∙ c.in-7.is in
    rw (sym c.self.view_is) (not_chosen _ n 1 (λ e. let no = sym is ∙ e in cc) (refl, not_chosen _ n 2 (λ e. let no = sym is ∙ e in cc) (refl, not_chosen _ n 3 (λ e. let no = sym is ∙ e in cc) (refl, not_chosen _ n 4 (λ e. let no = sym is ∙ e in cc) (refl, not_chosen _ n 5 (λ e. let no = sym is ∙ e in cc) (refl, not_chosen _ n 6 (λ e. let no = sym is ∙ e in cc) (refl, chosen _ n 7 is ((c.merge-in-7.ensures.taken, c.merge-in-7.ensures.memory, c.merge-in-7.ensures.wrong_type, c.merge-in-7.ensures.refused), (refl, (refl, (refl, refl)))))))))))

pub returns-in-8-clause-taken : goal.returns-in-8-clause-taken
unfolding AsksAsSaid RefusesAsSaid TakesAsSaid TellsWrongType
returns-in-8-clause-taken g c =
    let n = c.args.tag.number in
    let is = sym c.field_number.ensures ∙ c.in-8.is in
    rw (sym c.self.view_is) (not_chosen _ n 1 (λ e. let no = sym is ∙ e in cc) (refl, not_chosen _ n 2 (λ e. let no = sym is ∙ e in cc) (refl, not_chosen _ n 3 (λ e. let no = sym is ∙ e in cc) (refl, not_chosen _ n 4 (λ e. let no = sym is ∙ e in cc) (refl, not_chosen _ n 5 (λ e. let no = sym is ∙ e in cc) (refl, not_chosen _ n 6 (λ e. let no = sym is ∙ e in cc) (refl, not_chosen _ n 7 (λ e. let no = sym is ∙ e in cc) (refl, chosen _ n 8 is ((c.merge-in-8.ensures.taken, c.merge-in-8.ensures.memory, c.merge-in-8.ensures.wrong_type, c.merge-in-8.ensures.refused), (refl, (refl, refl)))))))))))

pub returns-in-9-clause-taken : goal.returns-in-9-clause-taken
unfolding AsksAsSaid RefusesAsSaid TakesAsSaid TellsWrongType
returns-in-9-clause-taken g c =
    let n = c.args.tag.number in
    let is = sym c.field_number.ensures ∙ c.in-9.is in
    rw (sym c.self.view_is) (not_chosen _ n 1 (λ e. let no = sym is ∙ e in cc) (refl, not_chosen _ n 2 (λ e. let no = sym is ∙ e in cc) (refl, not_chosen _ n 3 (λ e. let no = sym is ∙ e in cc) (refl, not_chosen _ n 4 (λ e. let no = sym is ∙ e in cc) (refl, not_chosen _ n 5 (λ e. let no = sym is ∙ e in cc) (refl, not_chosen _ n 6 (λ e. let no = sym is ∙ e in cc) (refl, not_chosen _ n 7 (λ e. let no = sym is ∙ e in cc) (refl, not_chosen _ n 8 (λ e. let no = sym is ∙ e in cc) (refl, chosen _ n 9 is ((c.merge-in-9.ensures.taken, c.merge-in-9.ensures.memory, c.merge-in-9.ensures.wrong_type, c.merge-in-9.ensures.refused), (refl, refl)))))))))))

pub returns-in-10-clause-taken : goal.returns-in-10-clause-taken
unfolding AsksAsSaid RefusesAsSaid TakesAsSaid TellsWrongType
returns-in-10-clause-taken g c =
    let n = c.args.tag.number in
    let is = sym c.field_number.ensures ∙ c.in-10.is in
    rw (sym c.self.view_is) (not_chosen _ n 1 (λ e. let no = sym is ∙ e in cc) (refl, not_chosen _ n 2 (λ e. let no = sym is ∙ e in cc) (refl, not_chosen _ n 3 (λ e. let no = sym is ∙ e in cc) (refl, not_chosen _ n 4 (λ e. let no = sym is ∙ e in cc) (refl, not_chosen _ n 5 (λ e. let no = sym is ∙ e in cc) (refl, not_chosen _ n 6 (λ e. let no = sym is ∙ e in cc) (refl, not_chosen _ n 7 (λ e. let no = sym is ∙ e in cc) (refl, not_chosen _ n 8 (λ e. let no = sym is ∙ e in cc) (refl, not_chosen _ n 9 (λ e. let no = sym is ∙ e in cc) (refl, chosen _ n 10 is ((c.merge-in-10.ensures.taken, c.merge-in-10.ensures.memory, c.merge-in-10.ensures.wrong_type, c.merge-in-10.ensures.refused), refl)))))))))))
