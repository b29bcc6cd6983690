use Rattle.std.proofs.Common.{◌∙◌, ap, sym}
use Rattle.buffa_wire.specs.Takes.{merged_of}
use Rattle.buffa_recursive.specs.facts.TakenByAnotherFacts.{merged_through}
use Rattle.buffa_recursive.specs.RecursiveSchema.{whole_takes}
use Rattle.buffa_recursive.specs.Fixpoint.{semantics, message_schema}
use Rattle.buffa_recursive.specs.facts.FixpointFacts.{cost_by_is, is_normal, levels_are, merged_by_is, normal_is, records_are, slots_are}
use Rattle.buffa_fields_laws.proofs.recursive_members.messages_that_hold_themselves_are_these.Goals as goal

pub returns-clause-merged : goal.returns-clause-merged
returns-clause-merged g c = λ d v b whole.
    let o = g.M.RecursiveType.schema in
    let t = semantics g.M.RecursiveType.COST o g.M.RecursiveType.sound in
    let l = message_schema g.M.RecursiveType.COST o g.M.RecursiveType.sound in
    merged_by_is g.M.RecursiveType.COST o g.M.RecursiveType.sound d v b
    ∙ ap (λ x. merged_of (whole_takes o t) d x b) (sym whole)
    ∙ merged_through o.into o.out o.again l.takes d (o.out v) b

pub returns-clause-cost : goal.returns-clause-cost
returns-clause-cost g c = cost_by_is g.M.RecursiveType.COST g.M.RecursiveType.schema g.M.RecursiveType.sound

pub returns-clause-records : goal.returns-clause-records
returns-clause-records g c = records_are g.M.RecursiveType.COST g.M.RecursiveType.schema g.M.RecursiveType.sound

pub returns-clause-slots : goal.returns-clause-slots
returns-clause-slots g c = slots_are g.M.RecursiveType.COST g.M.RecursiveType.schema g.M.RecursiveType.sound

pub returns-clause-levels : goal.returns-clause-levels
returns-clause-levels g c = levels_are g.M.RecursiveType.COST g.M.RecursiveType.schema g.M.RecursiveType.sound

pub returns-clause-normal : goal.returns-clause-normal
returns-clause-normal g c = λ v. (normal_is g.M.RecursiveType.COST g.M.RecursiveType.schema g.M.RecursiveType.sound v, is_normal g.M.RecursiveType.COST g.M.RecursiveType.schema g.M.RecursiveType.sound v)

pub returns-clause-sure : goal.returns-clause-sure
returns-clause-sure g c = λ v.
    let is = slots_are g.M.RecursiveType.COST g.M.RecursiveType.schema g.M.RecursiveType.sound v in
    ((λ none. sym is ∙ none), (λ none. is ∙ none))
