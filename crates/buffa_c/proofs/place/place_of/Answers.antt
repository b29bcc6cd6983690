use Rattle.std.proofs.Common.{rules, arith, subst}
use Rattle.buffa_locate.specs.Places.{IsPlace}
use Rattle.buffa_c.specs.Places.{LaysPath}
use Rattle.buffa_c.proofs.PlaceLemmas.{found_place, tells_place}
use Rattle.buffa_c.proofs.place.place_of.Goals as goal

pub returns-in-Ok-Some : goal.returns-in-Ok-Some
returns-in-Ok-Some g c =
    let is : IsPlace g.M.MessageSpec.merged g.M.MessageSpec.cost g.M.MessageSpec.Refused c.args.limits.depth g.M.Blank.blank_is c.args.bytes.now c.budget.result c.in-Ok-Some.found =
    found_place _ _ _ _ c.in-Ok-Some.field-0-is c.in-Ok-Some.ensures in
    tells_place g.M.MessageSpec.merged g.M.MessageSpec.cost g.M.MessageSpec.Refused g.M.Blank.blank_is c.args.limits c.args.bytes.now c.in-Ok-Some.found c.args.path.now c.lay.new.room c.fault_number.result c.len.result
    (subst (λ left. IsPlace g.M.MessageSpec.merged g.M.MessageSpec.cost g.M.MessageSpec.Refused c.args.limits.depth g.M.Blank.blank_is c.args.bytes.now left c.in-Ok-Some.found) c.budget.ensures is)
    (omega (arith, c.if-bytes-limits.false)) c.fault_number.ensures.number c.fault_number.ensures.positive c.fault_number.ensures.small c.fault_number.ensures.memory
    (subst (λ steps. LaysPath steps c.args.path.now c.lay.new.room) c.as_slice.ensures.value c.lay.ensures) (search rules)
