use Rattle.std.proofs.Common.{◌≡◌, ◌<◌, length, sym, ◌∙◌, arith}
use Rattle.std.proofs.lemmas.Grind.{common_steps}
use Rattle.buffa_codec.specs.PackedFacts.{numbers_shorten}
use Rattle.buffa_codec.specs.StrictFacts.{packed_end, packed_passes, packed_stops}
use Rattle.buffa_codec.proofs.strict.packed_fault.Goals as goal

pub loop-rest-smaller : goal.loop-rest-smaller
loop-rest-smaller g c = numbers_shorten g.F.Form.WIRE_TYPE c.loop-rest.rest.now _ _ c.in-Ok.ensures.reads

pub loop-rest-preserved : goal.loop-rest-preserved
loop-rest-preserved g c =
    let some : 0 < length c.loop-rest.rest.now = grind (arith, common_steps) in
    sym (packed_passes g.F.Form.WIRE_TYPE c.loop-rest.rest.now _ _ some c.in-Ok.ensures.reads) ∙ c.loop-rest.invariant

pub returns-in-Err : goal.returns-in-Err
returns-in-Err g c =
    let some : 0 < length c.loop-rest.rest.now = grind (arith, common_steps) in
    sym (packed_stops g.F.Form.WIRE_TYPE c.loop-rest.rest.now _ some c.in-Err.ensures.reads) ∙ c.loop-rest.invariant

pub returns : goal.returns
returns g c =
    let none : length c.loop-rest.rest.now ≡ 0 = grind (arith, common_steps) in
    sym (packed_end g.F.Form.WIRE_TYPE c.loop-rest.rest.now none) ∙ c.loop-rest.invariant
