use Rattle.std.proofs.Common.{◌∙◌, ◌+◌, ap, subst, sym}
use Rattle.std.specs.BTreeMap.{insert_entry}
use Rattle.std.specs.Prelude.{◌↔◌}
use Rattle.buffa_map.specs.Message.{message_reading}
use Rattle.buffa_fields_laws.proofs.OptionLemmas.{had_again}
use Rattle.buffa_fields.specs.MapFields.{PairTakesMemory, pair_cost, pair_taken}
use Rattle.buffa_fields.specs.Refusals.{RefusesPair}
use Rattle.buffa_recursive.specs.Fixpoint.{semantics}
use Rattle.buffa_recursive.specs.facts.FixpointFacts.{blank_is, each_is}
use Rattle.buffa_fields_laws.proofs.recursive_members.maps_inside_are_these.Goals as goal

pub returns-clause-takes : goal.returns-clause-takes
returns-clause-takes g c = λ d n w p v.
    let o = g.M.RecursiveType.schema in
    let t = semantics g.M.RecursiveType.COST o g.M.RecursiveType.sound in
    let key = g.KC.MapValueDecode.reading in
    let put = insert_entry g.KC.Value.OrderedKey.order in
    had_again o.of_pairs o.pairs_from o.pairs_again (pair_taken key (message_reading t.blank t.merged t.cost) put d (o.pairs_from v) n w p)
    ∙ ap (λ b. pair_taken key (message_reading b t.merged t.cost) put d (o.pairs_from v) n w p) (blank_is g.M.RecursiveType.COST o g.M.RecursiveType.sound ∙ sym g.met.M.RecursiveMeaning.starts)

pub returns-clause-asks : goal.returns-clause-asks
returns-clause-asks g c = λ d n w bs.
    let o = g.M.RecursiveType.schema in
    let t = semantics g.M.RecursiveType.COST o g.M.RecursiveType.sound in
    let key = g.KC.MapValueDecode.reading in
    subst (λ b. PairTakesMemory key (message_reading t.blank t.merged t.cost) d n w bs ↔ PairTakesMemory key (message_reading b t.merged t.cost) d n w bs)
    (blank_is g.M.RecursiveType.COST o g.M.RecursiveType.sound ∙ sym g.met.M.RecursiveMeaning.starts) ((λ h. h), (λ h. h))

pub returns-clause-refuses : goal.returns-clause-refuses
returns-clause-refuses g c = λ d v n w bs l e u.
    let o = g.M.RecursiveType.schema in
    let t = semantics g.M.RecursiveType.COST o g.M.RecursiveType.sound in
    let key = g.KC.MapValueDecode.reading in
    let units = g.KC.MapValueDecode.COST in
    subst (λ b. RefusesPair key (message_reading t.blank t.merged t.cost) (units + t.each) d (o.pairs_from v) n w bs l e (o.pairs_from u) ↔ RefusesPair key (message_reading b t.merged t.cost) (units + g.M.RecursiveType.COST) d (o.pairs_from v) n w bs l e (o.pairs_from u))
    (blank_is g.M.RecursiveType.COST o g.M.RecursiveType.sound ∙ sym g.met.M.RecursiveMeaning.starts)
    (subst (λ k. RefusesPair key (message_reading t.blank t.merged t.cost) (units + t.each) d (o.pairs_from v) n w bs l e (o.pairs_from u) ↔ RefusesPair key (message_reading t.blank t.merged t.cost) (units + k) d (o.pairs_from v) n w bs l e (o.pairs_from u))
    (each_is g.M.RecursiveType.COST o g.M.RecursiveType.sound) ((λ h. h), (λ h. h)))

pub returns-clause-charge : goal.returns-clause-charge
returns-clause-charge g c = λ d n w bs.
    let o = g.M.RecursiveType.schema in
    let t = semantics g.M.RecursiveType.COST o g.M.RecursiveType.sound in
    let key = g.KC.MapValueDecode.reading in
    let units = g.KC.MapValueDecode.COST in
    ap (λ k. pair_cost key (message_reading t.blank t.merged t.cost) (units + k) d n w bs) (each_is g.M.RecursiveType.COST o g.M.RecursiveType.sound)
    ∙ ap (λ b. pair_cost key (message_reading b t.merged t.cost) (units + g.M.RecursiveType.COST) d n w bs) (blank_is g.M.RecursiveType.COST o g.M.RecursiveType.sound ∙ sym g.met.M.RecursiveMeaning.starts)
