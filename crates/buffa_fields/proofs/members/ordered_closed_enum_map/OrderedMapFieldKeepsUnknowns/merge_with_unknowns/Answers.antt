use Rattle.buffa_fields.proofs.ClosedEnumMapLemmas.{when_refused}
use Rattle.buffa_fields.specs.UnknownsOfMembers.{TookWithUnknowns}
use Rattle.buffa_fields.proofs.members.ordered_closed_enum_map.OrderedMapFieldKeepsUnknowns.merge_with_unknowns.Goals as goal

pub returns : goal.returns
unfolding TookWithUnknowns
returns g c =
    let t = c.take_kept_ordered in
    (t.ensures.taken, t.ensures.full, t.ensures.wire, λ e is. (t.ensures.refused e is, when_refused t.result e t.ensures.stays is))
