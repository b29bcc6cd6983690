use Rattle.std.proofs.Common.{[], subst, sym}
use Rattle.buffa_fields.specs.Schema.{IsCounted}
use Rattle.buffa_fields.specs.facts.SchemaFacts.{counts_none, start}
use Rattle.buffa_recursive.proofs.MessagePassLemmas.{self_sized}
use Rattle.buffa_recursive.proofs.sizer.size_members.Goals as goal

pub returns : goal.returns
returns g c =
    let s = c.args.sizer.now in
    let name = s.cache.ghost_name in
    let first = s.cache.now in
    let z = start 0 [] name first in
    let new = c.visit.new.visitor in
    let k = self_sized g.M.RecursiveType.COST g.M.RecursiveType.schema g.M.RecursiveType.sound c.args.message.now 0 [] new.cache.ghost_name name first new.cache.now new.total
    (c.visit.ensures.seen z (subst (λ r. IsCounted name r first z) (sym c.requires.none) (counts_none 0 [] name first))) in
    record { same_reference = k.0; sized = k.1; always = k.2 }
