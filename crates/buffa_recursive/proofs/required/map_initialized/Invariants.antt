use Rattle.std.proofs.Common.{◌≡◌, ◌≤◌}
use Rattle.std.specs.List.{AllByRecursion, list_all}
use Rattle.buffa_map.specs.Pairs.{means}
use Rattle.buffa_recursive.proofs.required.map_initialized.Given as goal

-- the messages that are left lack something where those of the map do, and are no higher
abbrev pub invariant-loop-message : goal.invariant-loop-message
invariant-loop-message g l =
    let o = g.M.SelfAsked.tree in
    (list_all (λ p. g.M.SelfAsked.asking.whole p.1) l.message-iterator ≡ list_all (λ p. g.M.SelfAsked.asking.whole p.1) l.map.entries)
    × AllByRecursion (λ p. o.height p.1 ≤ o.pairs_height (o.of_pairs (means g.K.Blank.meaning (λ m. m) l.map.entries))) l.message-iterator
