use Rattle.std.proofs.Common.{refl, rules, ◌≡◌}
use Rattle.buffa_recursive.proofs.InitializedLemmas.{low_pairs}
use Rattle.buffa_recursive.proofs.required.map_initialized.Goals as goal

pub loop-message-init : goal.loop-message-init
loop-message-init g c =
    let is : c.into_iter-message-iterator.result ≡ c.args.map.now.entries = search rules in
    rw is (refl, low_pairs g.M.SelfAsked.tree g.K.Blank.meaning c.args.map.now.entries)
