use Rattle.buffa_ext_laws.proofs.JoinLemmas.{list_splits, list_joins}
use Rattle.buffa_ext_laws.proofs.codecs.lists_join.Goals as goal

pub returns : goal.returns
returns g c = λ s r out.
    let t = g.C.SingularCodec in
    let l = g.met.C.LastWins in
    (list_splits (t.one 100) (t.leaves 100) t.packed l.free s r out, list_joins (t.one 100) (t.leaves 100) t.packed l.free s r out)
