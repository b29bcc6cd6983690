use Rattle.std.proofs.Common.{refl, sym, ◌∙◌}
use Rattle.buffa_codec.specs.Decoded.{last_read}
use Rattle.buffa_wire.specs.BudgetLeft.{defaults}
use Rattle.buffa_ext_laws.proofs.CodecPinLemmas.{lists_alike, lists_there}
use Rattle.buffa_ext_laws.proofs.codecs.answers_are_pinned.Goals as goal

pub returns-clause-one : goal.returns-clause-one
returns-clause-one g c = λ ds a b h k. h ∙ sym k

pub returns-clause-there : goal.returns-clause-there
returns-clause-there g c = λ ds. (last_read (g.C.SingularCodec.one 100 defaults) ds, refl)

pub returns-clause-lists : goal.returns-clause-lists
returns-clause-lists g c = let t = g.C.SingularCodec in lists_alike (t.one 100) (t.leaves 100) t.packed g.met.C.LastWins.free

pub returns-clause-lists_there : goal.returns-clause-lists_there
returns-clause-lists_there g c =
    let t = g.C.SingularCodec in
    let l = g.met.C.LastWins in
    lists_there (t.one 100) (t.leaves 100) t.packed l.free l.made

pub returns-clause-packed : goal.returns-clause-packed
returns-clause-packed g c = let t = g.P.SingularCodec in lists_alike (t.one 100) (t.leaves 100) t.packed g.met.P.LastWins.free

pub returns-clause-packed_there : goal.returns-clause-packed_there
returns-clause-packed_there g c =
    let t = g.P.SingularCodec in
    let l = g.met.P.LastWins in
    lists_there (t.one 100) (t.leaves 100) t.packed l.free l.made
