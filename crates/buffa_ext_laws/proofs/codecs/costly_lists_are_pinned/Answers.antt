use Rattle.buffa_ext_laws.proofs.CodecPinLemmas.{begins_alike, leaves_one, one_list}
use Rattle.buffa_ext_laws.proofs.codecs.costly_lists_are_pinned.Goals as goal

pub returns-clause-leaves : goal.returns-clause-leaves
returns-clause-leaves g c = let t = g.C.SingularCodec in leaves_one (t.one 100) (t.leaves 100) t.packed t.cost g.met.C.SingularCodec.spends_cost

pub returns-clause-begins : goal.returns-clause-begins
returns-clause-begins g c = let t = g.C.SingularCodec in begins_alike (t.one 100) (t.leaves 100) t.packed t.cost g.met.C.SingularCodec.spends_cost

pub returns-clause-whole : goal.returns-clause-whole
returns-clause-whole g c = let t = g.C.SingularCodec in one_list (t.one 100) (t.leaves 100) t.packed t.cost g.met.C.SingularCodec.spends_cost
