use Rattle.std.proofs.Common.{sym}
use Rattle.sample_node.proofs.NodeWrittenLemmas.{encoding_same, slots_same}
use Rattle.sample_node.proofs.node.write_node.Goals as goal

pub write_to-requires : goal.write_to-requires
write_to-requires g c = rw (slots_same c.args.node.now) c.requires

pub returns : goal.returns
returns g c = let t = c.args.node.now in rw (sym (encoding_same t), sym (slots_same t)) c.write_to.ensures
