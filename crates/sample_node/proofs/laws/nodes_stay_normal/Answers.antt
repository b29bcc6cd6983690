use Rattle.sample_node.proofs.NodeNormalLemmas.{blank_is_normal, node_stays_normal}
use Rattle.sample_node.proofs.laws.nodes_stay_normal.Goals as goal

pub returns : goal.returns
returns c = record { merged = node_stays_normal; blank = blank_is_normal }
