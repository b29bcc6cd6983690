use Rattle.std.proofs.Common.{refl}
use Rattle.sample_node.proofs.NodeBackLemmas.{node_normal_is}
use Rattle.sample_node.proofs.NodeReadLemmas.{node_cost_is, node_merged_is}
use Rattle.sample_node.proofs.NodeRefusedLemmas.{node_refused}
use Rattle.sample_node.proofs.NodeWrittenLemmas.{encoding_same, levels_same, records_same, slots_same}
use Rattle.sample_node.proofs.laws.node_is_this.Goals as goal

pub returns : goal.returns
returns c = record {
  merged = (node_merged_is, node_cost_is);
  encoding = ((λ i t. encoding_same t i), (λ i t. records_same t i));
  slots = ((λ i t. slots_same t i), refl);
  levels = λ i t. levels_same t i;
  normal = node_normal_is;
  refused = λ d v n w bs l e u was h. node_refused d v n w bs l e u was h;
  blank = refl;
  meaning = λ v. refl;
}
