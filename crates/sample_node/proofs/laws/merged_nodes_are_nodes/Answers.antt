use Rattle.buffa_recursive.specs.RefusedFields.{IsSelfRefused}
use Rattle.buffa_wire.specs.Message.{PartlyMerged}
use Rattle.sample_node.proofs.NodeHeldLemmas.{blank_is_node, merged_is_node, node_is_partly_merged}
use Rattle.sample_node.proofs.NodeSchemaLemmas.{members, members_sound}
use Rattle.sample_node.proofs.NodeReadLemmas.{in_node_words}
use Rattle.sample_node.proofs.laws.merged_nodes_are_nodes.Goals as goal

pub returns : goal.returns
returns c = record {
  merged = merged_is_node;
  blank = blank_is_node;
  partly = λ d v u bs before e was is h. node_is_partly_merged d v u bs before e was is (in_node_words (λ m c. PartlyMerged m c (IsSelfRefused 96 members members_sound) d v bs before e u) h);
}
