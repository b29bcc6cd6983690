use Rattle.conformance_of_messages.proofs.nodes.words.+node_word.Given as goal

abbrev pub decreases-node_word : goal.decreases-node_word
decreases-node_word l = l.levels
