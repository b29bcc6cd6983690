use Rattle.conformance_samples.proofs.words.+tree_word.Given as goal

abbrev pub decreases-tree_word : goal.decreases-tree_word
decreases-tree_word l = l.levels
