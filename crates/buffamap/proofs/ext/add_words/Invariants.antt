use Rattle.std.proofs.Common.{◌≡◌, ◌++◌, drop}
use Rattle.buffamap.specs.Ext.{words_of}
use Rattle.buffamap.proofs.ext.add_words.Given as goal

-- the words so far, and those that are left, are all
abbrev pub invariant-loop-value : goal.invariant-loop-value
invariant-loop-value l = l.text.items ++ words_of (drop l.value-index l.values) ≡ l.initial.text.items ++ words_of l.values
