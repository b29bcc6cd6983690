use Rattle.std.proofs.Common.{rules, ◌≡◌, ◌++◌, ◌∷◌, get_or, pos}
use Rattle.std.specs.Fmt.{signed_decimal}
use Rattle.buffamap.proofs.ExtensionLemmas.{word_more}
use Rattle.buffamap.proofs.ext.add_words.Goals as goal

pub loop-value-preserved : goal.loop-value-preserved
loop-value-preserved c =
    let more : c.extend_from_slice.new.self.items ≡ c.loop-value.text.items ++ 32 ∷ signed_decimal (get_or c.args.values.now c.loop-value.value-index (pos 0)) = search rules in
    rw more (word_more c.loop-value.text.items _ c.args.values.now c.loop-value.value-index (pos 0) c.loop-value-test.true c.loop-value.invariant)
