use Rattle.std.proofs.Common.{◌≡◌, take, fold, flat_map}
use Rattle.std.specs.Hash as fed
use Rattle.sample_types.specs.Letters.{lower}
use Rattle.sample_types.proofs.word.hash_lower.Given as goal

abbrev pub invariant-loop-letter : goal.invariant-loop-letter
invariant-loop-letter g l = l.state ≡ fold g.H.Hasher.write l.initial.state (flat_map fed.u8 (lower (take l.letter-index l.letters)))
