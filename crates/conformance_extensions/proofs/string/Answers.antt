use Rattle.conformance_extensions.proofs.NormalLemmas.{covers_free, each_unit}
use Rattle.conformance_extensions.proofs.string.Goals as goal

pub any-requires : goal.any-requires
any-requires g c = λ v. (each_unit v, covers_free _ _)
