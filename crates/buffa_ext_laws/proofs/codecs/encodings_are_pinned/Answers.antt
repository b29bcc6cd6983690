use Rattle.std.proofs.Common.{sym, ◌∙◌}
use Rattle.buffa_ext_laws.proofs.CodecPinLemmas.{encoding_is_pinned}
use Rattle.buffa_ext_laws.proofs.codecs.encodings_are_pinned.Goals as goal

pub returns-clause-records : goal.returns-clause-records
returns-clause-records g c = encoding_is_pinned

pub returns-clause-unpacked : goal.returns-clause-unpacked
returns-clause-unpacked g c = λ old a b more h k. h ∙ sym k
