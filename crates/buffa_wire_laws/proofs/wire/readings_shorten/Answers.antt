use Rattle.buffa_bytes.proofs.FieldLemmas.{tag_falls, skip_falls, varint_less}
use Rattle.buffa_wire_laws.proofs.wire.readings_shorten.Goals as goal

pub returns-clause-varint : goal.returns-clause-varint
returns-clause-varint c = varint_less

pub returns-clause-tag : goal.returns-clause-tag
returns-clause-tag c = λ bs f w rest e. tag_falls bs (f, w, rest) e

pub returns-clause-skip : goal.returns-clause-skip
returns-clause-skip c = skip_falls
