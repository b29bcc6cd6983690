use Rattle.std.proofs.Common.{ap, ◌∙◌, ◌++◌}
use Rattle.buffa_bytes.specs.Readings.{varint_at, tag_at, skip_at}
use Rattle.buffa_bytes.proofs.StepLemmas.{agree_ok}
use Rattle.buffa_bytes.proofs.VarintLemmas.{varint_sound, varint_complete}
use Rattle.buffa_bytes.proofs.FieldLemmas.{tag_sound, tag_complete, payload_sound, payload_taken, onward}
use Rattle.buffa_wire_laws.proofs.wire.more_bytes_change_nothing.Goals as goal

pub returns-clause-varint : goal.returns-clause-varint
returns-clause-varint c = λ bs n rest more e. let t = agree_ok (varint_at bs) (n, rest) (varint_sound bs) e in ap varint_at (onward bs t.0 rest more t.2) ∙ varint_complete t.0 n (rest ++ more) t.1

pub returns-clause-tag : goal.returns-clause-tag
returns-clause-tag c = λ bs f w rest more e. let t = agree_ok (tag_at bs) (f, w, rest) (tag_sound bs) e in ap tag_at (onward bs t.0 rest more t.2) ∙ tag_complete t.0 f w (rest ++ more) t.1

pub returns-clause-skip : goal.returns-clause-skip
returns-clause-skip c = λ d f w bs rest more e. let t = agree_ok (skip_at d f w bs) rest (payload_sound d f w bs) e in payload_taken d f w (bs ++ more) (rest ++ more) (t.0, t.1, onward bs t.0 rest more t.2)
