use Rattle.std.proofs.Common.{take, Ok}
use Rattle.buffa_wire.specs.RecordsOfValues.{records_in}
use Rattle.buffa_codec.specs.RecordsOfNumber.{sub}
use Rattle.buffa_ext.specs.Messages.{IsAllMerged, encodings_in}
use Rattle.buffa_ext.proofs.message.merge_number.Given as goal

-- the encodings so far are merged
abbrev pub invariant-loop-field : goal.invariant-loop-field
invariant-loop-field g l =
    IsAllMerged (g.M.MessageSpec.merged 100) (g.M.MessageSpec.cost 100) (encodings_in g.K.MessageRecord.held (sub l.number (records_in (take l.field-index l.field-items))))
    (g.M.Blank.meaning l.fn.message) l.fn.budget (Ok l.found) (g.M.Blank.meaning l.message) l.budget
