use Rattle.std.proofs.Common.{take, Ok}
use Rattle.buffa_wire.specs.RecordsOfValues.{records_in}
use Rattle.buffa_codec.specs.Strict.{Faultless}
use Rattle.buffa_codec.specs.RecordsOfNumber.{sub}
use Rattle.buffa_ext.specs.Messages.{IsAllMerged, encodings_in}
use Rattle.buffa_ext.specs.Strict.{kind_fault}
use Rattle.buffa_within.proofs.within.merge_each.Given as goal

-- the encodings so far are merged, and each record holds one
abbrev pub invariant-loop-field : goal.invariant-loop-field
invariant-loop-field g l = record {
  merged : IsAllMerged (g.M.MessageSpec.merged l.depth) (g.M.MessageSpec.cost l.depth) (encodings_in g.K.MessageRecord.held (sub l.number (records_in (take l.field-index l.field-items))))
      (g.M.Blank.meaning l.fn.message) l.fn.budget (Ok l.found) (g.M.Blank.meaning l.message) l.budget;
  kinds : Faultless (kind_fault g.K.MessageRecord.held g.K.MessageRecord.WIRE_TYPE l.number) (sub l.number (records_in (take l.field-index l.field-items)));
}
