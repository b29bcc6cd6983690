use Rattle.buffa_bytes.specs.Scalars.{fixed32_of, fixed64_of, sfixed32_of, sfixed64_of}
use Rattle.buffa_map_laws.proofs.CodecWordLemmas.{eights_read, fours_read, varints_read}
use Rattle.buffa_map_laws.proofs.in_bytes.scalars_are_read_so.Goals as goal

pub returns-clause-int32 : goal.returns-clause-int32
returns-clause-int32 c = varints_read _ _

pub returns-clause-int64 : goal.returns-clause-int64
returns-clause-int64 c = varints_read _ _

pub returns-clause-uint32 : goal.returns-clause-uint32
returns-clause-uint32 c = varints_read _ _

pub returns-clause-uint64 : goal.returns-clause-uint64
returns-clause-uint64 c = varints_read _ _

pub returns-clause-sint32 : goal.returns-clause-sint32
returns-clause-sint32 c = varints_read _ _

pub returns-clause-sint64 : goal.returns-clause-sint64
returns-clause-sint64 c = varints_read _ _

pub returns-clause-bool : goal.returns-clause-bool
returns-clause-bool c = varints_read _ _

pub returns-clause-fixed32 : goal.returns-clause-fixed32
returns-clause-fixed32 c = fours_read _ fixed32_of

pub returns-clause-fixed64 : goal.returns-clause-fixed64
returns-clause-fixed64 c = eights_read _ fixed64_of

pub returns-clause-sfixed32 : goal.returns-clause-sfixed32
returns-clause-sfixed32 c = fours_read _ sfixed32_of

pub returns-clause-sfixed64 : goal.returns-clause-sfixed64
returns-clause-sfixed64 c = eights_read _ sfixed64_of

pub returns-clause-float : goal.returns-clause-float
returns-clause-float c = fours_read _ fixed32_of

pub returns-clause-double : goal.returns-clause-double
returns-clause-double c = eights_read _ fixed64_of
