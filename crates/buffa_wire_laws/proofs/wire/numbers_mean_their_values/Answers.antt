use Rattle.buffa_bytes.proofs.IntLemmas.{int32_means}
use Rattle.buffa_bytes.proofs.ScalarLemmas.{int64_means, uint32_means, sint32_means, sint64_means, bool_means, sfixed32_means, sfixed64_means}
use Rattle.buffa_wire_laws.proofs.wire.numbers_mean_their_values.Goals as goal

pub returns-clause-int32 : goal.returns-clause-int32
returns-clause-int32 c = int32_means

pub returns-clause-int64 : goal.returns-clause-int64
returns-clause-int64 c = int64_means

pub returns-clause-uint32 : goal.returns-clause-uint32
returns-clause-uint32 c = uint32_means

pub returns-clause-sint32 : goal.returns-clause-sint32
returns-clause-sint32 c = sint32_means

pub returns-clause-sint64 : goal.returns-clause-sint64
returns-clause-sint64 c = sint64_means

pub returns-clause-bool : goal.returns-clause-bool
returns-clause-bool c = bool_means

pub returns-clause-sfixed32 : goal.returns-clause-sfixed32
returns-clause-sfixed32 c = sfixed32_means

pub returns-clause-sfixed64 : goal.returns-clause-sfixed64
returns-clause-sfixed64 c = sfixed64_means
