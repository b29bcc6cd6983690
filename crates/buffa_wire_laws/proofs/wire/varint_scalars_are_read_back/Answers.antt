use Rattle.std.proofs.Common.{arith, refl}
use Rattle.std.specs.Int.{cast_unsigned, from_bool, w64}
use Rattle.buffa_bytes.specs.Scalars.{zigzag, int64_of, uint32_of, uint64_of, sint32_of, sint64_of, bool_of}
use Rattle.buffa_bytes.proofs.ScalarLemmas.{varint_back, unsigned64_fits, zigzag_fits32, zigzag_fits64, int64_means, uint32_means, sint32_means, sint64_means, bool_fits, bool_means}
use Rattle.buffa_wire_laws.proofs.wire.varint_scalars_are_read_back.Goals as goal

pub returns-clause-int64 : goal.returns-clause-int64
returns-clause-int64 c = λ v rest h. varint_back int64_of (cast_unsigned w64 v) v rest (unsigned64_fits v h) (int64_means v h)

pub returns-clause-uint32 : goal.returns-clause-uint32
returns-clause-uint32 c = λ n rest h. varint_back uint32_of n n rest (omega (arith, h)) (uint32_means n h)

pub returns-clause-uint64 : goal.returns-clause-uint64
returns-clause-uint64 c = λ n rest h. varint_back uint64_of n n rest h refl

pub returns-clause-sint32 : goal.returns-clause-sint32
returns-clause-sint32 c = λ v rest h. varint_back sint32_of (zigzag v) v rest (omega (arith, zigzag_fits32 v h)) (sint32_means v h)

pub returns-clause-sint64 : goal.returns-clause-sint64
returns-clause-sint64 c = λ v rest h. varint_back sint64_of (zigzag v) v rest (zigzag_fits64 v h) (sint64_means v)

pub returns-clause-bool : goal.returns-clause-bool
returns-clause-bool c = λ b rest. varint_back bool_of (from_bool b) b rest (bool_fits b) (bool_means b)
