use Rattle.std.proofs.Common.{◌≡◌, map, option_map, sym}
use Rattle.std.proofs.lemmas.Simd.{map-map}
use Rattle.std.specs.Int.{cast_unsigned, w64}
use Rattle.buffa_bytes.specs.Scalars.{int32_of, int32_encoding}
use Rattle.buffa_bytes.specs.declared.wire_type.WireType.TheVariants.{Varint}
use Rattle.buffa_wire.specs.Enums.{open_number}
use Rattle.buffa_wire.specs.NumberInRecord.{varint_in}
use Rattle.buffa_wire.specs.Records.{varint}
use Rattle.buffa_codec.specs.Packed.{numbers_in}
use Rattle.buffa_ext_laws.proofs.ThroughLemmas.{lists_through, option_twice, packed_through, reads_through}
use Rattle.buffa_ext_laws.proofs.codecs.enums_are_read_as_numbers.Goals as goal

pub returns-clause-reads : goal.returns-clause-reads
returns-clause-reads g c =
    let turn = open_number g.E.Enumeration.of_number in
    reads_through turn (λ b d. option_map int32_of (varint_in d)) (λ b d. option_map (λ n. turn (int32_of n)) (varint_in d)) (λ b d. option_twice int32_of turn (varint_in d))

pub returns-clause-lists : goal.returns-clause-lists
returns-clause-lists g c =
    let turn = open_number g.E.Enumeration.of_number in
    lists_through turn (λ b d. option_map int32_of (varint_in d)) (λ b d. option_map (λ n. turn (int32_of n)) (varint_in d)) (λ b d. option_twice int32_of turn (varint_in d))
    (λ b d left. left ≡ b) (λ bs. map int32_of (numbers_in Varint bs)) (λ bs. map (λ n. turn (int32_of n)) (numbers_in Varint bs)) (λ bs. sym (map-map turn int32_of (numbers_in Varint bs)))

pub returns-clause-packed : goal.returns-clause-packed
returns-clause-packed g c =
    let turn = open_number g.E.Enumeration.of_number in
    lists_through turn (λ b d. option_map int32_of (varint_in d)) (λ b d. option_map (λ n. turn (int32_of n)) (varint_in d)) (λ b d. option_twice int32_of turn (varint_in d))
    (λ b d left. left ≡ b) (λ bs. map int32_of (numbers_in Varint bs)) (λ bs. map (λ n. turn (int32_of n)) (numbers_in Varint bs)) (λ bs. sym (map-map turn int32_of (numbers_in Varint bs)))

pub returns-clause-list_records : goal.returns-clause-list_records
returns-clause-list_records g c = λ vs. sym (map-map (λ v. varint (cast_unsigned w64 v)) (λ v. v.1) vs)

pub returns-clause-packed_records : goal.returns-clause-packed_records
returns-clause-packed_records g c = λ vs. packed_through (λ v. v.1) int32_encoding vs
