use Rattle.std.proofs.Common.{ap, sym, ◌∙◌}
use Rattle.sample_types.proofs.NumberLemmas.{flat_free, flat_written, two_free, two_written}
use Rattle.sample_types.specs.FieldsFacts.{both_records, number_encoding_records}
use Rattle.sample_types.specs.Fields.{number_encoding, number_records}
use Rattle.buffa_wire.specs.Encoding.{records_encoding}
use Rattle.sample_types.proofs.laws.messages_are_these.Goals as goal

pub returns-clause-flat_cost : goal.returns-clause-flat_cost
returns-clause-flat_cost c = λ d bs. flat_free d bs

pub returns-clause-two_cost : goal.returns-clause-two_cost
returns-clause-two_cost c = λ d bs. two_free d bs

pub returns-clause-flat_records : goal.returns-clause-flat_records
returns-clause-flat_records c = λ v. flat_written v.0

pub returns-clause-two_records : goal.returns-clause-two_records
returns-clause-two_records c = λ v. two_written v.0 v.1.0

pub returns-clause-flat_encoding : goal.returns-clause-flat_encoding
returns-clause-flat_encoding c = λ v. ap records_encoding (flat_written v.0) ∙ sym (number_encoding_records 1 v.0)

pub returns-clause-two_encoding : goal.returns-clause-two_encoding
returns-clause-two_encoding c = λ v. ap records_encoding (two_written v.0 v.1.0)
    ∙ sym (both_records (number_encoding 1 v.0) (number_encoding 2 v.1.0) (number_records 1 v.0) (number_records 2 v.1.0) (number_encoding_records 1 v.0) (number_encoding_records 2 v.1.0))
