use Rattle.std.proofs.Common.{sym, ap, ◌∙◌}
use Rattle.buffa_wire.specs.Records.{records_of, list_of}
use Rattle.buffa_wire.specs.Equal.{field_data_eq-Decides, records_eq-Decides, field_eq-Decides}
use Rattle.buffa_wire.specs.RecordsOfValues.{field_data_of}
use Rattle.buffa_wire.proofs.RecordLemmas.{list-records, held_eq_yes}
use Rattle.buffa_wire_laws.proofs.records.equality_is_of_records.Goals as goal

pub returns-clause-fields : goal.returns-clause-fields
returns-clause-fields c = λ a b. (
  λ h. sym (list-records a.records) ∙ ap list_of ((records_eq-Decides (records_of a.records) (records_of b.records)).0 h) ∙ list-records b.records,
  held_eq_yes a b,
)

pub returns-clause-field : goal.returns-clause-field
returns-clause-field c = λ a b. field_eq-Decides a b

pub returns-clause-payload : goal.returns-clause-payload
returns-clause-payload c = λ a b. field_data_eq-Decides (field_data_of a) (field_data_of b)
