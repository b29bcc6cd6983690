use Rattle.std.proofs.Common.{sym, subst}
use Rattle.buffa_wire.specs.Records.{records_of, list_of}
use Rattle.buffa_wire.specs.Parse.{Parse}
use Rattle.buffa_wire.proofs.RecordLemmas.{records-list}
use Rattle.buffa_wire.proofs.ParseLemmas.{Parse-deeper}
use Rattle.buffa_wire.proofs.JoinLemmas.{join_records, records_join}
use Rattle.buffa_wire.proofs.ValidLemmas.{parsed_valid}
use Rattle.buffa_wire_laws.proofs.records.records_are_fields.Goals as goal

pub returns-clause-fields : goal.returns-clause-fields
returns-clause-fields c = λ d bs. (
  λ j. (let r = join_records d bs j in (list_of r.0, subst (λ z. Parse d bs z) (sym (records-list r.0)) r.1)),
  λ h. records_join (records_of h.0) d bs h.1,
)

pub returns-clause-deeper : goal.returns-clause-deeper
returns-clause-deeper c = λ k d bs rs. Parse-deeper (records_of rs) k d bs

pub returns-clause-valid : goal.returns-clause-valid
returns-clause-valid c = λ d bs rs k h. parsed_valid (records_of rs) d bs k h
