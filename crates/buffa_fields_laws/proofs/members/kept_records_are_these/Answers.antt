use Rattle.buffa_fields_laws.proofs.members.kept_records_are_these.Goals as goal

pub returns-clause-kept : goal.returns-clause-kept
returns-clause-kept g c = λ keeps v rs. g.M.MessageFields.schema.adds_kept keeps v rs

pub returns-clause-own : goal.returns-clause-own
returns-clause-own g c = λ v rs. g.M.MessageFields.schema.adds_own v rs

pub returns-clause-records : goal.returns-clause-records
returns-clause-records g c = λ v. g.M.MessageFields.schema.in_two v
