use Rattle.std.proofs.Common.{ap, ◌∙◌, sym}
use Rattle.std.proofs.lemmas.Fn.{filter_same}
use Rattle.buffa_wire.specs.RecordsOfValues.{record_of, records_in}
use Rattle.buffa_wire.proofs.RecordLemmas.{filter-records_in, filtered_records}
use Rattle.buffa_wire.proofs.unknown_fields.UnknownFields.retain.Goals as goal

pub returns-clause-calls : goal.returns-clause-calls
returns-clause-calls g c = rw (sym c.self.view_is) (filtered_records _ _ _ _ c.retain.ensures.filtered)

pub returns-clause-records : goal.returns-clause-records
returns-clause-records g c = λ p a. rw (sym c.self.view_is)
    (ap records_in (filter_same _ (λ x. p (record_of x)) _ (λ x b h k. a x b h k) _ _ c.retain.ensures.filtered) ∙ filter-records_in p _)
