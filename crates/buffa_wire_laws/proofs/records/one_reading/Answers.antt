use Rattle.std.proofs.Common.{sym, ap, ◌∙◌}
use Rattle.buffa_wire.specs.Records.{records_of, list_of}
use Rattle.buffa_wire.proofs.RecordLemmas.{list-records}
use Rattle.buffa_wire.proofs.ParseLemmas as parse
use Rattle.buffa_wire_laws.proofs.records.one_reading.Goals as goal

pub returns : goal.returns
returns c = λ b d k rs qs p q. sym (list-records rs) ∙ ap list_of (parse.one_reading b d k (records_of rs) (records_of qs) p q) ∙ list-records qs
