use Rattle.std.proofs.Common.{ap}
use Rattle.buffa_wire.specs.Records.{group, records_of}
use Rattle.buffa_ext.specs.Messages.{or_none, why_refused}
use Rattle.buffa_ext_laws.proofs.extension_words.groups_are_these.Goals as goal

pub returns-clause-read : goal.returns-clause-read
returns-clause-read c = λ t rs h. (ap (λ r. group (records_of (or_none r))) h, ap why_refused h)

pub returns-clause-refused : goal.returns-clause-refused
returns-clause-refused c = λ t e h. (ap (λ r. group (records_of (or_none r))) h, ap why_refused h)
