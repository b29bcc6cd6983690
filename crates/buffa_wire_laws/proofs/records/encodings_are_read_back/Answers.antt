use Rattle.std.proofs.Common.{◌≤◌, ap, sym, subst, ◌∙◌}
use Rattle.buffa_wire.specs.Records.{records_of, list_of}
use Rattle.buffa_wire.specs.Encoding.{records_encoding}
use Rattle.buffa_wire.specs.DepthFacts.{height-records}
use Rattle.buffa_wire.specs.ReadableFacts.{readable}
use Rattle.buffa_wire.proofs.RecordLemmas.{list-records}
use Rattle.buffa_wire.proofs.ParseLemmas.{encoding_parses, encoding_is_theirs, short_fits}
use Rattle.buffa_wire.proofs.LoopLemmas.{list_taken}
use Rattle.buffa_wire_laws.proofs.records.encodings_are_read_back.Goals as goal

pub returns-clause-parses : goal.returns-clause-parses
returns-clause-parses c = λ d rs v f h. encoding_parses (records_of rs) d (readable (records_of rs) v f) (subst (λ k. k ≤ d) (sym (height-records rs)) h)

pub returns-clause-read : goal.returns-clause-read
returns-clause-read c = λ d s rs v f h l. list_taken d s (records_encoding rs) rs (encoding_parses (records_of rs) d (readable (records_of rs) v f) (subst (λ k. k ≤ d) (sym (height-records rs)) h)) l

pub returns-clause-fits : goal.returns-clause-fits
returns-clause-fits c = λ rs h. short_fits (records_of rs) h

pub returns-clause-theirs : goal.returns-clause-theirs
returns-clause-theirs c = λ d rs qs r p. sym (list-records qs) ∙ ap list_of (encoding_is_theirs d (records_of rs) (records_of qs) r p) ∙ list-records rs
