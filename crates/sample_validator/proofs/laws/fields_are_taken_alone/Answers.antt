use Rattle.std.proofs.Common.{◌==◌}
use Rattle.buffa_fields.specs.Schema.{AsksAsSaid, RefusesAsSaid, TakesAsSaid, TellsWrongType}
use Rattle.buffa_fields.specs.facts.SchemaFacts.{choose}
use Rattle.sample_validator.proofs.PinLemmas.{declared_read}
use Rattle.sample_validator.proofs.laws.fields_are_taken_alone.Goals as goal

pub returns-clause-options : goal.returns-clause-options
unfolding AsksAsSaid RefusesAsSaid TakesAsSaid TellsWrongType
returns-clause-options c = λ d n old new w bs rest a b r h. choose (n == 3) h
    (λ is both.
    let took = both.0 in
    let read = declared_read d n old.deprecated new.deprecated w bs rest a b r took.0 took.1 took.3 in
    rw is (read.0, both.1, read.1))
    (λ differs both. rw differs (both.1, both.0))

pub returns-clause-carrier : goal.returns-clause-carrier
returns-clause-carrier c = λ d n old new w bs rest a b r h. h
