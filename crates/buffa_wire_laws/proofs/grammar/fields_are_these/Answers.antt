use Rattle.buffa_bytes.specs.Join.Join.{none, more}
use Rattle.buffa_wire_laws.proofs.grammar.fields_are_these.Goals as goal

pub returns-clause-none_joined : goal.returns-clause-none_joined
returns-clause-none_joined c d = none

pub returns-clause-one_joined : goal.returns-clause-one_joined
returns-clause-one_joined c d = more
