use Rattle.std.proofs.Common.{inl, inr}
use Rattle.buffa_wire_laws.proofs.answers.faults_of_records_are_these.Goals as goal

pub returns-clause-whole : goal.returns-clause-whole
returns-clause-whole c d s bs e = (
  λ (rs, left, rest, takes, some, h). (rs, left, rest, takes, some, elim h [ inl t ↦ inl t | inr f ↦ inr (f.0, f.1, f.2, f.3, f.5) ]),
  λ (rs, left, rest, takes, some, h). (rs, left, rest, takes, some, elim h [ inl t ↦ inl t | inr f ↦ inr (f.0, f.1, f.2, f.3, λ _ x. x, f.4) ]),
)
