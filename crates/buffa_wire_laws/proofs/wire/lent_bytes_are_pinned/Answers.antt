use Rattle.std.proofs.Common.{inl, inr, refl}
use Rattle.buffa_wire_laws.proofs.wire.lent_bytes_are_pinned.Goals as goal

pub returns : goal.returns
returns g c = record {
  given = λ f h r p rest left not k. elim k [ inl c ↦ c | inr n ↦ absurd (not n.0) ];
  none = λ f h r rest left k. elim k [ inl c ↦ c | inr n ↦ absurd (n.2 refl) ];
  full = λ f h r p rest left k. elim k [ inl c ↦ inl c.0 | inr n ↦ inr n.1 ];
  fault = λ f h r e left k. k;
}
