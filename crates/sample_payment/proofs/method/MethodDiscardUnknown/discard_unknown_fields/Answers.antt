use Rattle.std.proofs.Common.{refl}
use Rattle.sample_payment.proofs.method.MethodDiscardUnknown.discard_unknown_fields.Goals as goal

pub returns-in-Transfer : goal.returns-in-Transfer
returns-in-Transfer c = rw c.in-Transfer.is (c.discard_unknown_fields.new.self, refl, c.discard_unknown_fields.ensures)
