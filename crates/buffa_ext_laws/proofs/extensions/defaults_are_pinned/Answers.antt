use Rattle.buffa_codec.specs.Decoded.{last_read}
use Rattle.buffa_wire.specs.BudgetLeft.{defaults}
use Rattle.buffa_ext.specs.Messages.{message_of, encodings_in}
use Rattle.buffa_ext_laws.proofs.ExtensionPinLemmas.{one_default}
use Rattle.buffa_ext_laws.proofs.extensions.defaults_are_pinned.Goals as goal

pub returns-clause-values : goal.returns-clause-values
returns-clause-values g c = λ s ds v w only h k.
    one_default (last_read (g.C.SingularCodec.one 100 defaults) ds) g.C.Value.Blank.meaning g.C.Value.Blank.blank_is (g.D.Declared.may_declare s) only v w h k

pub returns-clause-messages : goal.returns-clause-messages
returns-clause-messages g c = λ s ds v w only h k.
    one_default (message_of (g.M.MessageSpec.merged 100) (g.M.MessageSpec.cost 100) g.M.Blank.blank_is defaults (encodings_in g.K.MessageRecord.held ds)) g.M.Blank.meaning g.M.Blank.blank_is (g.E.Declared.may_declare s) only v w h k
