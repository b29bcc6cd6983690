use Rattle.std.proofs.Common.{sym}
use Rattle.buffa_ext.proofs.set.ExtensionSet.try_set_extension.Goals as goal

pub returns-in_err-try_encode-clause-rest : goal.returns-in_err-try_encode-clause-rest
returns-in_err-try_encode-clause-rest g c = (g.Self.ExtensionSet.fields_of c.args.self.now, sym (g.met.Self.ExtensionSet.with_fields_of c.args.self.now))
