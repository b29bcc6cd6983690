use Rattle.buffa_codec.specs.Decoded.{bytes_held}
use Rattle.buffa_ext.specs.Messages.{group_held}
use Rattle.buffa_ext_laws.proofs.ExtensionPinLemmas.{list_is_exact}
use Rattle.buffa_ext_laws.proofs.extensions.lists_of_messages_are_pinned.Goals as goal

pub returns-clause-delimited : goal.returns-clause-delimited
returns-clause-delimited g c = list_is_exact (g.M.MessageSpec.merged 100) (g.M.MessageSpec.cost 100) g.M.Blank.blank_is bytes_held

pub returns-clause-groups : goal.returns-clause-groups
returns-clause-groups g c = list_is_exact (g.M.MessageSpec.merged 100) (g.M.MessageSpec.cost 100) g.M.Blank.blank_is group_held
