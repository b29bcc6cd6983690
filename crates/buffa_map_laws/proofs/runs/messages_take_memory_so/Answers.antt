use Rattle.buffa_map_laws.proofs.RunLawLemmas.{empty_is, is_empty, is_taken, is_whole, takes_is, whole_is}
use Rattle.buffa_map_laws.proofs.runs.messages_take_memory_so.Goals as goal

pub returns-clause-takes : goal.returns-clause-takes
returns-clause-takes g c = λ d bs. (takes_is g.M.Blank.blank_is g.M.MessageSpec.merged g.M.MessageSpec.cost d bs, λ h. is_taken g.M.Blank.blank_is g.M.MessageSpec.merged g.M.MessageSpec.cost d bs h.0 h.1)

pub returns-clause-whole : goal.returns-clause-whole
returns-clause-whole g c = λ d bs. (whole_is g.M.Blank.blank_is g.M.MessageSpec.merged g.M.MessageSpec.cost d bs, λ h. is_whole g.M.Blank.blank_is g.M.MessageSpec.merged g.M.MessageSpec.cost d bs h.0 h.1)

pub returns-clause-empty : goal.returns-clause-empty
returns-clause-empty g c = λ d bs. (empty_is g.M.Blank.blank_is g.M.MessageSpec.merged g.M.MessageSpec.cost d bs, λ h. is_empty g.M.Blank.blank_is g.M.MessageSpec.merged g.M.MessageSpec.cost d bs h.1 h.0 h.2)
