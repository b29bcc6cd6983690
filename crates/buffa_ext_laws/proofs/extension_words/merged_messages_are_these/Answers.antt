use Rattle.buffa_ext_laws.proofs.MessageWordLemmas.{merged_next, merged_none, message_left, message_lacking}
use Rattle.buffa_ext_laws.proofs.extension_words.merged_messages_are_these.Goals as goal

pub returns-clause-next : goal.returns-clause-next
returns-clause-next g c = λ n old new b bs h. merged_next (g.M.MessageSpec.merged n) old new b bs h

pub returns-clause-refused : goal.returns-clause-refused
returns-clause-refused g c = λ n old b bs h. merged_none (g.M.MessageSpec.merged n) old b bs h

pub returns-clause-message : goal.returns-clause-message
returns-clause-message g c = λ n left b bs h. message_left (g.M.MessageSpec.merged n) (g.M.MessageSpec.cost n) g.M.Blank.blank_is left b bs h

pub returns-clause-too_dear : goal.returns-clause-too_dear
returns-clause-too_dear g c = λ n left b bs h. message_lacking (g.M.MessageSpec.merged n) (g.M.MessageSpec.cost n) g.M.Blank.blank_is left b bs h
