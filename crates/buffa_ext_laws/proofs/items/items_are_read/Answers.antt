use Rattle.buffa_bytes.proofs.StepLemmas.{agree_err, agree_ok}
use Rattle.buffa_bytes.specs.declared.error.DecodeError.TheVariants.{OutOfMemory}
use Rattle.buffa_message_set.specs.Item.{item_at}
use Rattle.buffa_message_set.proofs.ItemLemmas.{item_fault, item_in_range, read_complete, read_faulty, read_sound}
use Rattle.buffa_ext_laws.proofs.items.items_are_read.Goals as goal

pub returns-clause-ok : goal.returns-clause-ok
returns-clause-ok c d id bs msg rest = (λ h. agree_ok (item_at d bs) (id, msg, rest) (read_sound d bs) h, read_complete d bs msg rest id)

pub returns-clause-err : goal.returns-clause-err
returns-clause-err c d bs e = (λ h. agree_err (item_at d bs) e (read_sound d bs) h, read_faulty d bs e)

pub returns-clause-memory : goal.returns-clause-memory
returns-clause-memory c d bs h = item_fault d bs OutOfMemory (agree_err (item_at d bs) OutOfMemory (read_sound d bs) h)

pub returns-clause-range : goal.returns-clause-range
returns-clause-range c d id bs msg h = item_in_range d bs msg id h
