use Rattle.std.specs.BTreeMap.{insert_entry}
use Rattle.buffa_map.specs.Pairs.{put}
use Rattle.buffa_map.specs.Message.{message_reading}
use Rattle.buffa_fields_laws.proofs.RecordLemmas.{entry_is_taken, only_entries}
use Rattle.buffa_fields.specs.MapFields.{stepped}
use Rattle.buffa_fields_laws.proofs.records.entries_of_messages_are_put.Goals as goal

pub returns-clause-map : goal.returns-clause-map
returns-clause-map g k = λ d n v t e s h is. entry_is_taken g.KC.MapValueDecode.reading (message_reading g.N.Blank.blank_is g.N.MessageSpec.merged g.N.MessageSpec.cost) (λ m e s. stepped (put g.KC.Value.MapKey.same) m s) d n v t e s h is

pub returns-clause-ordered : goal.returns-clause-ordered
returns-clause-ordered g k = λ d n v t e s h is. entry_is_taken g.KC.MapValueDecode.reading (message_reading g.N.Blank.blank_is g.N.MessageSpec.merged g.N.MessageSpec.cost) (λ m e s. stepped (insert_entry g.KC.Value.OrderedKey.order) m s) d n v t e s h is

pub returns-clause-only : goal.returns-clause-only
returns-clause-only g k = λ d n v u w p h. only_entries g.KC.MapValueDecode.reading (message_reading g.N.Blank.blank_is g.N.MessageSpec.merged g.N.MessageSpec.cost) (λ m e s. stepped (put g.KC.Value.MapKey.same) m s) d n v u w p h

pub returns-clause-only_ordered : goal.returns-clause-only_ordered
returns-clause-only_ordered g k = λ d n v u w p h. only_entries g.KC.MapValueDecode.reading (message_reading g.N.Blank.blank_is g.N.MessageSpec.merged g.N.MessageSpec.cost) (λ m e s. stepped (insert_entry g.KC.Value.OrderedKey.order) m s) d n v u w p h
