use Rattle.std.proofs.Common.{◌∙◌}
use Rattle.buffa_ext.proofs.MergeLemmas.{list_has_byte}
use Rattle.buffa_ext.proofs.message_record.GroupedMessageRecord.hold.Goals as goal

pub returns-in-Err-OutOfMemory-clause-full : goal.returns-in-Err-OutOfMemory-clause-full
returns-in-Err-OutOfMemory-clause-full c reported none = list_has_byte _ _ c.as_slice.result.now (c.in-Err-OutOfMemory.ensures.full c.in-Err-OutOfMemory.field-0-is) (c.as_slice.ensures.value ∙ none)
