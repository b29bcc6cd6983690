use Rattle.buffa_message_set.proofs.ItemLemmas.{skipped_no_full}
use Rattle.buffa_message_set.proofs.message_set.merge_field.Goals as goal

pub returns-clause-full : goal.returns-clause-full
returns-clause-full g c = skipped_no_full _ c.skip_field_depth.result _ _ _ _ _ c.skip_field_depth.ensures.reads
