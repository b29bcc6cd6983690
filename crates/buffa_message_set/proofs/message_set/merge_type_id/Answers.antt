use Rattle.std.proofs.lemmas.Result.{err_from_is_err_and}
use Rattle.buffa_message_set.proofs.ItemLemmas.{type_id_no_full}
use Rattle.buffa_message_set.proofs.message_set.merge_type_id.Goals as goal

pub returns-in_err-decode_type_id-clause-full : goal.returns-in_err-decode_type_id-clause-full
returns-in_err-decode_type_id-clause-full g c =
    let p = err_from_is_err_and c.from_residual.result c.from_residual.ensures.1 in
    rw (p.1, p.2) (type_id_no_full _ _ c.in_err-decode_type_id.ensures.reads)
