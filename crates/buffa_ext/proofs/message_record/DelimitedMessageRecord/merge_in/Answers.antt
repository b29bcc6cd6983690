use Rattle.std.proofs.Common.{sym, ap, subst}
use Rattle.std.proofs.lemmas.Result.{err_from_is_err_and}
use Rattle.buffa_wire.specs.RecordsOfValues.{field_data_of}
use Rattle.buffa_wire.specs.Message.{BeginsField}
use Rattle.buffa_codec.specs.Decoded.{bytes_held}
use Rattle.buffa_ext.specs.Messages.{HasField}
use Rattle.buffa_ext.proofs.message_record.DelimitedMessageRecord.merge_in.Goals as goal

pub returns-in_err-merge-clause-full : goal.returns-in_err-merge-clause-full
returns-in_err-merge-clause-full g c =
    let p = err_from_is_err_and c.from_residual.result c.from_residual.ensures.1 in
    rw (p.1, p.2) (λ full. subst HasField (sym (ap (λ d. bytes_held (field_data_of d)) c.in-LengthDelimited.is))
    (subst BeginsField c.as_slice-bytes.ensures.value (c.in_err-merge.ensures.full full)))
