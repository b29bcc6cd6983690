use Rattle.std.proofs.Common.{refl, sym, ap, ◌∙◌, ◌++◌, inr, subst}
use Rattle.std.proofs.lemmas.Result.{err_from_is_err_and}
use Rattle.buffa_wire.specs.Encoding.{fields_encoding, records_encoding}
use Rattle.buffa_wire.specs.Records.{records_of}
use Rattle.buffa_wire.specs.RecordsOfValues.{field_data_of}
use Rattle.buffa_codec.specs.Decoded.{HasByte}
use Rattle.buffa_ext.specs.Messages.{group_held}
use Rattle.buffa_wire.proofs.InsideLemmas.{tag_has_byte}
use Rattle.buffa_ext.proofs.message_record.GroupedMessageRecord.merge_in.Goals as goal

pub returns-in_err-merge-clause-full : goal.returns-in_err-merge-clause-full
returns-in_err-merge-clause-full g c =
    let p = err_from_is_err_and c.from_residual.result c.from_residual.ensures.1 in
    rw (p.1, p.2) (λ full. subst HasByte (sym (ap (λ d. group_held (field_data_of d)) c.in-Group.is))
    (λ none. tag_has_byte c.as_slice-encoding.result.now (c.in_err-merge.ensures.full full)
    (c.as_slice-encoding.ensures.value ∙ c.in-Ok.ensures.writes ∙ ap (λ l. l ++ records_encoding c.in-Group.fields.records) c.new-bytes.ensures.items ∙ none)))

pub returns-in_default-write_to-clause-partly : goal.returns-in_default-write_to-clause-partly
returns-in_default-write_to-clause-partly g c =
    (fields_encoding (records_of c.in-Group.fields.records), ap (λ d. group_held (field_data_of d)) c.in-Group.is, inr (refl, refl))
