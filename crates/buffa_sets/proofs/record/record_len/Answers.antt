use Rattle.std.proofs.Common.{◌∙◌, arith, sym}
use Rattle.buffa_sets.proofs.EncodingLemmas.{item_fits}
use Rattle.buffa_sets.proofs.record.record_len.Goals as goal

pub item_encoded_len-requires : goal.item_encoded_len-requires
item_encoded_len-requires c =
    let held = c.in-LengthDelimited.message in
    item_fits c.args.field.now.number c.len.result (sym c.is_type_id.ensures ∙ c.if-is_type_id.true) (omega (arith, c.len.ensures, held.ok.1, held.small))
