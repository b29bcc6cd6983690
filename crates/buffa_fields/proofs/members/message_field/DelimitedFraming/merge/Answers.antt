use Rattle.std.proofs.Common.{refl}
use Rattle.buffa_bytes.specs.declared.wire_type.WireType.TheVariants.{LengthDelimited}
use Rattle.buffa_fields.specs.Submessages.{message_cost, message_merged}
use Rattle.buffa_fields.proofs.SubmessageLemmas.{inside_full, inside_taken}
use Rattle.buffa_fields.proofs.members.message_field.DelimitedFraming.merge.Goals as goal

pub returns-clause-taken : goal.returns-clause-taken
unfolding message_cost message_merged
returns-clause-taken g c =
    let m = c.merge_length_delimited in
    inside_taken g.N.MessageSpec.merged g.N.MessageSpec.cost c.args._number LengthDelimited refl (g.N.Blank.meaning c.args.message.now) (g.N.Blank.meaning m.new.self) c.args.buf.now.now m.new.buf.now c.args.ctx.budget.now _ c.args.ctx.depth m.result m.ensures.ok m.ensures.fault m.ensures.spent

pub returns-clause-full : goal.returns-clause-full
returns-clause-full g c =
    let m = c.merge_length_delimited in
    inside_full c.args.ctx.depth c.args._number LengthDelimited c.args.buf.now.now refl m.result m.ensures.full m.ensures.free
