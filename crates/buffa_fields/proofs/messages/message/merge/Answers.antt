use Rattle.buffa_fields.specs.facts.SchemaFacts.{full_of, merges, refused_of}
use Rattle.buffa_fields.proofs.messages.message.merge.Goals as goal

pub returns : goal.returns
returns g c = record {
  merged = merges g.M.MessageFields.schema c.args.ctx.depth c.args.message.now c.take.new.self c.args.tag.number c.args.tag.wire_type c.args.buf.now.now c.take.new.buf.now c.args.ctx.budget.now _ c.take.result c.take.ensures;
  refused = refused_of g.M.MessageFields.schema c.args.ctx.depth c.args.message.now c.take.new.self c.args.tag.number c.args.tag.wire_type c.args.buf.now.now c.take.new.buf.now c.args.ctx.budget.now _ c.take.result c.take.ensures;
  full = full_of g.M.MessageFields.schema c.args.ctx.depth c.args.message.now c.take.new.self c.args.tag.number c.args.tag.wire_type c.args.buf.now.now c.take.new.buf.now c.args.ctx.budget.now _ c.take.result c.take.ensures;
  taken = c.take.ensures;
}
