use Rattle.buffa_wire.specs.Message.{IsFieldMerged}
use Rattle.sample_node.proofs.NodeReadLemmas.{in_node_words}
use Rattle.sample_node.proofs.NodeRefusedLemmas.{refused_if}
use Rattle.sample_node.proofs.node.merge_node_field.Goals as goal

pub returns : goal.returns
returns c =
    let call = c.merge_field-merged in
    let tag = c.args.tag in
    record {
      merged = in_node_words (λ m k. IsFieldMerged m k c.args.depth c.args.node.now tag.number tag.wire_type c.args.buf.now.now c.args.budget.now call.result call.new.self call.new.ctx.1.0 call.new.buf.now) call.ensures.merged;
      full = call.ensures.full;
      refused = refused_if _ _ _ _ _ _ _ c.is_node.ensures c.is_node-2.ensures call.result call.ensures.refused;
    }
