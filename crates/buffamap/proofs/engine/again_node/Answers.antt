use Rattle.std.specs.Prelude.{IfErr, IfOk}
use Rattle.sample_node.specs.Branch.{blank_node}
use Rattle.buffamap.specs.Fault.{TellsReply}
use Rattle.buffamap.specs.Reply.{success}
use Rattle.buffamap.proofs.AgainReplyLemmas.{again_as}
use Rattle.buffamap.proofs.engine.again_node.Goals as goal

pub returns : goal.returns
returns c =
    let is = c.node_is_this.ensures in
    let input = c.args.input.now in
    let result = c.again_reply.result in
    record {
      text = again_as blank_node is.merged.0 is.merged.1 is.encoding.0 (λ replies. IfOk result (λ text. replies input (success text.items))) c.again_reply.ensures.text;
      fault = again_as blank_node is.merged.0 is.merged.1 is.encoding.0 (λ replies. IfErr result (TellsReply (replies input))) c.again_reply.ensures.fault;
    }
