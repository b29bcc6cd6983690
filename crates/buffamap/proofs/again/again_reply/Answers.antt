use Rattle.std.proofs.Common.{Some, ap, sym, ◌≡◌, ◌∙◌}
use Rattle.buffamap.specs.Forms.{hex_bytes, without_newline}
use Rattle.buffamap.proofs.AgainReplyLemmas.{spelled}
use Rattle.buffamap.proofs.again.again_reply.Goals as goal

pub returns-clause-fault : goal.returns-clause-fault
returns-clause-fault g c =
    let m = g.M.MessageSpec in
    let is : hex_bytes (without_newline c.args.input.now) ≡ Some c.as_slice.result.now = ap hex_bytes (sym c.without_newline.ensures) ∙ c.in_ok-bytes.ensures.bytes ∙ ap Some (sym c.as_slice.ensures.value) in
    spelled m.merged m.cost m.encoding g.M.Blank.blank_is c.again_bytes.result (hex_bytes (without_newline c.args.input.now)) c.as_slice.result.now is c.again_bytes.ensures.fault
