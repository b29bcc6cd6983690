use Rattle.conformance_extensions.specs.Normal.{IsNormal}
use Rattle.conformance_extensions.proofs.FrontLemmas.{each_from, each_none}
use Rattle.conformance_extensions.proofs.normal.are_normal.Goals as goal

pub loop-message-preserved : goal.loop-message-preserved
loop-message-preserved g c =
    let m = g.M.MessageSpec in
    λ rest. c.loop-message.invariant (each_from g.M.Blank.meaning c.args.messages.now c.loop-message.message-index c.message-item.result c.loop-message-test.true c.message-item.is
    (λ v. IsNormal (m.normal v) (m.levels v) (m.records v)) (c.is_normal.ensures c.if-not-is_normal.false) rest)

pub returns : goal.returns
returns g c =
    let m = g.M.MessageSpec in
    λ _. c.loop-message.invariant (each_none (λ v. IsNormal (m.normal v) (m.levels v) (m.records v)) g.M.Blank.meaning c.args.messages.now c.loop-message.message-index c.loop-message-test.false)
