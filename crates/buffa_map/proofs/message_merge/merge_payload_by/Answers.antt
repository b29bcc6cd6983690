use Rattle.std.proofs.Common.{ap, rules}
use Rattle.buffa_wire.proofs.InsideLemmas.{inside_fault, inside_full, inside_ok, inside_spent, merged_tells}
use Rattle.buffa_map.proofs.message_merge.merge_payload_by.Goals as goal

pub returns-clause-ok : goal.returns-clause-ok
returns-clause-ok g c =
    let h = inside_ok _ g.M.MessageSpec.merged g.M.MessageSpec.cost c.args.ctx.depth _ _ _ _ _ _ _ _ c.with_delimited.result c.if-depth-eq0.false c.with_delimited.ensures.lends (λ p k. k.met.1) in
    search rules

pub returns-clause-fault : goal.returns-clause-fault
returns-clause-fault g c =
    inside_fault _ g.M.MessageSpec.merged g.M.MessageSpec.cost c.args.ctx.depth _ _ _ _ _ _ c.with_delimited.result c.if-depth-eq0.false c.with_delimited.ensures.lends (λ p k. merged_tells _ _ _ _ _ c.with_delimited.result k.met.1)

pub returns-clause-spent : goal.returns-clause-spent
returns-clause-spent g c =
    let h = inside_spent _ g.M.MessageSpec.merged g.M.MessageSpec.cost c.args.ctx.depth _ _ _ _ _ _ _ _ c.with_delimited.result c.if-depth-eq0.false c.with_delimited.ensures.lends (λ p k. k.met.1) (λ k. ap (λ z. z.2.now) k) in
    search rules

pub returns-clause-full : goal.returns-clause-full
returns-clause-full g c =
    inside_full _ g.M.MessageSpec.merged g.M.MessageSpec.cost c.args.ctx.depth _ _ _ _ c.with_delimited.result c.if-depth-eq0.false c.with_delimited.ensures.lends
