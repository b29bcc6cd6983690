use Rattle.std.proofs.Common.{refl, ap, rules}
use Rattle.buffa_bytes.proofs.TailLemmas.{tail_whole}
use Rattle.buffa_bytes.proofs.LendLemmas.{lent_none}
use Rattle.buffa_wire.proofs.ByPayloadLemmas.{by_payload}
use Rattle.buffa_wire.proofs.InsideLemmas.{merged_tells, none_merges, inside_fault, inside_full, inside_ok, inside_spent, inside_is_partly_merged}
use Rattle.buffa_wire.proofs.message.Message.merge_length_delimited.Goals as goal

pub returns-then-depth-eq0-clause-kept : goal.returns-then-depth-eq0-clause-kept
returns-then-depth-eq0-clause-kept g c = refl

pub returns-then-depth-eq0-clause-tail : goal.returns-then-depth-eq0-clause-tail
returns-then-depth-eq0-clause-tail g c = tail_whole _

pub returns-then-depth-eq0-clause-level : goal.returns-then-depth-eq0-clause-level
returns-then-depth-eq0-clause-level g c = λ _. (refl, refl)

pub returns-then-depth-eq0-clause-outside : goal.returns-then-depth-eq0-clause-outside
returns-then-depth-eq0-clause-outside g c = λ _. refl

pub returns-clause-kept : goal.returns-clause-kept
returns-clause-kept g c = c.with_delimited.ensures.kept

pub returns-clause-tail : goal.returns-clause-tail
returns-clause-tail g c = c.with_delimited.ensures.tail

pub returns-clause-left : goal.returns-clause-left
returns-clause-left g c = λ _. c.with_delimited.ensures.left

pub returns-clause-level : goal.returns-clause-level
returns-clause-level g c = λ k. absurd (c.if-depth-eq0.false k)

pub returns-clause-ok : goal.returns-clause-ok
returns-clause-ok g c =
    let h = inside_ok _ g.Self.MessageSpec.merged g.Self.MessageSpec.cost c.args.ctx.depth _ _ _ _ _ _ _ _ c.with_delimited.result c.if-depth-eq0.false c.with_delimited.ensures.lends (λ p k. k.met.1.0) in
    search rules

pub returns-clause-fault : goal.returns-clause-fault
returns-clause-fault g c =
    inside_fault _ g.Self.MessageSpec.merged g.Self.MessageSpec.cost c.args.ctx.depth _ _ _ _ _ _ c.with_delimited.result c.if-depth-eq0.false c.with_delimited.ensures.lends (λ p k. merged_tells _ _ _ _ _ c.with_delimited.result k.met.1.0)

pub returns-clause-spent : goal.returns-clause-spent
returns-clause-spent g c =
    let h = inside_spent _ g.Self.MessageSpec.merged g.Self.MessageSpec.cost c.args.ctx.depth _ _ _ _ _ _ _ _ c.with_delimited.result c.if-depth-eq0.false c.with_delimited.ensures.lends (λ p k. k.met.1.0) (λ k. ap (λ z. z.3.now) k) in
    search rules

pub returns-clause-full : goal.returns-clause-full
returns-clause-full g c =
    inside_full _ g.Self.MessageSpec.merged g.Self.MessageSpec.cost c.args.ctx.depth _ _ _ _ c.with_delimited.result c.if-depth-eq0.false c.with_delimited.ensures.lends

pub returns-clause-free : goal.returns-clause-free
returns-clause-free g c = λ rest deep is.
    lent_none _ _ _ c.with_delimited.result _ rest _ c.with_delimited.ensures.lends
    (λ k. none_merges (by_payload g.Self.MessageSpec.stays g.Self.MessageSpec.merged_is g.Self.MessageSpec.cost_is) _ _ _ _ _ _ c.with_delimited.result k.shows k.called.met.1.0 k.called.met.1.1.1) is

pub returns-clause-partly : goal.returns-clause-partly
returns-clause-partly g c =
    inside_is_partly_merged _ g.Self.MessageSpec.merged g.Self.MessageSpec.cost g.Self.MessageSpec.Refused c.args.ctx.depth _ _ _ _ _ _ _ _ c.with_delimited.result c.with_delimited.ensures.lends (λ p k. k.met.1.1.0)
    (λ k. ap (λ z. g.Self.Blank.meaning z.0.now) k) (search rules)
