use Rattle.std.proofs.Common.{subst, sym}
use Rattle.buffa_wire.specs.Message.{IsFieldMerged}
use Rattle.buffa_recursive.proofs.FieldMergeLemmas.{self_merged}
use Rattle.buffa_recursive.specs.Fixpoint.{semantics}
use Rattle.buffa_recursive.proofs.message.RecursiveFieldByFieldMessageMethods.merge_field.Goals as goal

pub returns-clause-merged : goal.returns-clause-merged
returns-clause-merged g c =
    let t = semantics g.M.RecursiveType.COST g.M.RecursiveType.schema g.M.RecursiveType.sound in
    let k = c.take_by in
    let tag = c.args.tag in
    subst (λ v. IsFieldMerged t.merged t.cost c.args.ctx.depth v tag.number tag.wire_type c.args.buf.now.now c.args.ctx.budget.now k.result (g.M.Blank.meaning k.new.message) k.new.budget k.new.buf.now) (sym (g.met.M.RecursiveMeaning.means c.args.message.now))
    (subst (λ v. IsFieldMerged t.merged t.cost c.args.ctx.depth c.args.message.now tag.number tag.wire_type c.args.buf.now.now c.args.ctx.budget.now k.result v k.new.budget k.new.buf.now) (sym (g.met.M.RecursiveMeaning.means k.new.message))
    (self_merged g.M.RecursiveType.COST g.M.RecursiveType.schema g.M.RecursiveType.sound c.args.ctx.depth c.args.message.now k.new.message tag.number tag.wire_type c.args.buf.now.now k.new.buf.now c.args.ctx.budget.now k.new.budget k.result k.ensures.taken k.ensures.whole))
