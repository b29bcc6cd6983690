use Rattle.buffa_wire.proofs.ByFieldLemmas.{free}
use Rattle.sample_types.specs.FieldsFacts.{full_not_at_end}
use Rattle.sample_types.specs.Count.{count_field}
use Rattle.sample_types.specs.CountFacts.{count_ends, count_same, count_sound}
use Rattle.sample_types.proofs.FieldLemmas.{count_refused}
use Rattle.sample_types.proofs.count.CountMsgMessage.merge_field.Goals as goal

pub returns-clause-merged : goal.returns-clause-merged
returns-clause-merged c =
    let d = c.args.ctx.depth in
    free d (count_field d) (count_sound d) (count_same d) c.merge_count.result c.args.self.now.count c.merge_count.new.count c.args.tag.number c.args.tag.wire_type c.args.buf.now.now c.merge_count.new.buf.now c.args.ctx.budget.now c.merge_count.ensures.gives

pub returns-clause-refused : goal.returns-clause-refused
returns-clause-refused c =
    count_refused c.args.ctx.depth c.args.tag.number c.args.tag.wire_type c.args.buf.now.now c.merge_count.new.buf.now c.args.ctx.budget.now c.args.self.now.count c.merge_count.new.count c.merge_count.result c.merge_count.ensures.gives c.merge_count.ensures.stays

pub returns-clause-full : goal.returns-clause-full
returns-clause-full c =
    let d = c.args.ctx.depth in
    full_not_at_end (count_field d) (count_ends d) c.merge_count.result c.args.self.now.count c.merge_count.new.count c.args.tag.number c.args.tag.wire_type c.args.buf.now.now c.merge_count.new.buf.now c.merge_count.ensures.gives
