use Rattle.std.proofs.Common.{length}
use Rattle.buffa_wire.specs.Takes.{cost_of, merged_of}
use Rattle.buffa_wire.proofs.MergeLoopLemmas.{CameTo}
use Rattle.buffa_fields.proofs.messages.merge.merge_fields.Given as goal

-- the bytes before the rest were merged and paid for
abbrev pub invariant-fields : goal.invariant-fields
invariant-fields g l =
    let schema = g.M.MessageFields.schema in
    CameTo (merged_of schema.takes) (cost_of schema.charge) l.depth (schema.meaning l.fn.message) l.fn.buf.now l.initial.budget (schema.meaning l.message) l.rest l.budget

abbrev pub decreases-fields : goal.decreases-fields
decreases-fields g l = length l.rest
