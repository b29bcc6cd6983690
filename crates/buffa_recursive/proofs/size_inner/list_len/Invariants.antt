use Rattle.std.proofs.Common.{take}
use Rattle.buffa_wire.specs.Passes.{IsSized}
use Rattle.buffa_wire.specs.Encoding.{records_encoding}
use Rattle.buffa_fields.specs.facts.SchemaFacts.{sum}
use Rattle.buffa_recursive.specs.Fixpoint.{semantics}
use Rattle.buffa_recursive.specs.InnerMessages.{list_shape}
use Rattle.buffa_recursive.proofs.size_inner.list_len.Given as goal

-- the messages so far were sized
abbrev pub invariant-loop-child : goal.invariant-loop-child
invariant-loop-child g l =
    let s = list_shape (semantics g.M.RecursiveType.COST g.M.RecursiveType.schema g.M.RecursiveType.sound) in
    let vs = take l.child-index l.inner_messages in
    IsSized (records_encoding (s.records l.number vs)) (s.slots vs) l.fn.cache (sum l.total) l.cache
