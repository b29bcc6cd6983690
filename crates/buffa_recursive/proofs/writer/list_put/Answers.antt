use Rattle.std.proofs.Common.{subst, sym}
use Rattle.buffa_wire.specs.Encoding.{records_encoding}
use Rattle.buffa_wire.specs.Passes.{IsNext, IsWritten}
use Rattle.buffa_recursive.specs.Fixpoint.{semantics}
use Rattle.buffa_recursive.specs.facts.MemberPassFacts.{other_next, other_put, other_rest}
use Rattle.buffa_recursive.specs.InnerMessages.{list_shape}
use Rattle.buffa_recursive.proofs.writer.list_put.Goals as goal

pub write_list-requires-clause-next : goal.write_list-requires-clause-next
write_list-requires-clause-next g c =
    let o = g.M.RecursiveType.schema in
    let s = list_shape (semantics g.M.RecursiveType.COST o g.M.RecursiveType.sound) in
    subst (λ xs. IsNext (s.slots xs) c.args.cache.now) (sym c.as_slice.ensures.value) (other_next o.of_list o.children_list o.list_again s c.args.number c.args.list.now.items c.args.cache.now c.requires.next)

pub returns-clause-seen : goal.returns-clause-seen
returns-clause-seen g c = λ name of z h.
    let o = g.M.RecursiveType.schema in
    let s = list_shape (semantics g.M.RecursiveType.COST o g.M.RecursiveType.sound) in
    let written = g.S.EncodeSink.written in
    other_put o.of_list o.children_list o.list_again s c.args.number c.args.list.now.items z name of (written c.args.sink.now) (written c.write_list.new.sink) c.args.cache.now c.write_list.new.cache c.write_list.result h
    (subst (λ xs. IsWritten (records_encoding (s.records c.args.number xs)) (s.slots xs) c.args.cache.now (written c.args.sink.now) c.write_list.result c.write_list.new.cache (written c.write_list.new.sink)) c.as_slice.ensures.value c.write_list.ensures)

pub returns-clause-waits : goal.returns-clause-waits
returns-clause-waits g c = λ rest h.
    let o = g.M.RecursiveType.schema in
    let s = list_shape (semantics g.M.RecursiveType.COST o g.M.RecursiveType.sound) in
    let written = g.S.EncodeSink.written in
    other_rest o.of_list o.children_list o.list_again s c.args.number c.args.list.now.items rest (written c.args.sink.now) (written c.write_list.new.sink) c.args.cache.now c.write_list.new.cache c.write_list.result
    (subst (λ xs. IsWritten (records_encoding (s.records c.args.number xs)) (s.slots xs) c.args.cache.now (written c.args.sink.now) c.write_list.result c.write_list.new.cache (written c.write_list.new.sink)) c.as_slice.ensures.value c.write_list.ensures) h
