use Rattle.std.specs.Option.{option_map}
use Rattle.buffa_recursive.specs.Fixpoint.{semantics}
use Rattle.buffa_recursive.specs.facts.MemberPassFacts.{other_next, other_put, other_rest}
use Rattle.buffa_recursive.specs.InnerMessages.{child_shape}
use Rattle.buffa_recursive.proofs.writer.one_put.Goals as goal

pub write_one-requires-clause-next : goal.write_one-requires-clause-next
write_one-requires-clause-next g c =
    let o = g.M.RecursiveType.schema in
    let s = child_shape (semantics g.M.RecursiveType.COST o g.M.RecursiveType.sound) in
    other_next o.of_option o.option_of o.option_again s c.args.number (option_map (λ b. b.value) c.args.one.now) c.args.cache.now c.requires.next

pub returns-clause-seen : goal.returns-clause-seen
returns-clause-seen g c = λ name of z h.
    let o = g.M.RecursiveType.schema in
    let s = child_shape (semantics g.M.RecursiveType.COST o g.M.RecursiveType.sound) in
    let written = g.S.EncodeSink.written in
    other_put o.of_option o.option_of o.option_again s c.args.number (option_map (λ b. b.value) c.args.one.now) z name of (written c.args.sink.now) (written c.write_one.new.sink) c.args.cache.now c.write_one.new.cache c.write_one.result h c.write_one.ensures

pub returns-clause-waits : goal.returns-clause-waits
returns-clause-waits g c = λ rest h.
    let o = g.M.RecursiveType.schema in
    let s = child_shape (semantics g.M.RecursiveType.COST o g.M.RecursiveType.sound) in
    let written = g.S.EncodeSink.written in
    other_rest o.of_option o.option_of o.option_again s c.args.number (option_map (λ b. b.value) c.args.one.now) rest (written c.args.sink.now) (written c.write_one.new.sink) c.args.cache.now c.write_one.new.cache c.write_one.result c.write_one.ensures h
