use Rattle.std.proofs.Common.{subst, sym}
use Rattle.buffa_wire.specs.Passes.{IsNext}
use Rattle.buffa_fields.specs.Schema.{Follow, IsPut}
use Rattle.buffa_fields.specs.facts.SchemaFacts.{follows, puts_none, start}
use Rattle.buffa_recursive.proofs.MessagePassLemmas.{self_put}
use Rattle.buffa_recursive.specs.Fixpoint.{message_schema}
use Rattle.buffa_recursive.specs.facts.FixpointFacts.{slots_are}
use Rattle.buffa_recursive.proofs.writer.write_members.Goals as goal

pub visit-requires-clause-waits : goal.visit-requires-clause-waits
visit-requires-clause-waits g c =
    let o = g.M.RecursiveType.schema in
    let w = c.args.writer.now in
    let ss = (message_schema g.M.RecursiveType.COST o g.M.RecursiveType.sound).slots (o.out c.args.message.now) in
    subst (λ r. Follow ss r w.cache.now) (sym c.requires.fresh) (follows ss w.cache.now (subst (λ xs. IsNext xs w.cache.now) (slots_are g.M.RecursiveType.COST o g.M.RecursiveType.sound c.args.message.now) c.requires.next))

pub returns : goal.returns
returns g c =
    let w = c.args.writer.now in
    let sink = w.sink.ghost_name in
    let before = g.S.EncodeSink.written w.sink.now in
    let cache = w.cache.ghost_name in
    let first = w.cache.now in
    let z = start sink before cache first in
    let new = c.visit.new.visitor in
    let k = self_put g.M.RecursiveType.COST g.M.RecursiveType.schema g.M.RecursiveType.sound c.args.message.now sink new.sink.ghost_name before cache new.cache.ghost_name first new.cache.now (g.S.EncodeSink.written new.sink.now) new.result
    (c.visit.ensures.seen z (subst (λ r. IsPut sink cache before first r z) (sym c.requires.fresh) (puts_none sink before cache first))) in
    record { same_sink = k.0; same_cache = k.1; written = k.2 }
