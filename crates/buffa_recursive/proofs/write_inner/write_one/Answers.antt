use Rattle.std.proofs.Common.{◌∙◌, ap, sym, Some}
use Rattle.std.specs.Option.{option_map}
use Rattle.buffa_recursive.proofs.OptionPassLemmas.{none_put, some_next, some_written}
use Rattle.buffa_recursive.specs.Fixpoint.{semantics}
use Rattle.buffa_recursive.specs.InnerMessages.{encoding_by}
use Rattle.buffa_recursive.proofs.write_inner.write_one.Goals as goal

pub write_inner-requires-clause-next : goal.write_inner-requires-clause-next
write_inner-requires-clause-next g c =
    let w = semantics g.M.RecursiveType.COST g.M.RecursiveType.schema g.M.RecursiveType.sound in
    let is = ap (option_map (λ b. b.value)) c.in-Some.is ∙ ap (λ t. Some t) (sym c.deref.ensures) in
    some_next (encoding_by w) w.slots c.args.number (option_map (λ b. b.value) c.args.one.now) c.deref.result.now is c.args.cache.now c.requires.next

pub returns-in-None : goal.returns-in-None
returns-in-None g c =
    let w = semantics g.M.RecursiveType.COST g.M.RecursiveType.schema g.M.RecursiveType.sound in
    none_put (encoding_by w) w.slots c.args.number (option_map (λ b. b.value) c.args.one.now) (ap (option_map (λ b. b.value)) c.in-None.is) c.args.cache.now (g.S.EncodeSink.written c.args.sink.now)

pub returns-in-Some : goal.returns-in-Some
returns-in-Some g c =
    let w = semantics g.M.RecursiveType.COST g.M.RecursiveType.schema g.M.RecursiveType.sound in
    let is = ap (option_map (λ b. b.value)) c.in-Some.is ∙ ap (λ t. Some t) (sym c.deref.ensures) in
    some_written (encoding_by w) w.slots c.args.number (option_map (λ b. b.value) c.args.one.now) c.deref.result.now is c.args.cache.now c.write_inner.new.cache (g.S.EncodeSink.written c.args.sink.now) (g.S.EncodeSink.written c.write_inner.new.sink) c.write_inner.result c.write_inner.ensures
