use Rattle.std.proofs.Common.{◌∙◌, ap, sym, Some}
use Rattle.std.specs.Option.{option_map}
use Rattle.buffa_recursive.proofs.OptionPassLemmas.{none_sized, some_has_slot, some_sized}
use Rattle.buffa_recursive.specs.Fixpoint.{semantics}
use Rattle.buffa_recursive.specs.InnerMessages.{encoding_by}
use Rattle.buffa_recursive.proofs.size_inner.one_len.Goals as goal

pub returns-in-None-clause-sized : goal.returns-in-None-clause-sized
returns-in-None-clause-sized g c =
    let w = semantics g.M.RecursiveType.COST g.M.RecursiveType.schema g.M.RecursiveType.sound in
    none_sized (encoding_by w) w.slots c.args.number (option_map (λ b. b.value) c.args.one.now) (ap (option_map (λ b. b.value)) c.in-None.is) c.args.cache.now

pub returns-in-Some-clause-sized : goal.returns-in-Some-clause-sized
returns-in-Some-clause-sized g c =
    let w = semantics g.M.RecursiveType.COST g.M.RecursiveType.schema g.M.RecursiveType.sound in
    let is = ap (option_map (λ b. b.value)) c.in-Some.is ∙ ap (λ t. Some t) (sym c.deref.ensures) in
    some_sized (encoding_by w) w.slots c.args.number (option_map (λ b. b.value) c.args.one.now) c.deref.result.now is c.args.cache.now c.inner_len.new.cache c.inner_len.result c.inner_len.ensures

pub returns-in-Some-clause-always : goal.returns-in-Some-clause-always
returns-in-Some-clause-always g c = λ none.
    let w = semantics g.M.RecursiveType.COST g.M.RecursiveType.schema g.M.RecursiveType.sound in
    let is = ap (option_map (λ b. b.value)) c.in-Some.is ∙ ap (λ t. Some t) (sym c.deref.ensures) in
    absurd (some_has_slot (encoding_by w) w.slots c.args.number (option_map (λ b. b.value) c.args.one.now) c.deref.result.now is none)
