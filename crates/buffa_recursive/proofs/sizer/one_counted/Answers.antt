use Rattle.std.proofs.lemmas.Result.{err_from_is_err_and}
use Rattle.std.specs.Option.{option_map}
use Rattle.buffa_recursive.specs.Fixpoint.{semantics}
use Rattle.buffa_recursive.specs.facts.MemberPassFacts.{other_counted, other_failed}
use Rattle.buffa_recursive.specs.InnerMessages.{child_shape}
use Rattle.buffa_recursive.proofs.sizer.one_counted.Goals as goal

pub returns : goal.returns
returns g c = λ name z h.
    let o = g.M.RecursiveType.schema in
    let s = child_shape (semantics g.M.RecursiveType.COST o g.M.RecursiveType.sound) in
    other_counted o.of_option o.option_of o.option_again s c.args.number (option_map (λ b. b.value) c.args.one.now) z name c.args.cache.now c.one_len.new.cache c.args.total _ _ h c.in_ok-len.ensures.sized c.saturating_add.ensures

pub returns-in_err-len : goal.returns-in_err-len
returns-in_err-len g c =
    let o = g.M.RecursiveType.schema in
    let s = child_shape (semantics g.M.RecursiveType.COST o g.M.RecursiveType.sound) in
    let e = c.in_err-len.field-0.0 in
    let p = err_from_is_err_and c.from_residual.result c.from_residual.ensures.1 in
    rw (p.1, p.2) (λ name z h.
    other_failed o.of_option o.option_of o.option_again s c.args.number (option_map (λ b. b.value) c.args.one.now) z name c.args.cache.now c.one_len.new.cache c.args.total e h c.in_err-len.ensures.sized c.in_err-len.ensures.always)
