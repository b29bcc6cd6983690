use Rattle.std.proofs.Common.{true, refl, sym, ap, subst, ◌∙◌, option_map}
use Rattle.buffa_wire.specs.BudgetLeft.{Pays}
use Rattle.buffa_wire.specs.RecordsOfValues.{field_data_of}
use Rattle.conformance_extensions.proofs.normal.pay.Goals as goal

pub returns-in-Some : goal.returns-in-Some
returns-in-Some g c =
    let t = g.C.SingularCodec in
    let m = g.C.Value.Blank.meaning in
    let left = c.decode_one_ctx.new.ctx.1.0 in
    subst (λ d. Pays c.args.budget.now (t.cost d) left) c.in_ok-payload.ensures
    (g.met.C.SingularCodec.spends_cost c.args.budget.now left (field_data_of c.in_ok-payload.payload) (m c.in-Some.field-0)
    (sym c.in_ok-found.ensures.reads ∙ ap (option_map m) c.in-Some.is) (c.in_ok-found.ensures.leaves (refl {a = true})))
