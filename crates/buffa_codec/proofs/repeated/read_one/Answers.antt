use Rattle.std.proofs.Common.{sym, ap, ◌∙◌, option_map}
use Rattle.buffa_wire.specs.RecordsOfValues.{field_data_of}
use Rattle.buffa_codec.proofs.TakesLemmas.{takes_own, takes_value, takes_packed}
use Rattle.buffa_codec.proofs.repeated.read_one.Goals as goal

pub returns-in_err-v-clause-full : goal.returns-in_err-v-clause-full
returns-in_err-v-clause-full g c =
    let t = g.C.SingularCodec in
    takes_own c.from_residual.result t.asks (t.one 100) t.packed (field_data_of c.args.payload.now) c.in_err-v.ensures.full

pub returns-in_err-push-in-Some-clause-full : goal.returns-in_err-push-in-Some-clause-full
returns-in_err-push-in-Some-clause-full g c =
    let t = g.C.SingularCodec in
    takes_value c.from_residual-in_err-push-in-Some.result t.asks (t.one 100) t.packed (field_data_of c.args.payload.now) c.args.budget.now (g.C.Value.Blank.meaning c.in-Some.v)
    (sym c.in_ok-v.ensures.reads ∙ ap (option_map g.C.Value.Blank.meaning) c.in-Some.is)

pub returns-in_err-decode_packed-in-None-clause-full : goal.returns-in_err-decode_packed-in-None-clause-full
returns-in_err-decode_packed-in-None-clause-full g c =
    let t = g.C.SingularCodec in
    takes_packed c.from_residual-in_err-decode_packed-in-None.result t.asks (t.one 100) t.packed (field_data_of c.args.payload.now) c.args.budget.now c.in-LengthDelimited.bytes.items
    (ap field_data_of c.in-LengthDelimited.is) (sym c.in_ok-v.ensures.reads ∙ ap (option_map g.C.Value.Blank.meaning) c.in-None.is)
    (rw (sym c.as_slice.ensures.value) c.in_err-decode_packed-in-None.ensures.full)
