use Rattle.std.proofs.Common.{ap, ◌∙◌, subst, inr}
use Rattle.std.proofs.lemmas.Result.{err_from_is_err_and}
use Rattle.buffa_codec.specs.RecordsOfNumber.{sub}
use Rattle.buffa_codec.proofs.FilteredLemmas.{sub-set}
use Rattle.buffa_ext.proofs.back.set_then_read.Goals as goal

pub returns-clause-value : goal.returns-clause-value
returns-clause-value g c =
    let t = g.C.ExtensionCodec in
    let n = c.args.ext.now.number in
    let v = t.meaning c.args.value in
    g.met.C.ExtensionCodec.reads_back v (t.answer c.in_ok-extension.field-0) c.in_ok-set_extension.ensures.fits c.requires.normal
    (subst (λ ds. t.reads ds (t.answer c.in_ok-extension.field-0))
    (ap (sub n) c.in_ok-set_extension.ensures.ok ∙ sub-set n (g.M.ExtensionSet.fields_of c.args.message.now).records (t.extension_data v))
    c.in_ok-extension.ensures.value)

pub returns-in_err-extension-clause-err : goal.returns-in_err-extension-clause-err
returns-in_err-extension-clause-err g c =
    let t = g.C.ExtensionCodec in
    let n = c.args.ext.now.number in
    let v = t.meaning c.args.value in
    let p = err_from_is_err_and c.from_residual-in_err-extension.result c.from_residual-in_err-extension.ensures.1 in
    rw p.1 (inr (
      c.in_ok-set_extension.ensures.ok,
      c.in_ok-set_extension.ensures.refused,
      subst t.asks
          (ap (sub n) c.in_ok-set_extension.ensures.ok ∙ sub-set n (g.M.ExtensionSet.fields_of c.args.message.now).records (t.extension_data v)) c.in_err-extension.ensures.full,
    ))

pub returns-in_err-extension-clause-full : goal.returns-in_err-extension-clause-full
returns-in_err-extension-clause-full g c =
    let t = g.C.ExtensionCodec in
    let n = c.args.ext.now.number in
    let v = t.meaning c.args.value in
    let p = err_from_is_err_and c.from_residual-in_err-extension.result c.from_residual-in_err-extension.ensures.1 in
    rw p.1 (inr (subst t.asks (ap (sub n) c.in_ok-set_extension.ensures.ok ∙ sub-set n (g.M.ExtensionSet.fields_of c.args.message.now).records (t.extension_data v)) c.in_err-extension.ensures.full))
