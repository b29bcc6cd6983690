use Rattle.std.proofs.Common.{sym, ◌∙◌, ap}
use Rattle.std.proofs.lemmas.Bool.{false≢true}
use Rattle.std.proofs.lemmas.Iterator.Adapters.{option_map_id}
use Rattle.std.proofs.lemmas.Result.{IfOk-weaker}
use Rattle.sample_validator.specs.Options.{int32_option}
use Rattle.sample_validator.proofs.OptionLemmas.{made_or, never_refused}
use Rattle.sample_validator.proofs.options.max_length_or_default.Goals as goal

pub returns-clause-value : goal.returns-clause-value
returns-clause-value c =
    let rs = c.args.options.now.fields.records in
    IfOk-weaker c.extension_or_default.result _ _ (λ v h.
    made_or (int32_option 50001 rs) _ h
    (λ o k. sym (option_map_id o) ∙ k ∙ ap (λ n. int32_option n rs) c.with_default-max_length.ensures.number)
    (λ a w q. q.1.0)) c.extension_or_default.ensures.value

pub returns-clause-always : goal.returns-clause-always
returns-clause-always c = never_refused _ _ c.extension_or_default.result _ c.extension_or_default.ensures.full (λ a e q. false≢true q.1.1)
