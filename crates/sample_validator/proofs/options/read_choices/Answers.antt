use Rattle.std.proofs.Common.{sym, ◌∙◌, ap}
use Rattle.std.proofs.lemmas.List.{map-id}
use Rattle.std.proofs.lemmas.Result.{on_err_weaker, IfOk-weaker}
use Rattle.sample_validator.specs.Options.{int32_list}
use Rattle.sample_validator.proofs.ListLemmas.{has_number, in_list}
use Rattle.sample_validator.proofs.options.read_choices.Goals as goal

pub returns-clause-value : goal.returns-clause-value
returns-clause-value c =
    let rs = c.args.options.now.fields.records in
    IfOk-weaker c.extension.result _ _ (λ v h. sym (map-id _) ∙ in_list _ _ h ∙ ap (λ n. int32_list n rs) c.new-choices.ensures.number) c.extension.ensures.value

pub returns-clause-full : goal.returns-clause-full
returns-clause-full c =
    let rs = c.args.options.now.fields.records in
    on_err_weaker c.extension.result (λ h none. has_number _ h (ap (λ n. int32_list n rs) c.new-choices.ensures.number ∙ none)) c.extension.ensures.full
