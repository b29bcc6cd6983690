use Rattle.sample_validator.specs.Options.{IsMalformed}
use Rattle.std.proofs.Common.{subst}
use Rattle.sample_validator.proofs.OptionLemmas.{only_fault}
use Rattle.sample_validator.proofs.options.read_bool_strictly.Goals as goal

pub returns-clause-fault : goal.returns-clause-fault
returns-clause-fault c =
    let rs = c.args.options.now.fields.records in
    only_fault c.read_extension.result _ _ _ (λ h. h.3) (λ e h. subst (λ n. IsMalformed n rs e) c.new-strict.ensures.number h) c.read_extension.ensures.fault
