use Rattle.std.proofs.Common.{ap, subst}
use Rattle.std.proofs.lemmas.Result.{on_err_weaker}
use Rattle.buffa_codec.specs.Decoded.{HasByte, string_held}
use Rattle.sample_validator.specs.Options.{string_option}
use Rattle.sample_validator.proofs.OptionLemmas.{last_has_byte}
use Rattle.sample_validator.proofs.options.read_label.Goals as goal

pub returns-clause-full : goal.returns-clause-full
returns-clause-full c =
    let rs = c.args.options.now.fields.records in
    on_err_weaker c.extension.result (λ h. subst HasByte (ap (λ n. string_option n rs) c.new-label.ensures.number) (last_has_byte string_held _ h)) c.extension.ensures.full
