use Rattle.std.proofs.Common.{subst, ◌∙◌, sym}
use Rattle.std.proofs.lemmas.Result.{err_from_is_err_and}
use Rattle.buffa_fields.specs.Terms.{BeginsField}
use Rattle.buffa_types.proofs.messages.any.Any.unpack_as.Goals as goal

pub returns-in_err-decode_from_slice-clause-full :
    goal.returns-in_err-decode_from_slice-clause-full
returns-in_err-decode_from_slice-clause-full g c =
    let made = err_from_is_err_and c.from_residual.result c.from_residual.ensures.1 in
    let begins = c.in_err-decode_from_slice.ensures.full in
    rw made.1 (λ full. subst BeginsField c.deref.ensures.value (begins (sym made.2 ∙ full)))
