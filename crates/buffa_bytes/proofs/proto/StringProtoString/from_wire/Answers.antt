use Rattle.std.proofs.Common.{rules, ◌≡◌, false, refl, string_bytes}
use Rattle.std.specs.Str.{is_utf8}
use Rattle.std.proofs.lemmas.Bool.{false_from_ne_true}
use Rattle.std.proofs.lemmas.Result.{err_from_is_err_and}
use Rattle.std.proofs.lemmas.Str.{IsUtf8-from_is_utf8, is_utf8-from_IsUtf8}
use Rattle.buffa_bytes.proofs.proto.StringProtoString.from_wire.Goals as goal

pub returns-in_default-clause-reads : goal.returns-in_default-clause-reads
returns-in_default-clause-reads c ne =
    let bad : is_utf8 c.args.bytes.now ≡ false = false_from_ne_true (is_utf8 c.args.bytes.now) (λ h. c.in_default.ensures.cases.0 (IsUtf8-from_is_utf8 c.args.bytes.now h)) in
    rw bad refl

pub returns-in_err-owned-clause-full : goal.returns-in_err-owned-clause-full
returns-in_err-owned-clause-full c =
    let p = err_from_is_err_and c.from_residual.result c.from_residual.ensures.1 in
    rw p.1 (λ e. is_utf8-from_IsUtf8 c.args.bytes.now c.in-Ok.ensures.cases.1)

pub returns-clause-reads : goal.returns-clause-reads
returns-clause-reads c =
    let same : string_bytes c.push_str.new.self ≡ c.args.bytes.now = search rules in
    rw (is_utf8-from_IsUtf8 c.args.bytes.now c.in-Ok.ensures.cases.1, same) refl
