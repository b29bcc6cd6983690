use Rattle.std.proofs.Common.{◌≡◌, false, true, sym, ap, ◌∙◌}
use Rattle.std.specs.Str.{is_utf8}
use Rattle.std.proofs.lemmas.Bool.{false_from_ne_true}
use Rattle.std.proofs.lemmas.Str.{IsUtf8-from_is_utf8, is_utf8-from_IsUtf8}
use Rattle.buffa_wire.specs.RecordsOfValues.{field_data_of}
use Rattle.buffa_codec.specs.Strict.{string_fault}
use Rattle.buffa_codec.specs.StrictFacts.{text_fault, text_no_fault}
use Rattle.buffa_codec.proofs.strict.StringCodecStrictSingularCodec.fault.Goals as goal

pub returns-in-Ok : goal.returns-in-Ok
returns-in-Ok c =
    let held = c.in-LengthDelimited.held.items in
    let good : is_utf8 held ≡ true = ap is_utf8 (sym c.as_slice.ensures.value) ∙ is_utf8-from_IsUtf8 c.as_slice.result.now c.in-Ok.ensures.cases.1 in
    text_no_fault c.args.number held good ∙ sym (ap (λ d. string_fault c.args.number (field_data_of d)) c.in-LengthDelimited.is)

pub returns-in-Err : goal.returns-in-Err
returns-in-Err c =
    let held = c.in-LengthDelimited.held.items in
    let bad : is_utf8 c.as_slice.result.now ≡ false = false_from_ne_true (is_utf8 c.as_slice.result.now) (λ h. c.in-Err.ensures.cases.0 (IsUtf8-from_is_utf8 c.as_slice.result.now h)) in
    text_fault c.args.number held (ap is_utf8 (sym c.as_slice.ensures.value) ∙ bad) ∙ sym (ap (λ d. string_fault c.args.number (field_data_of d)) c.in-LengthDelimited.is)
