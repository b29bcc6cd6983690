use Rattle.buffa_codec.proofs.TakesLemmas.{takes_text}
use Rattle.std.proofs.Common.{◌≡◌, ◌++◌, ℕ, List, length, false, true, None, Some, refl, sym, ap, ◌∙◌}
use Rattle.std.specs.Str.{is_utf8}
use Rattle.std.proofs.lemmas.Bool.{false_from_ne_true, false≢true}
use Rattle.std.proofs.lemmas.Str.{IsUtf8-from_is_utf8, is_utf8-from_IsUtf8}
use Rattle.buffa_wire.specs.Records.{bytes}
use Rattle.buffa_wire.specs.RecordsOfValues.{field_data_of}
use Rattle.buffa_codec.specs.Decoded.{string_held}
use Rattle.buffa_codec.specs.CodecFacts.{string_back}
use Rattle.buffa_codec.proofs.delimited.StringCodecSingularCodec.decode_one.Goals as goal

held_not : (b : List ℕ) → is_utf8 b ≡ false → None ≡ string_held (bytes b)
held_not b h = rw h refl

pub returns-in_default-from_utf8-clause-reads : goal.returns-in_default-from_utf8-clause-reads
returns-in_default-from_utf8-clause-reads c =
    let held = c.in-LengthDelimited.held.items in
    let bad : is_utf8 c.as_slice.result.now ≡ false = false_from_ne_true (is_utf8 c.as_slice.result.now) (λ h. c.in_default-from_utf8.ensures.cases.0 (IsUtf8-from_is_utf8 c.as_slice.result.now h)) in
    held_not held (ap is_utf8 (sym c.as_slice.ensures.value) ∙ bad) ∙ sym (ap (λ d. string_held (field_data_of d)) c.in-LengthDelimited.is)

pub returns-clause-reads : goal.returns-clause-reads
returns-clause-reads c =
    let held = c.in-LengthDelimited.held.items in
    let good : is_utf8 held ≡ true = ap is_utf8 (sym c.as_slice.ensures.value) ∙ is_utf8-from_IsUtf8 c.as_slice.result.now c.in-Ok.ensures.cases.1 in
    ap (λ b. Some b) (c.in_ok-push_str.ensures.bytes ∙ ap (λ l. l ++ c.in-Ok.text.now) c.in_ok-owned.ensures.bytes ∙ c.in-Ok.ensures.cases.0 ∙ c.as_slice.ensures.value) ∙ sym (string_back held good) ∙ sym (ap (λ d. string_held (field_data_of d)) c.in-LengthDelimited.is)

pub returns-in_err-owned-clause-full : goal.returns-in_err-owned-clause-full
returns-in_err-owned-clause-full c =
    let held = c.in-LengthDelimited.held.items in
    let good : is_utf8 held ≡ true = ap is_utf8 (sym c.as_slice.ensures.value) ∙ is_utf8-from_IsUtf8 c.as_slice.result.now c.in-Ok.ensures.cases.1 in
    takes_text c.from_residual.result (field_data_of c.args.payload.now) held (sym (string_back held good) ∙ sym (ap (λ d. string_held (field_data_of d)) c.in-LengthDelimited.is))
    (λ none. false≢true (c.in_err-owned.ensures.succeeds (ap length (c.in-Ok.ensures.cases.0 ∙ c.as_slice.ensures.value ∙ none))))
