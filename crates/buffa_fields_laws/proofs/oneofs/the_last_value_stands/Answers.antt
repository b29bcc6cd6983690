use Rattle.std.proofs.Common.{Some, ap, refl, ◌∙◌}
use Rattle.std.proofs.lemmas.Bool.{eq-eqb}
use Rattle.std.specs.Option.{option_map}
use Rattle.buffa_fields.specs.declared.meaning.Or.TheVariants.{This}
use Rattle.buffa_fields_laws.proofs.RecordLemmas.{value_is_taken}
use Rattle.buffa_fields_laws.proofs.oneofs.the_last_value_stands.Goals as goal

pub returns : goal.returns
returns g k = λ n d o x p c known has reads.
    let codec = g.C.MapValueDecode.reading in
    let start = ap (λ z. codec.reads d z c) g.met.C.MapValueDecode.blank in
    rw (eq-eqb n n refl) (ap (option_map (option_map This)) (ap (option_map (λ z. Some z))
    (value_is_taken g.C.MapValueDecode.reading g.met.C.MapCodec.plain g.C.MapValueDecode.WIRE_TYPE g.met.C.MapValueDecode.wire d n p c has codec.blank (x, known) (start ∙ reads))))
