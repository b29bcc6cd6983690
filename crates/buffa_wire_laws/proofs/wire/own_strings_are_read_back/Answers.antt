use Rattle.buffa_bytes.proofs.OwnLemmas.{own_string_back}
use Rattle.buffa_wire_laws.proofs.wire.own_strings_are_read_back.Goals as goal

pub returns : goal.returns
returns g c = λ value rest h. own_string_back g.S.ProtoString.of_text (g.S.ProtoString.text (g.S.Blank.meaning value)) (g.S.Blank.meaning value) rest h (g.met.S.ProtoString.is_text value) (g.met.S.ProtoString.meaning_stays (g.S.Blank.meaning value))
