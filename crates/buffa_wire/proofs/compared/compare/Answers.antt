use Rattle.std.proofs.Common.{◌≡◌, ◌<◌, ◌^◌, length, take, sym, ap, ◌∙◌, arith}
use Rattle.std.proofs.lemmas.Bool.Decides.{Decides-eqb}
use Rattle.std.proofs.lemmas.List.{take_all}
use Rattle.std.proofs.lemmas.Slice.Eq.{slice_eq-Decides}
use Rattle.buffa_wire.proofs.compared.compare.Goals as goal

pub returns-in-Ok-write_to-clause-same : goal.returns-in-Ok-write_to-clause-same
returns-in-Ok-write_to-clause-same g c = λ _.
    let encoding = g.M.MessageSpec.encoding (g.M.Blank.meaning c.args.message.now) in
    let bytes = c.args.bytes.now in
    let held = c.write_to.new.sink in
    let same : held.bytes.now ≡ bytes = (slice_eq-Decides Decides-eqb held.bytes.now bytes c.eq.result c.eq.ensures).0 c.if-eq.true in
    let w = c.in-Ok-write_to.ensures in
    let small : length encoding < 2 ^ 31 = omega (arith, c.in-Ok.ensures.0, c.if-size-bytes.false, c.requires) in
    sym (w.2.1 small) ∙ sym w.1 ∙ ap (take held.len) same ∙ take_all held.len bytes (omega (arith, c.if-sink-bytes.true))
