use Rattle.std.proofs.Common.{refl, rules}
use Rattle.buffamap.proofs.WrittenLemmas.{read_to_end}
use Rattle.buffamap.proofs.stream.read_whole.Goals as goal

pub returns-in-Ok-eq0-clause-bytes : goal.returns-in-Ok-eq0-clause-bytes
returns-in-Ok-eq0-clause-bytes g c =
    let read = rw c.in-Ok-eq0.field-0-test at c.in-Ok-eq0.ensures.bytes in
    read_to_end _ _ _ c.loop.bytes.items c.loop.invariant.so_far read.0 (read.1 refl (search rules))
