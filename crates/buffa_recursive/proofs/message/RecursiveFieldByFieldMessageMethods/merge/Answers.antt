use Rattle.std.proofs.Common.{[], length, sym}
use Rattle.std.proofs.Math.Seq.{drop-length}
use Rattle.buffa_bytes.proofs.TailLemmas.{tail_dropped}
use Rattle.buffa_recursive.proofs.message.RecursiveFieldByFieldMessageMethods.merge.Goals as goal

pub returns-clause-tail : goal.returns-clause-tail
returns-clause-tail g c =
    let all = c.args.buf.now.now in
    tail_dropped (length all) all [] (sym (drop-length all))
