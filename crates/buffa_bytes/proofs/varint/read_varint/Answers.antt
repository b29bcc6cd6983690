use Rattle.std.proofs.Common.{Ok, ap, sym, ◌∙◌}
use Rattle.buffa_bytes.proofs.ReadVarintLemmas.{read_of_all}
use Rattle.buffa_bytes.proofs.varint.read_varint.Goals as goal

pub returns-clause-reads : goal.returns-clause-reads
returns-clause-reads g c =
    read_of_all c.in-Some.n c.in-Some.len c.chunk.result.now (g.B.Buf.unread c.args.buf.now) c.chunk.ensures c.in-Some.ensures.within c.in-Some.ensures.reads ∙ ap (λ z. Ok (c.in-Some.n, z)) (sym c.advance.ensures.rest)
