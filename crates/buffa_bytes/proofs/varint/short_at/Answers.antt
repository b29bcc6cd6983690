use Rattle.std.proofs.Common.{arith}
use Rattle.buffa_bytes.proofs.ReadVarintLemmas.{read_one, read_two, read_three}
use Rattle.buffa_bytes.proofs.varint.short_at.Goals as goal

pub returns-then-first-lt128-clause-reads : goal.returns-then-first-lt128-clause-reads
returns-then-first-lt128-clause-reads c = read_one _ _ _ _ c.in_ok-first.ensures.cases.0 c.if-first-lt128.true c.from.ensures

pub returns-then-second-lt128-clause-reads : goal.returns-then-second-lt128-clause-reads
returns-then-second-lt128-clause-reads c =
    read_two c.args.bytes.now c.in_ok-first.rest.now c.in_ok-second.rest.now c.in_ok-first.first.now c.in_ok-second.second.now _ c.in_ok-first.ensures.cases.0 c.in_ok-second.ensures.cases.0 c.if-first-lt128.false
    c.if-second-lt128.true (omega (arith, c.from-then-second-lt128.ensures, c.from-then-second-lt128-2.ensures))

pub returns-then-third-lt128-clause-reads : goal.returns-then-third-lt128-clause-reads
returns-then-third-lt128-clause-reads c =
    read_three c.args.bytes.now c.in_ok-first.rest.now c.in_ok-second.rest.now c.in_ok-third.field-0-1.now c.in_ok-first.first.now c.in_ok-second.second.now c.in_ok-third.third.now _ c.in_ok-first.ensures.cases.0
    c.in_ok-second.ensures.cases.0 c.in_ok-third.ensures.cases.0 c.if-first-lt128.false c.if-second-lt128.false c.if-third-lt128.true
    (omega (arith, c.from-then-third-lt128.ensures, c.from-then-third-lt128-2.ensures, c.from-then-third-lt128-3.ensures))
