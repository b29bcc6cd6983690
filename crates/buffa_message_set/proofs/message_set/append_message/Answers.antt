use Rattle.std.proofs.Common.{◌∙◌}
use Rattle.std.proofs.lemmas.Result.{err_from_is_err_and}
use Rattle.buffa_bytes.proofs.FullLemmas.{varint_no_full}
use Rattle.buffa_bytes.proofs.TailLemmas.{tail_more}
use Rattle.buffa_message_set.proofs.ItemLemmas.{full_bytes, no_bytes}
use Rattle.buffa_message_set.proofs.message_set.append_message.Goals as goal

pub returns-in_err-len-clause-full : goal.returns-in_err-len-clause-full
returns-in_err-len-clause-full g c =
    let p = err_from_is_err_and c.from_residual.result c.from_residual.ensures.1 in
    rw (p.1, p.2) (varint_no_full (g.B.Buf.unread c.args.buf.now) _ c.in_err-len.ensures.reads)

pub returns-then-len-eq0-clause-reads : goal.returns-then-len-eq0-clause-reads
returns-then-len-eq0-clause-reads g c = no_bytes _ _ _ _ c.in_ok-len.ensures.reads c.if-len-eq0.true

pub returns-clause-full : goal.returns-clause-full
returns-clause-full g c =
    full_bytes c.append_bytes.result _ _ _ c.in_ok-len.ensures.reads c.if-len-eq0.false c.append_bytes.ensures.full

pub returns-in_err-len-clause-kept : goal.returns-in_err-len-clause-kept
returns-in_err-len-clause-kept g c = c.in_err-len.ensures.kept

pub returns-in_err-len-clause-tail : goal.returns-in_err-len-clause-tail
returns-in_err-len-clause-tail g c = c.in_err-len.ensures.tail

pub returns-then-len-eq0-clause-kept : goal.returns-then-len-eq0-clause-kept
returns-then-len-eq0-clause-kept g c = c.in_ok-len.ensures.kept

pub returns-then-len-eq0-clause-tail : goal.returns-then-len-eq0-clause-tail
returns-then-len-eq0-clause-tail g c = c.in_ok-len.ensures.tail

pub returns-clause-reads : goal.returns-clause-reads
returns-clause-reads g c = c.append_bytes.ensures.reads _ c.in_ok-len.ensures.reads

pub returns-clause-kept : goal.returns-clause-kept
returns-clause-kept g c = c.append_bytes.ensures.kept ∙ c.in_ok-len.ensures.kept

pub returns-clause-tail : goal.returns-clause-tail
returns-clause-tail g c = tail_more _ _ _ c.append_bytes.ensures.tail c.in_ok-len.ensures.tail
