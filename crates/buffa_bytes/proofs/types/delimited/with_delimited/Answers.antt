use Rattle.std.proofs.Common.{◌∙◌, refl}
use Rattle.std.proofs.lemmas.Result.{err_from_is_err_and}
use Rattle.buffa_bytes.proofs.DelimitedLemmas.{after_length}
use Rattle.buffa_bytes.proofs.UnreadLemmas.{left_no_length, left_passed, left_refused, left_taken}
use Rattle.buffa_bytes.proofs.LendLemmas.{delimited_front, lends_front, lends_refused}
use Rattle.buffa_bytes.proofs.types.delimited.with_delimited.Goals as goal

pub read-answer-requires : goal.read-answer-requires
read-answer-requires g c = c.requires _ _ (delimited_front _ _ _ _ c.in_ok-len.ensures.reads c.in-Some.ensures) _ refl

pub read-requires : goal.read-requires
read-requires g c = c.requires _ _ (after_length _ _ _ c.in_ok-len.ensures.reads ∙ c.in_ok-bytes.ensures.reads) _ c.deref.ensures.value

pub returns-in_err-len-clause-left : goal.returns-in_err-len-clause-left
returns-in_err-len-clause-left g c =
    let p = err_from_is_err_and c.from_residual.result c.from_residual.ensures.1 in
    left_no_length p.1 p.2 (g.B.Buf.unread c.args.buf.now) _ c.in_err-len.ensures.reads c.in_err-len.ensures.left

pub returns-in-Some-clause-lends : goal.returns-in-Some-clause-lends
returns-in-Some-clause-lends g c =
    lends_front g.F.FnMut _ _ _ c.in-Some.bytes _ _ _ _ c.in_ok-len.ensures.reads c.in-Some.ensures c.advance.ensures.rest c.read-answer.ensures

pub returns-in-Some-clause-left : goal.returns-in-Some-clause-left
returns-in-Some-clause-left g c =
    left_passed c.read-answer.result _ _ _ _ _ c.in_ok-len.ensures.reads c.in-Some.ensures c.advance.ensures.rest

pub returns-in_err-bytes-clause-lends : goal.returns-in_err-bytes-clause-lends
returns-in_err-bytes-clause-lends g c =
    let p = err_from_is_err_and c.from_residual-in_err-bytes.result c.from_residual-in_err-bytes.ensures.1 in
    lends_refused g.F.FnMut _ _ _ _ _ _ _ _ p.1 p.2 c.in_ok-len.ensures.reads c.in_err-bytes.ensures.reads c.in_err-bytes.ensures.full (λ none. absurd (let e = c.in_err-bytes.ensures.free none in cc))

pub returns-in_err-bytes-clause-left : goal.returns-in_err-bytes-clause-left
returns-in_err-bytes-clause-left g c =
    let p = err_from_is_err_and c.from_residual-in_err-bytes.result c.from_residual-in_err-bytes.ensures.1 in
    left_refused p.1 p.2 _ (g.B.Buf.unread c.args.buf.now) _ _ c.in_ok-len.ensures.reads c.in_err-bytes.ensures.reads c.in_err-bytes.ensures.short c.in_err-bytes.ensures.within

pub returns-clause-left : goal.returns-clause-left
returns-clause-left g c =
    left_taken c.read.result _ (g.B.Buf.unread c.args.buf.now) _ _ _ c.in_ok-len.ensures.reads c.in_ok-bytes.ensures.reads
