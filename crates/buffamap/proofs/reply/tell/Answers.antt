use Rattle.std.proofs.Common.{inl, codes, ◌++◌}
use Rattle.buffa_bytes.specs.ErrorText.{decode_error_text, encode_error_text}
use Rattle.buffamap.specs.Reply.{line}
use Rattle.buffamap.proofs.EngineLemmas.{named_or_not}
use Rattle.std.proofs.KnownBytes.{Appends-nil}
use Rattle.buffamap.proofs.reply.tell.Goals as goal

pub returns-in-Words-clause-reported : goal.returns-in-Words-clause-reported
returns-in-Words-clause-reported g c =
    rw c.in-Words.is (inl (inl (c.complain.ensures.status, Appends-nil (g.B.WriteCalls.contents c.args.output.now), c.complain.ensures.line)))

pub returns-in-Stream-clause-reported : goal.returns-in-Stream-clause-reported
returns-in-Stream-clause-reported g c =
    rw c.in-Stream.is (inl (inl (c.complain-in-Stream.ensures.status, Appends-nil (g.B.WriteCalls.contents c.args.output.now), c.complain-in-Stream.ensures.line)))

pub returns-in-Form-clause-reported : goal.returns-in-Form-clause-reported
returns-in-Form-clause-reported g c = rw c.in-Form.is (inl c.finish.ensures.reply)

pub returns-in-OutOfMemory-clause-reported : goal.returns-in-OutOfMemory-clause-reported
returns-in-OutOfMemory-clause-reported g c = rw c.in-OutOfMemory.is (inl c.finish-in-OutOfMemory.ensures.reply)

pub returns-in-RefusedBytes-clause-reported : goal.returns-in-RefusedBytes-clause-reported
returns-in-RefusedBytes-clause-reported g c =
    rw c.in-RefusedBytes.is (named_or_not c.line_of_bytes.result (line (codes "fault " ++ decode_error_text c.in-RefusedBytes.error)) _ _
    c.finish_named.result c.line_of_bytes.ensures c.finish_named.ensures.line)

pub returns-in-RefusedEncoding-clause-reported : goal.returns-in-RefusedEncoding-clause-reported
returns-in-RefusedEncoding-clause-reported g c =
    rw c.in-RefusedEncoding.is (named_or_not c.line_of_encoding.result (line (codes "fault " ++ encode_error_text c.in-RefusedEncoding.error)) _ _
    c.finish_named-in-RefusedEncoding.result c.line_of_encoding.ensures c.finish_named-in-RefusedEncoding.ensures.line)
