use Rattle.buffa_bytes.specs.declared.wire_type.WireType.TheVariants.{Fixed32, Fixed64}
use Rattle.buffa_bytes.proofs.UnreadLemmas.{fixed32_stays, fixed64_stays}
use Rattle.std.proofs.lemmas.Result.{err_from_is_err_and}
use Rattle.buffa_bytes.proofs.FullLemmas.{varint_no_full, fixed32_no_full, fixed64_no_full}
use Rattle.buffa_wire.proofs.LeaveLemmas.{leaves_all, leaves_delimited, leaves_varint}
use Rattle.buffa_wire.proofs.SpentLemmas.{takes_bytes}
use Rattle.buffa_wire.proofs.unknown_fields.read.decode_plain.Goals as goal

pub returns-in_err-v-in-Varint-clause-full : goal.returns-in_err-v-in-Varint-clause-full
returns-in_err-v-in-Varint-clause-full g c =
    let p = err_from_is_err_and c.from_residual.result c.from_residual.ensures.1 in
    rw (p.1, p.2) (varint_no_full (g.B.Buf.unread c.args.buf.now) _ c.in_err-v-in-Varint.ensures.reads)

pub returns-in_err-v-in-Fixed64-clause-full : goal.returns-in_err-v-in-Fixed64-clause-full
returns-in_err-v-in-Fixed64-clause-full g c =
    let p = err_from_is_err_and c.from_residual-in_err-v-in-Fixed64.result c.from_residual-in_err-v-in-Fixed64.ensures.1 in
    rw (p.1, p.2) (fixed64_no_full (g.B.Buf.unread c.args.buf.now) _ c.in_err-v-in-Fixed64.ensures.reads)

pub returns-in_err-v-in-Fixed32-clause-full : goal.returns-in_err-v-in-Fixed32-clause-full
returns-in_err-v-in-Fixed32-clause-full g c =
    let p = err_from_is_err_and c.from_residual-in_err-v-in-Fixed32.result c.from_residual-in_err-v-in-Fixed32.ensures.1 in
    rw (p.1, p.2) (fixed32_no_full (g.B.Buf.unread c.args.buf.now) _ c.in_err-v-in-Fixed32.ensures.reads)

pub returns-in_err-v-in-LengthDelimited-clause-full : goal.returns-in_err-v-in-LengthDelimited-clause-full
returns-in_err-v-in-LengthDelimited-clause-full g c =
    let p = err_from_is_err_and c.from_residual-in_err-v-in-LengthDelimited.result c.from_residual-in_err-v-in-LengthDelimited.ensures.1 in
    rw (p.1, p.2, c.in-LengthDelimited.is) (λ k. takes_bytes (g.B.Buf.unread c.args.buf.now) c.in_err-v-in-LengthDelimited.ensures.free (c.in_err-v-in-LengthDelimited.ensures.full k))

pub returns-in_err-v-in-Varint-clause-left : goal.returns-in_err-v-in-Varint-clause-left
returns-in_err-v-in-Varint-clause-left g c =
    leaves_varint c.from_residual.result _ (g.B.Buf.unread c.args.buf.now) _ c.in-Varint.is c.in_err-v-in-Varint.ensures.left

pub returns-in_err-v-in-Fixed64-clause-left : goal.returns-in_err-v-in-Fixed64-clause-left
returns-in_err-v-in-Fixed64-clause-left g c =
    leaves_all c.from_residual-in_err-v-in-Fixed64.result _ Fixed64 (g.B.Buf.unread c.args.buf.now) _ c.in-Fixed64.is (fixed64_stays _) c.in_err-v-in-Fixed64.ensures.left

pub returns-in_err-v-in-Fixed32-clause-left : goal.returns-in_err-v-in-Fixed32-clause-left
returns-in_err-v-in-Fixed32-clause-left g c =
    leaves_all c.from_residual-in_err-v-in-Fixed32.result _ Fixed32 (g.B.Buf.unread c.args.buf.now) _ c.in-Fixed32.is (fixed32_stays _) c.in_err-v-in-Fixed32.ensures.left

pub returns-in_err-v-in-LengthDelimited-clause-left : goal.returns-in_err-v-in-LengthDelimited-clause-left
returns-in_err-v-in-LengthDelimited-clause-left g c =
    let p = err_from_is_err_and c.from_residual-in_err-v-in-LengthDelimited.result c.from_residual-in_err-v-in-LengthDelimited.ensures.1 in
    leaves_delimited c.from_residual-in_err-v-in-LengthDelimited.result _ (g.B.Buf.unread c.args.buf.now) _ c.in-LengthDelimited.is (rw (p.1, p.2) c.in_err-v-in-LengthDelimited.ensures.left)
