use Rattle.std.proofs.Common.{Ok, Err, arith}
use Rattle.std.proofs.lemmas.Result.{err_from_is_err_and}
use Rattle.buffa_bytes.proofs.FullLemmas.{tag_no_full}
use Rattle.buffa_wire.proofs.MergeLoopLemmas.{begins, ended, goes_on, no_tag, reached, refused_next, shorter, partly_merged_refused, partly_merged_untagged}
use Rattle.buffa_recursive.proofs.FieldMergeLemmas.{by_self, self_full, self_merged, self_refused}
use Rattle.buffa_recursive.specs.RefusedFields.{IsSelfRefused}
use Rattle.buffa_recursive.proofs.merge.+fn-merge_self-take_by+merge_self.Goals as goal

pub fields-init : goal.fields-init
fields-init g t c = begins (by_self g.M.RecursiveType.COST g.M.RecursiveType.schema g.M.RecursiveType.sound) c.args.depth c.args.message.now c.args.bytes.now c.args.budget.now

pub fields-smaller : goal.fields-smaller
fields-smaller g t c =
    shorter (by_self g.M.RecursiveType.COST g.M.RecursiveType.schema g.M.RecursiveType.sound) c.fields.invariant c.in_ok-tag.tag.number c.in_ok-tag.tag.wire_type c.decode.new.buf.now c.in_ok-tag.ensures.reads c.take_by.new.message c.take_by.new.buf.now _
    (self_merged g.M.RecursiveType.COST g.M.RecursiveType.schema g.M.RecursiveType.sound c.args.depth c.fields.message c.take_by.new.message c.in_ok-tag.tag.number c.in_ok-tag.tag.wire_type c.decode.new.buf.now c.take_by.new.buf.now c.fields.budget _ (Ok tt) c.in_ok-take_by.ensures.taken c.in_ok-take_by.ensures.whole)

pub fields-preserved : goal.fields-preserved
fields-preserved g t c =
    goes_on (by_self g.M.RecursiveType.COST g.M.RecursiveType.schema g.M.RecursiveType.sound) c.fields.invariant c.in_ok-tag.tag.number c.in_ok-tag.tag.wire_type c.decode.new.buf.now c.in_ok-tag.ensures.reads c.take_by.new.message c.take_by.new.buf.now _
    (self_merged g.M.RecursiveType.COST g.M.RecursiveType.schema g.M.RecursiveType.sound c.args.depth c.fields.message c.take_by.new.message c.in_ok-tag.tag.number c.in_ok-tag.tag.wire_type c.decode.new.buf.now c.take_by.new.buf.now c.fields.budget _ (Ok tt) c.in_ok-take_by.ensures.taken c.in_ok-take_by.ensures.whole)

pub returns-in_err-tag-clause-merged : goal.returns-in_err-tag-clause-merged
returns-in_err-tag-clause-merged g t c =
    let p = err_from_is_err_and c.from_residual.result c.from_residual.ensures.1 in
    rw (p.1, p.2) (no_tag (by_self g.M.RecursiveType.COST g.M.RecursiveType.schema g.M.RecursiveType.sound) c.fields.invariant c.in_err-tag.field-0.0 (omega (arith, c.remaining.ensures, c.fields-test.true)) c.in_err-tag.ensures.reads)

pub returns-in_err-tag-clause-partly : goal.returns-in_err-tag-clause-partly
returns-in_err-tag-clause-partly g t c =
    let p = err_from_is_err_and c.from_residual.result c.from_residual.ensures.1 in
    rw (p.1, p.2) (partly_merged_untagged (by_self g.M.RecursiveType.COST g.M.RecursiveType.schema g.M.RecursiveType.sound) c.fields.invariant (IsSelfRefused g.M.RecursiveType.COST g.M.RecursiveType.schema g.M.RecursiveType.sound) c.in_err-tag.field-0.0 (omega (arith, c.remaining.ensures, c.fields-test.true)) c.in_err-tag.ensures.reads)

pub returns-in_err-tag-clause-full : goal.returns-in_err-tag-clause-full
returns-in_err-tag-clause-full g t c =
    let p = err_from_is_err_and c.from_residual.result c.from_residual.ensures.1 in
    rw (p.1, p.2) (tag_no_full c.fields.rest.now c.in_err-tag.field-0.0 c.in_err-tag.ensures.reads)

pub returns-in_err-take_by-clause-merged : goal.returns-in_err-take_by-clause-merged
returns-in_err-take_by-clause-merged g t c =
    let e = c.in_err-take_by.field-0.0 in
    let p = err_from_is_err_and c.from_residual-in_err-take_by.result c.from_residual-in_err-take_by.ensures.1 in
    rw (p.1, p.2) (refused_next (by_self g.M.RecursiveType.COST g.M.RecursiveType.schema g.M.RecursiveType.sound) c.fields.invariant c.in_ok-tag.tag.number c.in_ok-tag.tag.wire_type c.decode.new.buf.now c.in_ok-tag.ensures.reads e c.take_by.new.message c.take_by.new.buf.now _
    (self_merged g.M.RecursiveType.COST g.M.RecursiveType.schema g.M.RecursiveType.sound c.args.depth c.fields.message c.take_by.new.message c.in_ok-tag.tag.number c.in_ok-tag.tag.wire_type c.decode.new.buf.now c.take_by.new.buf.now c.fields.budget _ (Err e) c.in_err-take_by.ensures.taken tt))

pub returns-in_err-take_by-clause-partly : goal.returns-in_err-take_by-clause-partly
returns-in_err-take_by-clause-partly g t c =
    let e = c.in_err-take_by.field-0.0 in
    let p = err_from_is_err_and c.from_residual-in_err-take_by.result c.from_residual-in_err-take_by.ensures.1 in
    rw (p.1, p.2) (partly_merged_refused (by_self g.M.RecursiveType.COST g.M.RecursiveType.schema g.M.RecursiveType.sound) c.fields.invariant c.in_ok-tag.tag.number c.in_ok-tag.tag.wire_type c.decode.new.buf.now c.in_ok-tag.ensures.reads (IsSelfRefused g.M.RecursiveType.COST g.M.RecursiveType.schema g.M.RecursiveType.sound) e c.take_by.new.message c.take_by.new.buf.now _
    (self_merged g.M.RecursiveType.COST g.M.RecursiveType.schema g.M.RecursiveType.sound c.args.depth c.fields.message c.take_by.new.message c.in_ok-tag.tag.number c.in_ok-tag.tag.wire_type c.decode.new.buf.now c.take_by.new.buf.now c.fields.budget _ (Err e) c.in_err-take_by.ensures.taken tt)
    (self_refused g.M.RecursiveType.COST g.M.RecursiveType.schema g.M.RecursiveType.sound c.args.depth c.fields.message c.take_by.new.message c.in_ok-tag.tag.number c.in_ok-tag.tag.wire_type c.decode.new.buf.now c.take_by.new.buf.now c.fields.budget _ (Err e) c.in_err-take_by.ensures.taken)
    (self_full g.M.RecursiveType.COST g.M.RecursiveType.schema g.M.RecursiveType.sound c.args.depth c.fields.message c.take_by.new.message c.in_ok-tag.tag.number c.in_ok-tag.tag.wire_type c.decode.new.buf.now c.take_by.new.buf.now c.fields.budget _ (Err e) c.in_err-take_by.ensures.taken))

pub returns-in_err-take_by-clause-full : goal.returns-in_err-take_by-clause-full
returns-in_err-take_by-clause-full g t c =
    let e = c.in_err-take_by.field-0.0 in
    let p = err_from_is_err_and c.from_residual-in_err-take_by.result c.from_residual-in_err-take_by.ensures.1 in
    rw (p.1, p.2) (λ h. reached (by_self g.M.RecursiveType.COST g.M.RecursiveType.schema g.M.RecursiveType.sound) c.fields.invariant c.in_ok-tag.tag.number c.in_ok-tag.tag.wire_type c.decode.new.buf.now c.in_ok-tag.ensures.reads
    (self_full g.M.RecursiveType.COST g.M.RecursiveType.schema g.M.RecursiveType.sound c.args.depth c.fields.message c.take_by.new.message c.in_ok-tag.tag.number c.in_ok-tag.tag.wire_type c.decode.new.buf.now c.take_by.new.buf.now c.fields.budget _ (Err e) c.in_err-take_by.ensures.taken h))

pub returns-clause-merged : goal.returns-clause-merged
returns-clause-merged g t c = ended (by_self g.M.RecursiveType.COST g.M.RecursiveType.schema g.M.RecursiveType.sound) c.fields.invariant (omega (arith, c.remaining.ensures, c.fields-test.false))
