use Rattle.std.proofs.Common.{arith}
use Rattle.std.proofs.lemmas.Result.{err_from_is_err_and}
use Rattle.buffa_frames.proofs.StreamLemmas.{hindered_part, hindered_stops, part_read, reads_read, short_read, whole_held}
use Rattle.buffa_frames.proofs.reader.fill.Goals as goal

pub returns-in_err-read_behind-clause-err : goal.returns-in_err-read_behind-clause-err
returns-in_err-read_behind-clause-err g c =
    let p = err_from_is_err_and c.from_residual-in_err-read_behind.result c.from_residual-in_err-read_behind.ensures.1 in
    hindered_stops p.1 p.2 c.args.maximum c.loop-missing.missing c.loop-missing.held.items c.read_behind.new.held.items _ (g.R.Read.remaining c.read_behind.new.stream) c.in_err-read_behind.ensures.err c.loop-missing.invariant.missing c.loop-missing-test.true

pub returns-in_err-read_behind-clause-part : goal.returns-in_err-read_behind-clause-part
returns-in_err-read_behind-clause-part g c =
    hindered_part c.args.maximum c.loop-missing.held.items c.read_behind.new.held.items _ _ _ c.in_err-read_behind.ensures.err c.loop-missing.invariant.part

pub returns-else-is_empty-clause-part : goal.returns-else-is_empty-clause-part
returns-else-is_empty-clause-part g c =
    part_read c.args.maximum _ c.loop-missing.missing c.loop-missing.held.items c.read_behind.new.held.items _ _ c.loop-missing.invariant.part c.loop-missing.invariant.missing c.in_ok-read_behind.ensures.ok

pub returns-in_err-missing-2-clause-part : goal.returns-in_err-missing-2-clause-part
returns-in_err-missing-2-clause-part g c =
    part_read c.args.maximum _ c.loop-missing.missing c.loop-missing.held.items c.read_behind.new.held.items _ _ c.loop-missing.invariant.part c.loop-missing.invariant.missing c.in_ok-read_behind.ensures.ok

pub loop-missing-preserved : goal.loop-missing-preserved
loop-missing-preserved g c =
    let h = c.loop-missing.invariant in
    let r = c.in_ok-read_behind.ensures.ok in
    let short = short_read c.args.maximum c.in_ok-read_behind.field-0 c.loop-missing.missing c.loop-missing.held.items c.read_behind.new.held.items _ _ h.missing c.loop-missing-test.true r in
    record {
      missing = rw c.deref-in-loop-missing.ensures.value at c.in_ok-missing-2.ensures.ok;
      part = part_read c.args.maximum c.in_ok-read_behind.field-0 c.loop-missing.missing c.loop-missing.held.items c.read_behind.new.held.items _ _ h.part h.missing r;
      reads = reads_read c.args.held.now.items c.loop-missing.held.items c.read_behind.new.held.items _ _ _ c.in_ok-read_behind.field-0 c.loop-missing.missing h.reads r;
      short = λ _. short.1;
    }

pub returns-clause-ok : goal.returns-clause-ok
returns-clause-ok g c = whole_held c.args.maximum c.loop-missing.missing c.loop-missing.held.items c.loop-missing.invariant.part c.loop-missing.invariant.missing (omega arith)
