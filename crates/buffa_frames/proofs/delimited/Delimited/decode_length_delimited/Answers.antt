use Rattle.std.proofs.Common.{inl, sym, ◌∙◌}
use Rattle.buffa_bytes.proofs.StepLemmas.{ok_no_err}
use Rattle.std.proofs.lemmas.Result.{err_from_is_err_and}
use Rattle.buffa_frames.proofs.DelimitedLemmas.{inside_fault, inside_full, inside_left, inside_there, length_left, length_not_full, means_inside, passed_fault, passed_left, which_inside, which_none}
use Rattle.buffa_frames.proofs.delimited.Delimited.decode_length_delimited.Goals as goal

pub returns-in_err-length-clause-full : goal.returns-in_err-length-clause-full
returns-in_err-length-clause-full g c =
    let p = err_from_is_err_and c.from_residual.result c.from_residual.ensures.1 in
    length_not_full p.1 p.2 c.args.buf.now.now _ c.in_err-length.ensures.reads

pub returns-in_err-length-clause-left : goal.returns-in_err-length-clause-left
returns-in_err-length-clause-left g c =
    let p = err_from_is_err_and c.from_residual.result c.from_residual.ensures.1 in
    length_left p.1 c.args.buf.now.now c.decode_varint.new.buf.now c.in_err-length.ensures.reads c.in_err-length.ensures.left

pub returns-then-length-all-clause-fault : goal.returns-then-length-all-clause-fault
returns-then-length-all-clause-fault g c = λ ne. inl (passed_fault c.in_ok-length.length c.args.buf.now.now c.decode_varint.new.buf.now c.in_ok-length.ensures.reads c.if-length-all.true)

pub returns-then-length-all-clause-left : goal.returns-then-length-all-clause-left
returns-then-length-all-clause-left g c = passed_left c.in_ok-length.length c.args.buf.now.now c.decode_varint.new.buf.now c.in_ok-length.ensures.reads c.if-length-all.true

pub returns-clause-ok : goal.returns-clause-ok
returns-clause-ok g c =
    let there = inside_there c.in_ok-length.length c.args.buf.now.now c.decode_varint.new.buf.now c.split_at.result.0.now c.split_at.result.1.now c.in_ok-length.ensures.reads c.if-length-all.false c.split_at.ensures.front c.split_at.ensures.back in
    means_inside c.decode_from_slice.result g.Self.Blank.meaning _ _ _ _ _ there c.decode_from_slice.ensures.merged c.decode_from_slice.ensures.left

pub returns-clause-fault : goal.returns-clause-fault
returns-clause-fault g c =
    let there = inside_there c.in_ok-length.length c.args.buf.now.now c.decode_varint.new.buf.now c.split_at.result.0.now c.split_at.result.1.now c.in_ok-length.ensures.reads c.if-length-all.false c.split_at.ensures.front c.split_at.ensures.back in
    inside_fault c.decode_from_slice.result _ _ _ _ _ there c.decode_from_slice.ensures.fault

pub returns-clause-full : goal.returns-clause-full
returns-clause-full g c =
    let there = inside_there c.in_ok-length.length c.args.buf.now.now c.decode_varint.new.buf.now c.split_at.result.0.now c.split_at.result.1.now c.in_ok-length.ensures.reads c.if-length-all.false c.split_at.ensures.front c.split_at.ensures.back in
    inside_full c.decode_from_slice.result _ _ _ there c.decode_from_slice.ensures.full

pub returns-clause-left : goal.returns-clause-left
returns-clause-left g c =
    inside_left c.decode_from_slice.result c.in_ok-length.length c.args.buf.now.now c.decode_varint.new.buf.now c.split_at.result.1.now c.in_ok-length.ensures.reads c.if-length-all.false c.split_at.ensures.back

pub returns-in_err-length-clause-which : goal.returns-in_err-length-clause-which
returns-in_err-length-clause-which g c =
    let p = err_from_is_err_and c.from_residual.result c.from_residual.ensures.1 in
    which_none p.1 c.args.buf.now.now _ c.in_err-length.ensures.reads

pub returns-then-length-all-clause-which : goal.returns-then-length-all-clause-which
returns-then-length-all-clause-which g c = λ body rest k.
    absurd (ok_no_err (sym k ∙ passed_fault c.in_ok-length.length c.args.buf.now.now c.decode_varint.new.buf.now c.in_ok-length.ensures.reads c.if-length-all.true))

pub returns-clause-which : goal.returns-clause-which
returns-clause-which g c =
    let there = inside_there c.in_ok-length.length c.args.buf.now.now c.decode_varint.new.buf.now c.split_at.result.0.now c.split_at.result.1.now c.in_ok-length.ensures.reads c.if-length-all.false c.split_at.ensures.front c.split_at.ensures.back in
    which_inside c.decode_from_slice.result _ _ _ _ there c.decode_from_slice.ensures.which
