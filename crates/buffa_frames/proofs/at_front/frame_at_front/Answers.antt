use Rattle.std.proofs.Common.{arith}
use Rattle.buffa_frames.proofs.SpellingLemmas.{digits_fit}
use Rattle.buffa_frames.proofs.FrontLemmas.{frame_there, needs_body, needs_digits}
use Rattle.buffa_frames.proofs.at_front.frame_at_front.Goals as goal

pub overflow_add-result : goal.overflow_add-result
overflow_add-result c =
    let begun = c.in-Begun.ensures in
    omega (arith, digits_fit c.args.bytes.now begun.1, begun.2)

pub returns-in-Begun : goal.returns-in-Begun
returns-in-Begun c = needs_digits c.args.maximum c.in-Begun.low c.args.bytes.now c.in-Begun.ensures

pub returns-then-there-length : goal.returns-then-there-length
returns-then-there-length c = needs_body c.args.maximum c.in-Whole.length c.in-Whole.digits c.args.bytes.now c.in-Whole.ensures c.if-there-length.true

pub returns-else-there-length : goal.returns-else-there-length
returns-else-there-length c = frame_there c.args.maximum c.in-Whole.length c.in-Whole.digits c.args.bytes.now c.in-Whole.ensures c.if-there-length.false
