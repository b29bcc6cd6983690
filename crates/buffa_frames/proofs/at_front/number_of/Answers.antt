use Rattle.std.proofs.Common.{arith, drop, length-drop}
use Rattle.buffa_frames.proofs.SpellingLemmas.{digits_small}
use Rattle.buffa_frames.proofs.at_front.number_of.Goals as goal

pub overflow_mul-value : goal.overflow_mul-value
overflow_mul-value c =
    let small = digits_small (drop c.loop-at.at c.args.digits.now) (omega (arith, length-drop c.loop-at.at c.args.digits.now)) in
    omega (arith, small, c.loop-at.invariant.read)

pub overflow_add-value : goal.overflow_add-value
overflow_add-value c =
    let small = digits_small (drop c.loop-at.at c.args.digits.now) (omega (arith, length-drop c.loop-at.at c.args.digits.now)) in
    omega (arith, small, c.loop-at.invariant.read, c.from.ensures)
