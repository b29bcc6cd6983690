use Rattle.std.proofs.Common.{arith, ◌∙◌, []}
use Rattle.buffa_bytes.proofs.PieceLemmas.{settled, settle_rest, settle_fits}
use Rattle.buffa_bytes.proofs.pieces.settle.Goals as goal

pub returns-else-pieces-at-clause-settled : goal.returns-else-pieces-at-clause-settled
returns-else-pieces-at-clause-settled c = settled c.args.pieces.now c.loop-at.at c.loop-at.offset (record { ref_ptr = (0, 0); now = [] }) (λ h. omega arith)

pub returns-after-loop-at-clause-settled : goal.returns-after-loop-at-clause-settled
returns-after-loop-at-clause-settled c = settled c.args.pieces.now c.loop-at.at c.loop-at.offset (record { ref_ptr = (0, 0); now = [] }) (λ h. absurd (omega arith))

pub loop-at-preserved : goal.loop-at-preserved
loop-at-preserved c = record {
  rest = settle_rest c.args.pieces.now c.loop-at.at c.loop-at.offset (record { ref_ptr = (0, 0); now = [] }) (omega arith) (omega arith) ∙ c.loop-at.invariant.rest;
  fits = omega (arith, settle_fits c.args.pieces.now c.loop-at.at);
}
