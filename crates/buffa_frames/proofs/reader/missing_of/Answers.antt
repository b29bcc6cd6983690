use Rattle.std.proofs.Common.{sym, subst}
use Rattle.buffa_frames.specs.Stream.{IsMissing}
use Rattle.buffa_frames.proofs.StreamLemmas.{missing_body, missing_one}
use Rattle.buffa_frames.proofs.reader.missing_of.Goals as goal

pub returns-in-Begun-clause-ok : goal.returns-in-Begun-clause-ok
returns-in-Begun-clause-ok c = missing_one c.args.maximum c.in-Begun.low c.args.held.now c.in-Begun.ensures

pub returns-in-Whole-clause-ok : goal.returns-in-Whole-clause-ok
returns-in-Whole-clause-ok c =
    subst (λ k. IsMissing c.args.maximum c.args.held.now k) (sym c.saturating_sub.ensures) (missing_body c.args.maximum c.in-Whole.length c.in-Whole.digits c.args.held.now c.in-Whole.ensures)
