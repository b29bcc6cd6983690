use Rattle.std.proofs.Common.{◌≡◌, ◌∙◌, ◌+◌, arith, subst, sym}
use Rattle.buffa_c.proofs.PathLemmas.{laid_all, laid_full, laid_put}
use Rattle.buffa_c.specs.Places.{LaysPath}
use Rattle.buffa_c.proofs.place.lay.Goals as goal
use Rattle.buffa_c.proofs.place.lay.Goals.{then-at-room, else-at-room}

pub steps-preserved : goal.steps-preserved
steps-preserved c = elim c.if-at-room.branch [
  | then-at-room w ↦ laid_put _ c.args.path.now c.args.room.now c.steps.room c.if-at-room.room c.steps.at _ _ c.steps.invariant (omega arith) (omega (arith, c.steps-test.true)) (omega (arith, w.if-at-room)) w.told.ensures w.room-is
  | else-at-room w ↦ w.room-is ∙ laid_full c.args.path.now c.args.room.now c.steps.room c.steps.at (c.steps.at + 1) c.steps.invariant (omega arith) (omega (arith, w.if-at-room))
]

pub returns : goal.returns
returns c =
    subst (λ z. LaysPath c.args.path.now c.args.room.now z) (sym c.steps.invariant)
    (laid_all c.args.path.now c.args.room.now c.steps.at (omega (arith, c.steps-test.false)))
