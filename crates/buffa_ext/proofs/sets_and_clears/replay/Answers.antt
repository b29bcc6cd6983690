use Rattle.std.proofs.Common.{◌∷◌, [], ◌++◌, sym, ap, ◌∙◌, append_assoc, arith, length-append}
use Rattle.buffa_ext.specs.SetsAndClears.{step_of}
use Rattle.buffa_ext.proofs.ReplayLemmas.{replay_refused, replays_one_more, room_of_front, room_one_more}
use Rattle.buffa_ext.proofs.sets_and_clears.replay.Goals as goal

pub loop-step-preserved : goal.loop-step-preserved
loop-step-preserved c = record {
  whole = c.loop-step.invariant.whole ∙ ap (λ l. c.loop-step.yielded ++ l) c.in-Some.ensures.steps.0 ∙ sym (append_assoc c.loop-step.yielded (c.in-Some.step ∷ []) c.next.new.self.rest.items);
  count = omega (arith, c.loop-step.invariant.count, length-append c.loop-step.yielded (c.in-Some.step ∷ []));
  so_far = replays_one_more step_of c.args.fields.now.records c.loop-step.fields.records c.replay_one.new.fields.records c.loop-step.yielded c.in-Some.step c.loop-step.invariant.so_far c.in-Ok.ensures.ok;
  room = room_one_more step_of c.loop-step.yielded c.in-Some.step c.args.fields.now.spare c.loop-step.fields.spare c.replay_one.new.fields.spare c.loop-step.invariant.room c.replay_one.ensures.room;
}

pub returns-in-Err-clause-memory : goal.returns-in-Err-clause-memory
returns-in-Err-clause-memory c =
    replay_refused step_of c.args.steps.items c.loop-step.yielded c.next.new.self.rest.items c.in-Some.step c.loop-step.done
    (c.loop-step.invariant.whole ∙ ap (λ l. c.loop-step.yielded ++ l) c.in-Some.ensures.steps.0) c.loop-step.invariant.count c.in-Err.ensures.memory

pub returns-in-Err-clause-err_room : goal.returns-in-Err-clause-err_room
returns-in-Err-clause-err_room c =
    room_of_front step_of c.args.steps.items c.loop-step.yielded (c.in-Some.step ∷ c.next.new.self.rest.items) c.loop-step.done c.args.fields.now.spare c.loop-step.fields.spare c.replay_one.new.fields.spare
    (c.loop-step.invariant.whole ∙ ap (λ l. c.loop-step.yielded ++ l) c.in-Some.ensures.steps.0) c.loop-step.invariant.count (ap (λ f. f.spare) c.in-Err.ensures.err) c.loop-step.invariant.room
