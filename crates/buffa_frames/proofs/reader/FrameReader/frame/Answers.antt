use Rattle.std.proofs.Common.{ap, drop, take, ◌∙◌, ◌-◌}
use Rattle.buffa_frames.proofs.FrontLemmas.{frame_body, frame_taken}
use Rattle.buffa_frames.proofs.StreamLemmas.{begun_no_frame, refused_no_frame}
use Rattle.buffa_frames.proofs.reader.FrameReader.frame.Goals as goal

pub returns-in-Frame-clause-body : goal.returns-in-Frame-clause-body
returns-in-Frame-clause-body g c = λ body rest t.
    let at = rw c.deref.ensures.value at c.in-Frame.ensures in
    ap (λ z. take (c.in-Frame.end - c.in-Frame.start) (drop c.in-Frame.start z)) c.deref-in-Frame.ensures.value
    ∙ frame_body c.args.self.now.maximum c.in-Frame.start c.in-Frame.end c.args.self.now.held.items body rest at t

pub returns-in-Frame-clause-none : goal.returns-in-Frame-clause-none
returns-in-Frame-clause-none g c = λ none.
    let at = rw c.deref.ensures.value at c.in-Frame.ensures in
    let there = frame_taken c.args.self.now.maximum c.in-Frame.start c.in-Frame.end c.args.self.now.held.items at in
    absurd (none there.0 there.1 there.2)

pub returns-in-More-clause-body : goal.returns-in-More-clause-body
returns-in-More-clause-body g c = λ body rest t.
    let more = rw c.deref.ensures.value at c.in-More.ensures in
    absurd (begun_no_frame c.args.self.now.maximum c.args.self.now.held.items body rest (c.in-More.at_least, more) t)

pub returns-in-Refused-clause-body : goal.returns-in-Refused-clause-body
returns-in-Refused-clause-body g c = λ body rest t.
    let refused = rw c.deref.ensures.value at c.in-Refused.ensures in
    absurd (refused_no_frame c.args.self.now.maximum c.args.self.now.held.items body rest _ refused t)
