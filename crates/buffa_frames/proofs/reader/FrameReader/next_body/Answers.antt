use Rattle.std.proofs.Common.{◌∙◌}
use Rattle.std.specs.Prelude.{vec_items}
use Rattle.buffa_frames.specs.Stream.{pending}
use Rattle.buffa_frames.proofs.WholeLemmas.{fills_true, gives_body}
use Rattle.buffa_frames.proofs.reader.FrameReader.next_body.Goals as goal

pub returns-then-branch-clause-next : goal.returns-then-branch-clause-next
returns-then-branch-clause-next g c =
    let whole = fills_true c.next_frame.new.self.maximum c.next_frame.new.self.held.items (g.R.Read.remaining c.next_frame.new.self.stream) _ c.if-branch.true c.in_ok-next_frame.ensures.ok in
    gives_body c.args.self.now.maximum c.next_frame.new.self.maximum (pending c.args.self.now.given c.args.self.now.held.items) c.next_frame.new.self.held.items (vec_items c.in_ok-body.body)
    (g.R.Read.remaining c.args.self.now.stream) (g.R.Read.remaining c.next_frame.new.self.stream) c.in_ok-next_frame.ensures.maximum c.in_ok-next_frame.ensures.reads whole
    (λ b rest t. c.in_ok-body.ensures ∙ c.frame.ensures.body b rest t)
