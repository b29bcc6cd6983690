use Rattle.std.proofs.Common.{refl, ◌∙◌}
use Rattle.std.specs.Prelude.{map, vec_items}
use Rattle.buffa_frames.specs.Stream.{pending}
use Rattle.buffa_frames.proofs.WholeLemmas.{come_on, come_start, come_whole}
use Rattle.buffa_frames.proofs.reader.FrameReader.read_to_end.Goals as goal

pub returns-in-None-clause-frames : goal.returns-in-None-clause-frames
returns-in-None-clause-frames g c =
    come_whole (pending c.args.self.now.given c.args.self.now.held.items) (pending c.loop.self.given c.loop.self.held.items) c.loop.self.maximum
    (g.R.Read.remaining c.args.self.now.stream) (g.R.Read.remaining c.loop.self.stream) (g.R.Read.remaining c.next_body.new.self.stream) (map vec_items c.loop.bodies.items)
    c.loop.invariant.come (rw c.in-None.is at c.in_ok-body.ensures.next)

pub loop-init : goal.loop-init
loop-init g c = record {
  come = come_start vec_items (pending c.args.self.now.given c.args.self.now.held.items) (g.R.Read.remaining c.args.self.now.stream) c.new-bodies.result.items c.new-bodies.ensures.items;
  maximum = refl;
}

pub loop-preserved : goal.loop-preserved
loop-preserved g c = record {
  come =
      come_on vec_items (pending c.args.self.now.given c.args.self.now.held.items) (pending c.loop.self.given c.loop.self.held.items) (pending c.next_body.new.self.given c.next_body.new.self.held.items) c.loop.self.maximum
      (g.R.Read.remaining c.args.self.now.stream) (g.R.Read.remaining c.loop.self.stream) (g.R.Read.remaining c.next_body.new.self.stream) c.loop.bodies.items c.push.new.self.items c.in-Some.body
      c.loop.invariant.come (rw c.in-Some.is at c.in_ok-body.ensures.next) c.in_ok-push-in-Some.ensures.items c.in_ok-body.ensures.given;
  maximum = c.in_ok-body.ensures.maximum ∙ c.loop.invariant.maximum;
}
