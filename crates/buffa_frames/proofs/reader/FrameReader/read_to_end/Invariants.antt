use Rattle.std.specs.Prelude.{◌≡◌, map, vec_items}
use Rattle.buffa_frames.specs.Stream.{pending}
use Rattle.buffa_frames.proofs.WholeLemmas.{Come}
use Rattle.buffa_frames.proofs.reader.FrameReader.read_to_end.Given as goal

-- the bodies are those of what was read so far
abbrev pub invariant-loop : goal.invariant-loop
invariant-loop g l = record {
  come : Come (pending l.initial.self.given l.initial.self.held.items) (pending l.self.given l.self.held.items) (g.R.Read.remaining l.initial.self.stream) (g.R.Read.remaining l.self.stream) (map vec_items l.bodies.items);
  maximum : l.self.maximum ≡ l.initial.self.maximum;
}
