use Rattle.std.proofs.Common.{rules, arith, ◌≡◌, ◌∙◌, ◌++◌, ◌≤◌, take, length, length-drop}
use Rattle.buffa_bytes.proofs.BufLemmas.{chunk_moved, chunk_dropped}
use Rattle.buffa_bytes.proofs.TailLemmas.{tail_more, tail_dropped}
use Rattle.buffa_bytes.proofs.buf.move_bytes.Goals as goal

pub loop-left-preserved : goal.loop-left-preserved
loop-left-preserved g c =
    let p = c.loop-left in
    let u = g.B.Buf.unread in
    let n = c.min-part.result in
    let chunk = c.chunk-chunk.result.now in
    let within_chunk : n ≤ length chunk = search rules in
    let within_left : n ≤ p.left = search rules in
    let held : c.extend_from_slice.new.self.items ≡ p.bytes.items ++ take n chunk = search rules in
    record {
      below = omega (arith, p.invariant.below);
      within = rw c.advance.ensures.rest (omega (arith, length-drop n (u p.buf), p.invariant.within));
      moved = rw (c.advance.ensures.rest, held) (chunk_moved n p.left p.bytes.items chunk (u p.buf) c.chunk-chunk.ensures within_chunk within_left ∙ p.invariant.moved);
      rest = rw c.advance.ensures.rest (chunk_dropped n p.left (u p.buf) within_left ∙ p.invariant.rest);
      tail = tail_more _ _ _ (tail_dropped n _ _ c.advance.ensures.rest) p.invariant.tail;
      kept = c.advance.ensures.kept ∙ p.invariant.kept;
    }
