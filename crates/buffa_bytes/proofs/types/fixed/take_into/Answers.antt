use Rattle.std.proofs.Common.{◌≡◌, ◌≤◌, ◌++◌, rules, sym, ap, ◌∙◌, take, drop, length, take-add, take-take, drop-drop}
use Rattle.std.proofs.lemmas.List.{places}
use Rattle.std.proofs.lemmas.Slice.{overwrites}
use Rattle.buffa_bytes.proofs.types.fixed.take_into.Goals as goal

pub loop-at-preserved : goal.loop-at-preserved
loop-at-preserved g c =
    let all = g.B.Buf.unread c.args.buf.now in
    let at = c.loop-at.at in
    let part = c.min-part.result in
    let chunk = c.chunk-chunk.result.now in
    let fits : part ≤ length chunk = search rules in
    let front : take part chunk ≡ take part (drop at all) =
    ap (take part) (sym c.chunk-chunk.ensures.front) ∙ take-take part _ _ fits ∙ ap (take part) c.loop-at.invariant.rest in
    record {
      within = search (rules, places);
      size = search (rules, places);
      filled = search (rules, overwrites) ∙ (λ i. c.loop-at.invariant.filled i ++ front i) ∙ sym (take-add at part all);
      rest = c.advance.ensures.rest ∙ ap (drop part) c.loop-at.invariant.rest ∙ drop-drop part at all;
      kept = c.advance.ensures.kept ∙ c.loop-at.invariant.kept;
    }
