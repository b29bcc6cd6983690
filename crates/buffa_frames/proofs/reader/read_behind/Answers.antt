use Rattle.std.proofs.Common.{◌≡◌, ◌+◌, ◌∙◌, ap, arith, length, rules, take}
use Rattle.std.proofs.lemmas.List.{places, with_items_is}
use Rattle.buffa_frames.proofs.StreamLemmas.{read_behind_is}
use Rattle.buffa_frames.proofs.reader.read_behind.Goals as goal

pub returns-in-Ok-clause-ok : goal.returns-in-Ok-clause-ok
returns-in-Ok-clause-ok g c =
    let there = with_items_is c.grow.new.held c.read_at.new.bytes (search (rules, places)) in
    let behind : c.len-len.result ≡ length c.args.held.now.items = omega arith in
    let front = c.in-Ok.ensures.front ∙ ap (take c.len-len.result) c.as_mut_slice.ensures.value ∙ ap (λ n. take n c.grow.new.held.items) behind ∙ c.in_ok-grow.ensures.items in
    let many : length c.read_at.new.bytes ≡ c.len-len.result + c.min.result = omega (arith, c.in-Ok.ensures.many, ap length c.as_mut_slice.ensures.value, c.in_ok-grow.ensures.len) in
    read_behind_is c.args.held.now.items c.read_at.new.bytes c.truncate.new.self.items c.len-len.result c.in-Ok.n c.min.result c.args.missing _ _
    behind front many (omega (arith, c.min.ensures)) (omega (arith, c.min.ensures)) (omega (arith, c.in-Ok.ensures.bound, c.in-Ok.ensures.many)) (c.truncate.ensures.items ∙ ap (take (c.len-len.result + c.in-Ok.n)) there) c.in-Ok.ensures.bytes
