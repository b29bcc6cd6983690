use Rattle.std.proofs.Common.{◌≡◌, ◌≢◌, List, [], Result, Ok, Err, OnErr, sym}
use Rattle.std.specs.Prelude.{ℕ, IsOk}
use Rattle.sample_node.proofs.NodeWrittenLemmas.{encoding_same, slots_same}
use Rattle.sample_node.proofs.node.size_node.Goals as goal

with_slots : {T E : Type 0} (r : Result T E) (ss : List ℕ) → (ss ≡ [] → IsOk r) → OnErr r (ss ≢ [])
with_slots (Ok x) ss always = tt
with_slots (Err e) ss always = λ none. let bad = always none in cc

pub returns : goal.returns
returns c = let t = c.args.node.now in record {
  sized = rw (sym (encoding_same t), sym (slots_same t)) c.compute_size.ensures.sized;
  some = rw (sym (slots_same t)) (with_slots c.compute_size.result _ c.compute_size.ensures.always);
}
