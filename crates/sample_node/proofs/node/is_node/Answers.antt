use Rattle.std.proofs.Common.{string_bytes, sym}
use Rattle.buffa_map.specs.Pairs.{means}
use Rattle.sample_node.specs.Branch.{shade_number}
use Rattle.sample_node.proofs.node.is_node.Goals as goal

pub returns : goal.returns
returns c =
    let n = c.node.inside in
    (means string_bytes (λ v. v) n.scores.entries, means (λ k. k) (λ t. t) n.children.entries, means (λ k. k) shade_number n.shades.entries, n.unknown_fields.records, sym c.node.view_is)
