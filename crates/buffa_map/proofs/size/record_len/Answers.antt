use Rattle.std.proofs.Common.{arith, ◌≡◌, ℕ, ◌+◌, ◌≤◌, length, ◌∙◌, ap}
use Rattle.buffa_bytes.specs.Varint.{varint_encoding}
use Rattle.buffa_bytes.proofs.ShortestLemmas.{ten_at_most}
use Rattle.buffa_map.specs.Encoding.{entry_encoding, saturated}
use Rattle.buffa_map.proofs.SizeLemmas.{length-entry_encoding}
use Rattle.buffa_map.proofs.size.record_len.Goals as goal

pub overflow_add-result : goal.overflow_add-result
overflow_add-result g c = omega (arith, c.prefix_len.ensures, ten_at_most (c.encoded_len-key_len.result + c.encoded_len-value_len.result + 2) (omega (arith, c.if-key_len-ge-SMALL.false, c.if-value_len-ge-SMALL.false)), c.if-outer_tag_len-ge-SMALL.false)

pub overflow_add-result-2 : goal.overflow_add-result-2
overflow_add-result-2 g c = omega (arith, c.prefix_len.ensures, ten_at_most (c.encoded_len-key_len.result + c.encoded_len-value_len.result + 2) (omega (arith, c.if-key_len-ge-SMALL.false, c.if-value_len-ge-SMALL.false)), c.if-outer_tag_len-ge-SMALL.false, c.if-key_len-ge-SMALL.false, c.if-value_len-ge-SMALL.false)

pub returns : goal.returns
returns g c =
    let p : g.row.KC-Value-Meaning.Denot × g.row.VC-Value-Meaning.Denot = (g.KC.Value.Blank.meaning c.args.key.now, g.VC.Value.Blank.meaning c.args.value.now) in
    let n : ℕ = c.encoded_len-key_len.result + c.encoded_len-value_len.result + 2 in
    let ten : length (varint_encoding n) ≤ 10 = ten_at_most n (omega (arith, c.if-key_len-ge-SMALL.false, c.if-value_len-ge-SMALL.false)) in
    let same : n ≡ length (entry_encoding g.KC.MapCodec.writing g.VC.MapCodec.writing p) =
    omega (arith, c.encoded_len-key_len.ensures.len, c.encoded_len-value_len.ensures.len, length-entry_encoding g.KC.MapCodec.writing g.VC.MapCodec.writing p) in
    let sum : c.args.outer_tag_len + c.prefix_len.result + n ≡ saturated (c.args.outer_tag_len + (length (varint_encoding n) + n)) =
    omega (arith, c.prefix_len.ensures, ten, c.if-outer_tag_len-ge-SMALL.false, c.if-key_len-ge-SMALL.false, c.if-value_len-ge-SMALL.false) in
    sum ∙ ap (λ z. saturated (c.args.outer_tag_len + (length (varint_encoding z) + z))) same

pub returns-then-outer_tag_len-ge-SMALL : goal.returns-then-outer_tag_len-ge-SMALL
returns-then-outer_tag_len-ge-SMALL g c =
    let p : g.row.KC-Value-Meaning.Denot × g.row.VC-Value-Meaning.Denot = (g.KC.Value.Blank.meaning c.args.key.now, g.VC.Value.Blank.meaning c.args.value.now) in
    let same : 2 + (c.encoded_len-key_len.result + c.encoded_len-value_len.result) ≡ length (entry_encoding g.KC.MapCodec.writing g.VC.MapCodec.writing p) =
    omega (arith, c.encoded_len-key_len.ensures.len, c.encoded_len-value_len.ensures.len, length-entry_encoding g.KC.MapCodec.writing g.VC.MapCodec.writing p) in
    c.large_record_len.ensures ∙ ap (λ z. saturated (c.args.outer_tag_len + (length (varint_encoding z) + z))) same
