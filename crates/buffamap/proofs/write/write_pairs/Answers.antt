use Rattle.std.proofs.Common.{rules, ◌≡◌, ◌∙◌, ap, sym}
use Rattle.buffa_map.specs.Encoding.{field_encoding}
use Rattle.buffa_map.specs.Scalars.{int32_writing, text_writing}
use Rattle.buffamap.specs.Lines.{pairs_of}
use Rattle.buffamap.specs.Reply.{success, hex_line}
use Rattle.buffamap.proofs.FieldReplyLemmas.{written}
use Rattle.buffamap.proofs.write.write_pairs.Goals as goal

pub returns-clause-text : goal.returns-clause-text
returns-clause-text c =
    let w = c.in_ok-write_field.ensures in
    let field : c.as_slice.result.now ≡ field_encoding text_writing int32_writing c.args.number w.0 = search rules in
    ap success c.in_ok-hex_line.ensures ∙ ap (λ z. success (hex_line z)) field ∙ sym (written c.args.number (pairs_of c.args.pairs.now.entries) w.0 w.1 w.3.0)
