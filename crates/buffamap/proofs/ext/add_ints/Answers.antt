use Rattle.std.proofs.Common.{rules, ◌≡◌, ◌++◌, [], ◌∷◌, ◌∙◌, ap, codes}
use Rattle.buffa_codec.specs.RecordsOfNumber.{sub}
use Rattle.buffamap.specs.Ext.{ints_line, int32s_of_each, words_of}
use Rattle.buffamap.proofs.ExtensionLemmas.{line_behind, list_read}
use Rattle.buffamap.proofs.ext.add_ints.Goals as goal

pub returns : goal.returns
returns c =
    let records = c.args.message.now.fields.records in
    let text = c.args.text.now.items in
    let words = words_of c.as_slice.result.now in
    let pushed : c.push.new.self.items ≡ c.add_words.new.text.items ++ 10 ∷ [] = search rules in
    let worded : c.add_words.new.text.items ≡ c.extend_from_slice.new.self.items ++ words = search rules in
    let begun : c.extend_from_slice.new.self.items ≡ text ++ codes "ints" = search rules in
    let whole : c.push.new.self.items ≡ text ++ ints_line c.as_slice.result.now = pushed ∙ ap (λ z. z ++ 10 ∷ []) (worded ∙ ap (λ z. z ++ words) begun) ∙ line_behind text (codes "ints") words (10 ∷ []) in
    let read : c.in_ok-values.values.items ≡ int32s_of_each (sub c.new-ints.result.number records) = list_read (sub c.new-ints.result.number records) c.in_ok-values.values.items c.in_ok-values.ensures.value in
    let values : c.as_slice.result.now ≡ int32s_of_each (sub c.args.number records) = c.as_slice.ensures.value ∙ read ∙ ap (λ n. int32s_of_each (sub n records)) c.new-ints.ensures.number in
    whole ∙ ap (λ z. text ++ ints_line z) values
