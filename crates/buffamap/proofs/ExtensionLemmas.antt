-- What extensions read, and the words that are printed of it.
use Rattle.std.proofs.Common.{◌≡◌, ◌+◌, ◌<◌, ℕ, ℤ, List, [], ◌∷◌, ◌++◌, sym, ap, ◌∙◌, drop, map, get_or, length, append_assoc}
use Rattle.std.specs.Fmt.{signed_decimal}
use Rattle.std.proofs.lemmas.List.{drop_more, map-id}
use Rattle.buffa_wire.specs.BudgetLeft.{BudgetLeft, defaults}
use Rattle.buffa_wire.specs.Records.{FieldData}
use Rattle.buffa_codec.specs.Decoded.{ReadsAll, ReadsList, elements}
use Rattle.buffamap.specs.Ext.{int32_held, int32s_of_each, int32s_packed, words_of}

-- the values of records that spend nothing are those of each record, in order
pub each_read : (leaves : BudgetLeft → FieldData → BudgetLeft → Type 0) (b left : BudgetLeft) (ds : List FieldData) (vs : List ℤ) → ReadsAll (λ b d. int32_held d) leaves int32s_packed b ds vs left → vs ≡ int32s_of_each ds
each_read leaves b left [] vs h = h.0
each_read leaves b left (d ∷ ds) vs h = h.4 ∙ ap (λ z. elements int32s_packed d (int32_held d) ++ z) (each_read leaves h.0 left ds h.1 h.3)

-- the same from a default budget, of values that mean themselves
pub list_read : (ds : List FieldData) (vs : List ℤ) → ReadsList (λ b d. int32_held d) (λ b d left. left ≡ b) int32s_packed ds (map (λ v. v) vs) → vs ≡ int32s_of_each ds
list_read ds vs h = sym (map-id vs) ∙ each_read (λ b d left. left ≡ b) defaults h.0 ds (map (λ v. v) vs) h.1

-- one more word
pub word_more : (text all : List ℕ) (values : List ℤ) (i : ℕ) (d : ℤ) → i < length values → text ++ words_of (drop i values) ≡ all → (text ++ 32 ∷ signed_decimal (get_or values i d)) ++ words_of (drop (i + 1) values) ≡ all
word_more text all values i d h e = append_assoc text (32 ∷ signed_decimal (get_or values i d)) (words_of (drop (i + 1) values)) ∙ ap (λ z. text ++ words_of z) (sym (drop_more values i d h)) ∙ e

-- a line of three parts behind a text
pub line_behind : (text a b c : List ℕ) → ((text ++ a) ++ b) ++ c ≡ text ++ ((a ++ b) ++ c)
line_behind text a b c = ap (λ z. z ++ c) (append_assoc text a b) ∙ append_assoc text (a ++ b) c
