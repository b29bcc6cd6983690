-- What is answered of pairs that a field was written of.
use Rattle.std.proofs.Common.{◌≡◌, ℕ, ◌^◌, true, List, [], ◌∷◌, length, refl, sym}
use Rattle.std.proofs.lemmas.Bool.{lt-ltb}
use Rattle.buffa_map.specs.Codec.{Writing}
use Rattle.buffa_map.specs.Encoding.{HasEncoding, entry_encoding, field_encoding}
use Rattle.buffa_map.specs.Scalars.{int32_writing, text_writing}
use Rattle.buffamap.specs.Lines.{Pair}
use Rattle.buffamap.specs.Reply.{success, hex_line}
use Rattle.buffamap.specs.Write.{field_reply, has_field}

module _ {K V : Type 0} (key : Writing K) (val : Writing V) where
  abbrev pub size : K × V → ℕ
  size p = length (entry_encoding key val p)

  pub has : (ps : List (K × V)) → HasEncoding key val ps → has_field key val ps ≡ true
  has [] h = refl
  has (p ∷ ps) h = rw (lt-ltb (size p) (2 ^ 64) h.0, has ps h.1) refl

pub written : (n : ℕ) (ps l : List Pair) → l ≡ ps → HasEncoding text_writing int32_writing l → field_reply n ps ≡ success (hex_line (field_encoding text_writing int32_writing n l))
written n ps l e h = rw (sym e) (rw (has text_writing int32_writing l h) refl)
