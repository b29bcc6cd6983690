-- What is proved of lists that are packed.
use Rattle.std.proofs.Common.{◌≡◌, ℕ, ◌<◌, ◌≤◌, List, [], ◌∷◌, ◌++◌, length, map, Result, Ok, refl, sym, ap, subst, ◌∙◌, arith}
use Rattle.buffa_bytes.specs.Written.{Writes, WritesFront}
use Rattle.buffa_bytes.specs.declared.error.EncodeError.{EncodeError}
use Rattle.buffa_bytes.specs.declared.error.EncodeError.TheVariants as encode
use Rattle.buffa_wire.proofs.PassLemmas.{written_none, written_put}
use Rattle.buffa_wire.specs.Cache.{Cache}
use Rattle.buffa_wire.specs.Passes.{IsSmall, IsWritten, cap}
use Rattle.buffa_wire.specs.Records.{bytes}
use Rattle.buffa_wire.specs.Encoding.{records_encoding, encodings}
use Rattle.buffa_wire.specs.Pinned.{refusal}
use Rattle.buffa_map.specs.Encoding.{saturated}
use Rattle.buffa_fields.specs.Lists.{packed_records}
use Rattle.buffa_fields.specs.facts.SubmessageFacts.{TellsLength, head, head_cut, record_after}

module _ {V : Type 0} (encoding : V → List ℕ) (n : ℕ) {P : Type 0} (meaning : P → V) (xs : List P) where
  abbrev all : List ℕ
  all = encodings encoding (map meaning xs)

  abbrev pub packed : List ℕ
  packed = records_encoding (packed_records encoding n (map meaning xs))

  pub all_tells : (inner : ℕ) → inner ≡ saturated (length all) → TellsLength inner all
  all_tells inner is = ((λ h. omega (arith, is, h)), (λ h. omega (arith, is, h)))

  is_none : (l : List P) → length l ≤ 0 → packed_records encoding n (map meaning l) ≡ []
  unfolding packed_records
  is_none [] h = refl
  is_none (x ∷ l) h = absurd (omega arith)

  is_one : (l : List P) → 0 < length l → packed_records encoding n (map meaning l) ≡ (n, bytes (encodings encoding (map meaning l))) ∷ []
  unfolding packed_records
  is_one [] h = absurd (omega arith)
  is_one (x ∷ l) h = refl

  pub packed_nothing : length xs ≤ 0 → 0 ≡ cap (length packed)
  packed_nothing h = ap (λ z. cap (length (records_encoding z))) (sym (is_none xs h))

  pub packed_unwritten : length xs ≤ 0 → (old : List ℕ) (c : Cache) → IsWritten packed [] c old (let r : Result (Unit {0}) EncodeError = Ok tt in r) c old
  packed_unwritten h old c = subst (λ z. IsWritten (records_encoding z) [] c old (let r : Result (Unit {0}) EncodeError = Ok tt in r) c old) (sym (is_none xs h)) (written_none (IsSmall []) c old)

  pub packed_sized : 0 < length xs → (inner len : ℕ) → inner ≡ saturated (length all) → ((t : List ℕ) → TellsLength inner t → len ≡ cap (length (records_encoding ((n, bytes t) ∷ [])))) → len ≡ cap (length packed)
  packed_sized some inner len is h = h all (all_tells inner is) ∙ ap (λ z. cap (length (records_encoding z))) (sym (is_one xs some))

  module _ (some : 0 < length xs) (inner : ℕ) (is : inner ≡ saturated (length all)) (c : Cache) (b0 b1 b2 : List ℕ) where
    pub packed_written : (r : Result (Unit {0}) EncodeError) → b1 ≡ b0 ++ head n inner → Writes r b1 all b2 → IsWritten packed [] c b0 r c b2
    packed_written r h w =
        subst (λ z. IsWritten (records_encoding z) [] c b0 r c b2) (sym (is_one xs some)) (record_after n inner all (all_tells inner is) [] c c b0 b1 b2 r h (written_put (IsSmall all) all c b1 b2 r w))

    pub packed_cut : (e : EncodeError) → (e ≡ encode.OutOfMemory) × WritesFront b0 (head n inner) b1 → IsWritten packed [] c b0 (refusal e) c b1
    packed_cut e h = subst (λ z. IsWritten (records_encoding z) [] c b0 (refusal e) c b1) (sym (is_one xs some)) (head_cut n inner all (all_tells inner is) [] c c b0 b1 b1 e h)
