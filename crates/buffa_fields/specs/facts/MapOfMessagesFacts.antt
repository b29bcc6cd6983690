-- What is proved of maps of messages as members: their encodings read back.
use Rattle.std.proofs.Common.{◌≡◌, ℕ, zero, suc, ◌^◌, ◌==◌, ◌<◌, ◌≤◌, List, [], ◌∷◌, length, Option, Some, refl, ap, arith, length-append}
use Rattle.buffa_bytes.proofs.VarintLemmas.{IsVarint-varint_encoding}
use Rattle.buffa_wire.specs.BudgetLeft.{BudgetLeft}
use Rattle.buffa_bytes.specs.PayloadValue.PayloadValue.{bytes as held}
use Rattle.buffa_bytes.specs.Number.{IsNumber}
use Rattle.buffa_wire.specs.ReadableFacts.{Readable}
use Rattle.buffa_wire.specs.Records.{records_of}
use Rattle.buffa_wire.specs.Encoding.{records_encoding}
use Rattle.buffa_bytes.specs.Varint.{varint_encoding}
use Rattle.buffa_map.proofs.BackLemmas.{IsReadBack}
use Rattle.buffa_map.proofs.SizeLemmas.{length-entry_encoding}
use Rattle.buffa_map.specs.Codec.{Reading, Writing}
use Rattle.buffa_map.specs.Message.{merged_value, message_reading}
use Rattle.buffa_map.specs.Scalars.{delimited_writing}
use Rattle.buffa_map.specs.Encoding.{AllHold}
use Rattle.buffa_fields.specs.MapFields.{map_records, pair_taken, put_all}
use Rattle.buffa_fields.specs.facts.MapFacts.{map_back}
use Rattle.buffa_fields.specs.MapsOfMessages.{pair_levels, pair_records}
use Rattle.buffa_wire.specs.Takes.{ReadsBack}

module _ {X : Type 0} (merged : ℕ → X → List ℕ → Option X) (blank : X) (cost : ℕ → List ℕ → BudgetLeft) (encoding : X → List ℕ) (level : X → ℕ) (Normal : X → Type 0)
    (back : (d : ℕ) (v : X) → Normal v → level v ≤ d → merged d blank (encoding v) ≡ Some v) where
  -- a message that is there, and isn't too deep
  abbrev IsLow : ℕ → X → Type 0
  IsLow d v = Normal v × (length (encoding v) < 2 ^ 64) × (suc (level v) ≤ d)

  inside_back : (d : ℕ) (v : X) → IsLow d v → IsReadBack (message_reading blank merged cost) (delimited_writing encoding) d v
  inside_back zero v (normal, fits, low) = absurd (omega (arith, low))
  inside_back (suc d) v (normal, fits, low) =
      (refl, held (encoding v), (varint_encoding (length (encoding v)), IsVarint-varint_encoding (length (encoding v)) fits, refl), ap merged_value (back d v normal (omega (arith, low))))

  module _ {K : Type 0} (key : Reading K) (kw : Writing K) (same_key : kw.wire ≡ key.wire) (puts : List (K × X) → K → X → List (K × X)) (KeyOk : K → Type 0)
      (key_back : (d : ℕ) (v : K) → KeyOk v → IsReadBack key kw d v) (n : ℕ) (number : IsNumber n) (d : ℕ) where
    all_low : (l : List (K × X)) → Readable (records_of (map_records kw (delimited_writing encoding) n l)) → AllHold KeyOk Normal l → pair_levels level l ≤ d → AllHold KeyOk (IsLow d) l
    all_low [] fits ok low = tt
    all_low (p ∷ ps) fits ok low =
        let whole = length-entry_encoding kw (delimited_writing encoding) p in
        let both = length-append (varint_encoding (length (encoding p.1))) (encoding p.1) in
        (ok.0, (ok.1, omega (arith, fits.1, whole, both), omega (arith, low)), all_low ps fits.2 ok.2 (omega (arith, low)))

    pub pairs_back : (l : List (K × X)) → Readable (records_of (pair_records kw encoding n l)) → AllHold KeyOk Normal l → put_all puts [] l ≡ l → pair_levels level l ≤ d →
        ReadsBack (pair_taken key (message_reading blank merged cost) puts) (λ m. m == n) d [] (records_encoding (pair_records kw encoding n l)) l
    unfolding pair_records
    pairs_back l fits ok put_back low =
        map_back key (message_reading blank merged cost) kw (delimited_writing encoding) same_key refl puts KeyOk (IsLow d) d (key_back d) (inside_back d) n number l fits (all_low l fits ok low) put_back
