-- What the codecs of enums owe.
use Rattle.std.proofs.Common.{◌≡◌, ℕ, ℤ, Bool, true, Option, Result, Ok, refl, sym, ap, subst, ◌∙◌}
use Rattle.std.specs.Int.{cast_unsigned, w64}
use Rattle.buffa_bytes.specs.PayloadValue.{PayloadValue, HasPayloadValue}
use Rattle.buffa_bytes.specs.PayloadValue.PayloadValue.{number}
use Rattle.buffa_wire.specs.Enums.{Numbers, open_number}
use Rattle.buffa_bytes.specs.declared.error.DecodeError.{DecodeError}
use Rattle.buffa_bytes.proofs.IntLemmas.{int32_below, int32_means}
use Rattle.buffa_bytes.proofs.VarintLemmas.{IsVarint-varint_encoding}
use Rattle.buffa_map.specs.Enums.{ClosedFits, OpenFits, OpenNormal, closed_reading, closed_writing, open_reading, open_writing}

abbrev read : {V : Type 0} → V × Bool → Result (V × Bool) DecodeError
read x = Ok x

-- a declared number is read back, whatever stood before
pub closed_reads_back : (e : Numbers) (d : ℕ) (old v : ℤ) → ClosedFits e v → (c : PayloadValue) × HasPayloadValue closed_writing.wire (closed_writing.encoding v) c × ((closed_reading e).reads d old c ≡ Ok (v, true))
closed_reads_back e d old v h = (number (cast_unsigned w64 v), IsVarint-varint_encoding (cast_unsigned w64 v) (int32_below v h.0), rw (int32_means v h.0, h.1) refl)

pub open_reads_back : {E : Type 0} (of : ℤ → Option E) (d : ℕ) (old v : Bool × ℤ) → OpenFits v → OpenNormal of v → (c : PayloadValue) × HasPayloadValue open_writing.wire (open_writing.encoding v) c × ((open_reading of).reads d old c ≡ Ok (v, true))
open_reads_back of d old v h normal = (number (cast_unsigned w64 v.1), IsVarint-varint_encoding (cast_unsigned w64 v.1) (int32_below v.1 h), ap (λ z. Ok (z, true)) (ap (open_number of) (int32_means v.1 h) ∙ sym normal))

-- what is read is normal
pub open_stays_normal : {E : Type 0} (of : ℤ → Option E) (n : ℤ) (new : Bool × ℤ) (known : Bool) → read (open_number of n, true) ≡ Ok (new, known) → OpenNormal of new
open_stays_normal of n new known h =
    let whole : (let made : (Bool × ℤ) × Bool = (open_number of n, true) in made ≡ (new, known)) = cc in
    subst (OpenNormal of) (ap (λ z. z.0) whole) refl
