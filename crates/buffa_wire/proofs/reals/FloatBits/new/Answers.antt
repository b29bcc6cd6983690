use Rattle.std.proofs.Common.{◌∙◌, ap, from_bits, subst, sym}
use Rattle.std.specs.Prelude.{T}
use Rattle.std.specs.Float.Ieee.{binary32}
use lib.Ieee.Bits.{of_bits-to_bits}
use Rattle.buffa_wire.proofs.reals.FloatBits.new.Goals as goal

-- a number is what its bits say
pub returns-clause-number : goal.returns-clause-number
returns-clause-number c =
    ap (from_bits binary32) c.f32_to_bits_with_nan.ensures ∙ of_bits-to_bits binary32 c.args.number (subst T (sym c.well_formed.0.1) tt)
