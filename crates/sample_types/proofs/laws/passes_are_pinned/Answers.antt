use Rattle.std.proofs.Common.{refl}
use Rattle.buffa_wire.specs.Enums.{numbers}
use Rattle.sample_types.specs.Passed.{proxy}
use Rattle.sample_types.proofs.PassPinLemmas.{pass_is_pinned}
use Rattle.sample_types.proofs.laws.passes_are_pinned.Goals as goal

pub returns : goal.returns
returns g c scratch d n bytes =
    pass_is_pinned (proxy g.KC.MapValueDecode.reading g.KC.MapValueDecode.COST g.KC.MapCodec.writing (numbers g.E.Enumeration.of_number g.E.Blank.blank_is) (numbers g.F.Enumeration.of_number g.F.Blank.blank_is)
    g.C.MapStorage.equal g.C.MapStorage.keeps_order g.D.MapStorage.equal g.D.MapStorage.keeps_order) g.KC.MapCodec.fits (g.C.MapStorage.walks scratch) d n bytes g.met.C.MapStorage.equivalence
    g.met.KC.MapValueDecode.free (λ _ d c. refl) g.met.KC.MapValueDecode.free (λ _ d c. refl)
