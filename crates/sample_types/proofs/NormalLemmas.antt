-- Codecs of which every value is normal.
use Rattle.std.proofs.Common.{List, [], ◌∷◌}
use Rattle.buffa_map.specs.Encoding.{AllHold}

pub AllHold-unit : {K V : Type 0} (l : List (K × V)) → AllHold (λ _. Unit {0}) (λ _. Unit {0}) l
AllHold-unit [] = tt
AllHold-unit (p ∷ ps) = (tt, tt, AllHold-unit ps)
