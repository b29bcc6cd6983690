-- Readings by way of others, each value turned into another one.
use Rattle.std.specs.Prelude.{◌≡◌, ◌↔◌, List, map, Option, option_map}
use Rattle.buffa_wire.specs.Records.{FieldData}

-- of one value: the records are read by also as by reads, and then turned by f
abbrev pub ReadsThrough : {M N : Type 0} → (M → N) → (List FieldData → Option M → Type 0) → (List FieldData → Option N → Type 0) → Type 0
ReadsThrough {M = M} {N = N} f reads also = (ds : List FieldData) (out : Option N) → also ds out ↔ ((m : Option M) × reads ds m × (out ≡ option_map f m))

-- a value has the records of the one that f makes of it
abbrev pub WritesThrough : {M N : Type 0} → (N → M) → (M → List FieldData) → (N → List FieldData) → Type 0
WritesThrough {N = N} f extension_data also = (v : N) → also v ≡ extension_data (f v)

-- the same of lists, element by element
abbrev pub ListsThrough : {M N : Type 0} → (M → N) → (List FieldData → List M → Type 0) → (List FieldData → List N → Type 0) → Type 0
ListsThrough {M = M} {N = N} f reads also = (ds : List FieldData) (out : List N) → also ds out ↔ ((ms : List M) × reads ds ms × (out ≡ map f ms))
