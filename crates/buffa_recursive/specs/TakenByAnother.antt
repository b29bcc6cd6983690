-- A value that is told by another: what a field makes of the one, by what it makes of the other.
use Rattle.std.specs.Option.{option_map}
use Rattle.buffa_wire.specs.Takes.{Taker}

abbrev pub taken_through : {X Y : Type 0} (to : X → Y) (from : Y → X) → Taker X → Taker Y
taken_through to from takes d y n w p = option_map to (takes d (from y) n w p)
