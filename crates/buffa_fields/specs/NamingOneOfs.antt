-- A message names its oneofs by this. Source: the protobuf encoding guide, "Oneofs".
use Rattle.std.specs.Prelude.{Option}
use Rattle.buffa_fields.specs.Schema.{Schema}
use Rattle.buffa_fields.specs.MemberList.{part}
use Rattle.buffa_fields.specs.facts.OneOfFacts.{one_of_laws}
use Rattle.buffa_fields.specs.OneOfParts.{OneOf, one_of_part}

-- a oneof, and the others
abbrev pub one_of : {M O X B : Type 0} → (M → Option O) → OneOf O X → Schema M B → Schema M (Option X × B)
one_of get e l = part (one_of_part get e) (one_of_laws get e) l
