use Rattle.buffa_wire.specs.Enums.{numbers}
use Rattle.buffa_fields_laws.proofs.SpendingLemmas.{no_numbers, no_varint, no_wire, refused_numbers}
use Rattle.buffa_fields_laws.proofs.spending.malformed_numbers_cost_nothing.Goals as goal

pub returns-clause-no_payload : goal.returns-clause-no_payload
returns-clause-no_payload g c = λ d n w bs f h.
    let none = no_numbers (numbers g.E.Enumeration.of_number g.E.Blank.blank_is) d n w bs f h in (none, none)

pub returns-clause-refused : goal.returns-clause-refused
returns-clause-refused g c = λ d n w p more v kept h is.
    let none = refused_numbers (numbers g.E.Enumeration.of_number g.E.Blank.blank_is) d n w p more v kept h is in (none, none)

pub returns-clause-no_varint : goal.returns-clause-no_varint
returns-clause-no_varint g c = λ d n bs f h. no_varint (numbers g.E.Enumeration.of_number g.E.Blank.blank_is) d n bs f h

pub returns-clause-wire : goal.returns-clause-wire
returns-clause-wire g c = λ d n w bs other. no_wire (numbers g.E.Enumeration.of_number g.E.Blank.blank_is) d n w bs other
