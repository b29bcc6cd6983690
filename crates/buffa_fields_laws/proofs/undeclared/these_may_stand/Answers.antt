use Rattle.std.proofs.Common.{refl}
use Rattle.buffa_fields.specs.facts.EntryDepthFacts.{IsEven, undeclared_among_unknowns}
use Rattle.buffa_map.specs.Enums.{closed_reading}
use Rattle.buffa_map.specs.Scalars.{int32_reading, text_reading}
use Rattle.buffa_wire.specs.Enums.{Numbers, numbers}
use Rattle.buffa_fields_laws.proofs.undeclared.these_may_stand.Goals as goal

even_int32 : IsEven int32_reading
even_int32 = (refl, λ k d old c. refl)

even_closed : (e : Numbers) → IsEven (closed_reading e)
even_closed e = (refl, λ k d old c. refl)

pub returns-clause-entry : goal.returns-clause-entry
returns-clause-entry g c = λ d e h.
    let numbers_of : Numbers = numbers g.E.Enumeration.of_number g.E.Blank.blank_is in
    undeclared_among_unknowns int32_reading (closed_reading numbers_of) even_int32 (even_closed numbers_of) d e h

pub returns-clause-named_entry : goal.returns-clause-named_entry
returns-clause-named_entry g c = λ d e h.
    let numbers_of : Numbers = numbers g.E.Enumeration.of_number g.E.Blank.blank_is in
    undeclared_among_unknowns text_reading (closed_reading numbers_of) (refl, λ k d old c. refl) (even_closed numbers_of) d e h
