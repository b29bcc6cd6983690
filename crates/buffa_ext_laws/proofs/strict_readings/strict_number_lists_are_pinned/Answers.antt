use Rattle.buffa_codec.specs.Strict.{number_list_fault}
use Rattle.buffa_wire.specs.BudgetLeft.{defaults}
use Rattle.buffa_ext_laws.proofs.StrictPinLemmas.{list_either, one_list_fault}
use Rattle.buffa_ext_laws.proofs.strict_readings.strict_number_lists_are_pinned.Goals as goal

pub returns-clause-either : goal.returns-clause-either
returns-clause-either g c = λ n ds. list_either (number_list_fault g.N.Form.Form.found g.N.Form.Form.WIRE_TYPE n) defaults ds

pub returns-clause-reported : goal.returns-clause-reported
returns-clause-reported g c = λ n ds e f h k. one_list_fault (number_list_fault g.N.Form.Form.found g.N.Form.Form.WIRE_TYPE n) defaults ds e f h k

pub returns-clause-packed_either : goal.returns-clause-packed_either
returns-clause-packed_either g c = λ n ds. list_either (number_list_fault g.N.Form.Form.found g.N.Form.Form.WIRE_TYPE n) defaults ds

pub returns-clause-packed_found : goal.returns-clause-packed_found
returns-clause-packed_found g c = λ n ds e f h k. one_list_fault (number_list_fault g.N.Form.Form.found g.N.Form.Form.WIRE_TYPE n) defaults ds e f h k
