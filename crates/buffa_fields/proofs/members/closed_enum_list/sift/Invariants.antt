use Rattle.std.proofs.Common.{◌≡◌, ◌++◌, List, map, take}
use Rattle.buffa_wire.specs.Enums.{numbers}
use Rattle.buffa_fields.proofs.ClosedEnumListLemmas.{PutSoFar}
use Rattle.buffa_fields.proofs.members.closed_enum_list.sift.Given as goal

abbrev pub invariant-loop-varint : goal.invariant-loop-varint
invariant-loop-varint g l = record {
  puts : PutSoFar (numbers g.E.Enumeration.of_number g.E.Blank.blank_is) l.number (take l.varint-index l.varints) (map g.E.Blank.meaning l.fn.values.items, l.fn.unknowns.records) l.fn.budget (map g.E.Blank.meaning l.values.items, l.unknowns.records) l.budget;
  front : (more : List _) × (l.values.items ≡ l.fn.values.items ++ more);
}
