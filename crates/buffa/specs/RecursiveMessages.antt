-- Words that messages that hold themselves cite, under one name: their members, and what contracts see of them.
pub use Rattle.buffa_wire.specs.StoredRecords.{coded_field_data}
pub use Rattle.buffa_wire.specs.Records.{FieldData}
pub use Rattle.buffa_recursive.specs.MessageTree.{MessageTree, coded_tree, head_one, tree_height, tree_of, most-of_list, option_of, rest_of, tail_inner}
pub use Rattle.buffa_recursive.specs.MemberList.{keeps_unknown, recursive_message, list_inside, map_inside, member, member_with_unknowns, member_one_of, one_inside, skips_unknown}
pub use Rattle.buffa_fields.specs.OneOfStored.{coded_or}
pub use Rattle.buffa_recursive.specs.MapTree.{most-of_map}
pub use Rattle.buffa_recursive.specs.Model.{has, has_case, has_unknown_fields, has_list, has_map, has_none, has_one, MeaningOf, CaseMeaningOf}
pub use Rattle.buffa_recursive.specs.Initialized.{true_if_there}
pub use Rattle.buffa_recursive.specs.ConditionsInside.{each_asked}
