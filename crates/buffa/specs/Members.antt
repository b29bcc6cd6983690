-- Words that messages by their fields cite, under one name.
unfoldable pub use Rattle.buffa_fields.specs.UnknownsOfMembers.{TookWithUnknowns}
unfoldable pub use Rattle.buffa_fields.specs.Schema.{AsksAsSaid, RefusesAsSaid, TakesAsSaid, TellsWrongType}
pub use Rattle.buffa_fields.specs.Schema.{Took}
pub use Rattle.buffa_fields.specs.facts.BlockVisitFacts.{both_waited, first_comes, here, not_here, second_comes}
pub use Rattle.buffa_fields.specs.Blocks.{TakesBlock, TakesWithUnknowns, no_unknowns, block, block_of, both_blocks, eight, five, four, one, one_case, one_with_unknowns, seven, six, three, two}
pub use Rattle.buffa_fields.specs.Cases.{other_of, this_of}
pub use Rattle.buffa_fields.specs.Levels.{AreExactLevels}
pub use Rattle.buffa_fields.specs.MemberList.{field, field_with_unknowns, keep_unknown, skip_unknown}
pub use Rattle.buffa_fields.specs.NamingOneOfs.{one_of}
pub use Rattle.buffa_fields.specs.OneOfParts.{case, enum_of, no_case, some_cases}
pub use Rattle.buffa_fields.specs.declared.meaning.Or.TheVariants.{Other, This}
pub use Rattle.buffa_fields.specs.facts.SchemaFacts.{chosen, not_chosen}
