use Rattle.buffa_fields_laws.proofs.BlockLemmas.{both_are}
use Rattle.buffa_fields_laws.specs.SameSchema.{as_with_unknowns}
use Rattle.buffa_fields_laws.proofs.blocks.blocks_are_their_members.Goals as goal

pub returns : goal.returns
returns g c = λ same. both_are g.B.MemberBlock.members.get g.C.MemberBlock.members.get g.B.MemberBlock.members.block (as_with_unknowns same g.C.MemberBlock.members.block) g.F.MessageFields.schema
