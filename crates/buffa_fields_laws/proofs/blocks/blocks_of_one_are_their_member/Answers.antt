use Rattle.buffa_fields_laws.proofs.BlockLemmas.{no_unknowns_is, case_is, kept_is, one_is}
use Rattle.buffa_fields_laws.proofs.blocks.blocks_of_one_are_their_member.Goals as goal

pub returns-clause-one : goal.returns-clause-one
returns-clause-one g c = λ k get. one_is k get g.N.Member.shape g.F.MessageFields.schema

pub returns-clause-no_unknowns : goal.returns-clause-no_unknowns
returns-clause-no_unknowns g c = λ k get. no_unknowns_is k get g.N.Member.shape g.F.MessageFields.schema

pub returns-clause-kept : goal.returns-clause-kept
returns-clause-kept g c = λ k get. kept_is k get g.N.Member.shape g.F.MessageFields.schema g.N.KeepsUnknowns.unknowns

pub returns-clause-case : goal.returns-clause-case
returns-clause-case g c = λ get. case_is get g.E.OneOf.cases g.F.MessageFields.schema
