use Rattle.buffa_bytes.proofs.UnreadLemmas.{fixed32_stays, fixed64_stays, no_number, no_payload, no_tag, no_delimited_cut, no_delimited_whole, no_varint}
use Rattle.buffa_wire_laws.proofs.wire.rests_are_these.Goals as goal

pub returns-clause-no_varint : goal.returns-clause-no_varint
returns-clause-no_varint c = no_varint

pub returns-clause-no_number : goal.returns-clause-no_number
returns-clause-no_number c = no_number

pub returns-clause-tag : goal.returns-clause-tag
returns-clause-tag c = no_tag

pub returns-clause-cut : goal.returns-clause-cut
returns-clause-cut c = no_delimited_cut

pub returns-clause-whole : goal.returns-clause-whole
returns-clause-whole c = no_delimited_whole

pub returns-clause-payload : goal.returns-clause-payload
returns-clause-payload c = no_payload

pub returns-clause-fixed : goal.returns-clause-fixed
returns-clause-fixed c = λ bs. (fixed32_stays bs, fixed64_stays bs)
