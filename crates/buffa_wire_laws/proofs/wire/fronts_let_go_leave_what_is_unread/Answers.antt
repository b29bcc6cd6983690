use Rattle.std.proofs.Common.{◌∙◌, ap, rules}
use Rattle.buffa_wire_laws.proofs.FrontRest.{past_limited}
use Rattle.buffa_wire_laws.proofs.wire.fronts_let_go_leave_what_is_unread.Goals as goal

pub returns-clause-rest : goal.returns-clause-rest
returns-clause-rest g c =
    ap g.B.Buf.unread {y = c.advance.new.self.inner.now} (search rules)
    ∙ past_limited g.B.Buf.unread c.args.n c.args.limit _ _ c.args.buf.now _ _ _ _ _ _ c.requires.within c.requires.there c.new-front.ensures.inner c.new-front.ensures.limit c.advance.ensures.rest c.advance.ensures.kept
