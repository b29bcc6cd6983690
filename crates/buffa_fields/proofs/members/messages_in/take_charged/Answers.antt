use Rattle.std.proofs.Common.{◌≡◌, Ok, sym}
use Rattle.std.proofs.lemmas.Result.{err_from_is_err_and}
use Rattle.buffa_bytes.proofs.WireLemmas.{checked_same}
use Rattle.buffa_bytes.specs.Readings.{check_wire}
use Rattle.buffa_fields.specs.Framing.{cost_as, each_cost_as, taken_as}
use Rattle.buffa_fields.proofs.FramingLemmas.{none_as, taken_here}
use Rattle.buffa_fields.proofs.InsideLemmas.{charged, uncharged}
use Rattle.buffa_fields.proofs.members.messages_in.take_charged.Goals as goal

pub returns-in_err-check_wire_type-clause-taken : goal.returns-in_err-check_wire_type-clause-taken
returns-in_err-check_wire_type-clause-taken g c =
    let f = g.F.Framing.frame in
    let p = err_from_is_err_and c.from_residual.result c.from_residual.ensures.1 in
    rw (p.1, p.2) (none_as f.wire (f.makes g.N.MessageSpec.merged) (each_cost_as f.wire g.N.MessageSpec.COST (f.cost g.N.MessageSpec.cost)) c.args.ctx.depth c.args.tag.number c.args.tag.wire_type (g.N.Blank.meaning c.args.message.now) c.args.buf.now.now c.args.ctx.budget.now _ (rw (sym c.wire_type.ensures) c.in_err-check_wire_type.ensures))

pub returns-in_err-take_memory-clause-taken : goal.returns-in_err-take_memory-clause-taken
returns-in_err-take_memory-clause-taken g c =
    let f = g.F.Framing.frame in
    let old = g.N.Blank.meaning c.args.message.now in
    let e = c.in_err-take_memory.ensures in
    let p = err_from_is_err_and c.from_residual-in_err-take_memory.result c.from_residual-in_err-take_memory.ensures.1 in
    rw (p.1, p.2) (uncharged f.wire (taken_as f.wire (f.makes g.N.MessageSpec.merged)) g.N.MessageSpec.COST (f.cost g.N.MessageSpec.cost) c.args.ctx.depth c.args.tag.number c.args.tag.wire_type old old c.args.buf.now.now c.args.buf.now.now c.args.ctx.budget.now c.take_memory.new.self
    (rw (sym c.wire_type.ensures) c.in_ok-check_wire_type.ensures) c.COST.result c.COST.ensures e.err _ e.which)

pub returns-clause-taken : goal.returns-clause-taken
returns-clause-taken g c =
    let f = g.F.Framing.frame in
    let t = c.merge in
    let takes = taken_as f.wire (f.makes g.N.MessageSpec.merged) in
    let tag = c.args.tag in
    let old = g.N.Blank.meaning c.args.message.now in
    let new = g.N.Blank.meaning t.new.message in
    let checked : check_wire tag.number f.wire tag.wire_type ≡ Ok tt = rw (sym c.wire_type.ensures) c.in_ok-check_wire_type.ensures in
    charged f.wire takes g.N.MessageSpec.COST (f.cost g.N.MessageSpec.cost) c.args.ctx.depth tag.number tag.wire_type old new c.args.buf.now.now t.new.buf.now c.args.ctx.budget.now _
    checked c.COST.result c.COST.ensures c.take_memory.new.self c.in_ok-take_memory.ensures.ok t.result
    (taken_here takes (cost_as f.wire (f.cost g.N.MessageSpec.cost)) c.args.ctx.depth tag.number c.field_number.result tag.wire_type f.wire old new c.args.buf.now.now t.new.buf.now c.take_memory.new.self _ t.result c.field_number.ensures (checked_same tag.number f.wire tag.wire_type checked) t.ensures.taken)
