use Rattle.std.proofs.Common.{◌-◌, ◌≤◌, vec_capacity, vec_len, arith}
use Rattle.std.proofs.lemmas.Result.{err_from_is_err_and}
use Rattle.buffa_codec.proofs.TakesLemmas.{packs_some}
use Rattle.buffa_bytes.specs.PayloadValue.PayloadValue.{number}
use Rattle.buffa_codec.specs.PackedFacts.{numbers_shorten}
use Rattle.buffa_codec.proofs.PackLemmas.{full_by, packs_more, packs_front, packs_full, packs_room, packs_end}
use Rattle.buffa_codec.proofs.number.AnySingularCodec.decode_packed.Goals as goal

pub loop-n-smaller : goal.loop-n-smaller
loop-n-smaller g c = numbers_shorten g.N.Form.Form.WIRE_TYPE c.loop-n.rest.now (number c.in-Ok.n) c.read.new.buf.now c.in-Ok.ensures.reads

pub loop-n-preserved : goal.loop-n-preserved
loop-n-preserved g c =
    let before = vec_capacity c.loop-n.out - vec_len c.loop-n.out in
    let after = vec_capacity c.push.new.self - vec_len c.push.new.self in
    record {
      packs = packs_more g.N.Form.Form.WIRE_TYPE g.N.Value.Blank.meaning g.N.Numbered.value_of c.args.bytes.now c.loop-n.rest.now c.read.new.buf.now c.in-Ok.n c.args.out.now.items c.loop-n.out.items c.push.new.self.items c.value_of.result
          (vec_capacity c.args.out.now - vec_len c.args.out.now) before after c.in-Ok.ensures.reads c.loop-n.invariant.packs c.value_of.ensures c.in_ok-push.ensures.items
          (omega (arith, c.in_ok-push.ensures.len, c.in_ok-push.ensures.capacity));
      kept = omega (arith, c.loop-n.invariant.kept, c.in_ok-push.ensures.capacity);
    }

pub returns-in_err-push-clause-err : goal.returns-in_err-push-clause-err
returns-in_err-push-clause-err g c =
    packs_front c.from_residual.result g.N.Form.Form.WIRE_TYPE g.N.Value.Blank.meaning g.N.Numbered.value_of c.args.bytes.now c.loop-n.rest.now c.read.new.buf.now c.in-Ok.n c.args.out.now.items c.loop-n.out.items c.push.new.self.items
    (vec_capacity c.args.out.now - vec_len c.args.out.now) (vec_capacity c.loop-n.out - vec_len c.loop-n.out) c.in-Ok.ensures.reads c.loop-n.invariant.packs c.in_err-push.ensures.items

pub returns-in_err-push-clause-room : goal.returns-in_err-push-clause-room
returns-in_err-push-clause-room g c =
    let none : vec_capacity c.loop-n.out - vec_len c.loop-n.out ≤ 0 = full_by (vec_len c.loop-n.out) (vec_capacity c.loop-n.out) c.in_err-push.ensures.succeeds in
    let p = err_from_is_err_and c.from_residual.result c.from_residual.ensures.1 in
    rw p.1 (packs_full g.N.Form.Form.WIRE_TYPE g.N.Value.Blank.meaning g.N.Numbered.value_of c.args.bytes.now c.loop-n.rest.now c.read.new.buf.now c.in-Ok.n c.args.out.now.items c.loop-n.out.items
    (vec_capacity c.args.out.now - vec_len c.args.out.now) (vec_capacity c.loop-n.out - vec_len c.loop-n.out) c.in-Ok.ensures.reads c.loop-n.invariant.packs none)

pub returns-clause-room : goal.returns-clause-room
returns-clause-room g c =
    packs_room g.N.Form.Form.WIRE_TYPE g.N.Value.Blank.meaning g.N.Numbered.value_of c.args.bytes.now c.loop-n.rest.now c.in_default.field-0 c.args.out.now.items c.loop-n.out.items
    (vec_capacity c.args.out.now - vec_len c.args.out.now) (vec_capacity c.loop-n.out - vec_len c.loop-n.out) c.in_default.ensures.reads c.loop-n.invariant.packs

pub returns-clause-ok : goal.returns-clause-ok
returns-clause-ok g c =
    packs_end g.N.Form.Form.WIRE_TYPE g.N.Value.Blank.meaning g.N.Numbered.value_of c.args.bytes.now c.loop-n.rest.now c.in_default.field-0 c.args.out.now.items c.loop-n.out.items
    (vec_capacity c.args.out.now - vec_len c.args.out.now) (vec_capacity c.loop-n.out - vec_len c.loop-n.out) c.in_default.ensures.reads c.loop-n.invariant.packs

pub returns-in_err-push-clause-full : goal.returns-in_err-push-clause-full
returns-in_err-push-clause-full g c =
    packs_some c.from_residual.result g.N.Form.Form.WIRE_TYPE g.N.Numbered.value_of c.args.bytes.now c.loop-n.rest.now c.read.new.buf.now c.in-Ok.n c.loop-n.invariant.packs.0 c.in-Ok.ensures.reads c.loop-n.invariant.packs.2
