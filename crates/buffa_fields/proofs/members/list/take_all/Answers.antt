use Rattle.std.proofs.Common.{◌≡◌, ◌∙◌, ◌⊎◌, inl, inr, IsOk, ℕ, List, map, arith, refl, subst}
use Rattle.std.proofs.lemmas.Result.{err_from_is_err_and}
use Rattle.buffa_bytes.specs.PayloadValue.{payload_value_at}
use Rattle.buffa_bytes.specs.declared.wire_type.WireType.{WireType}
use Rattle.buffa_fields.specs.facts.ListFacts.{element_falls}
use Rattle.buffa_fields.proofs.ListLemmas.{element_there, elements_done, elements_err, none_read, one_read, read_means, read_stops}
use Rattle.buffa_fields.proofs.members.list.take_all.Goals as goal

-- where a payload begins what is left, one begins all
begun : (w : WireType) (rest body : List ℕ) → (rest ≡ body) ⊎ IsOk (payload_value_at w body) → IsOk (payload_value_at w rest) → IsOk (payload_value_at w body)
begun w rest body (inl same) here = subst (λ z. IsOk (payload_value_at w z)) same here
begun w rest body (inr there) here = there

pub loop-rest-init : goal.loop-rest-init
loop-rest-init g c = record {
  read = none_read g.C.MapValueDecode.reading g.met.C.MapCodec.plain g.met.C.MapValueDecode.no_limit c.args.depth (map g.C.Value.Blank.meaning c.args.values.now.items) c.args.body.now;
  begins = inl refl;
}

pub loop-rest-preserved : goal.loop-rest-preserved
loop-rest-preserved g c =
    let m = g.C.Value.Blank.meaning in
    let codec = g.C.MapValueDecode.reading in
    record {
      read = one_read codec g.met.C.MapCodec.plain g.met.C.MapValueDecode.no_limit c.args.depth (map m c.args.values.now.items) (map m c.loop-rest.values.items) (map m c.take_element.new.values.items) c.args.body.now c.loop-rest.rest.now c.take_element.new.buf.now
          c.loop-rest.invariant.read c.in_ok-take_element.ensures.reads;
      begins = inr (begun codec.wire c.loop-rest.rest.now c.args.body.now c.loop-rest.invariant.begins
          (element_there codec g.met.C.MapCodec.plain g.met.C.MapValueDecode.no_limit c.args.depth (map m c.loop-rest.values.items) c.loop-rest.rest.now (map m c.take_element.new.values.items) c.take_element.new.buf.now c.in_ok-take_element.ensures.reads));
    }

pub loop-rest-smaller : goal.loop-rest-smaller
loop-rest-smaller g c =
    let m = g.C.Value.Blank.meaning in
    element_falls g.C.MapValueDecode.reading c.args.depth (map m c.loop-rest.values.items) c.loop-rest.rest.now (map m c.take_element.new.values.items, c.take_element.new.buf.now) c.in_ok-take_element.ensures.reads

pub returns-in_err-take_element-clause-reads : goal.returns-in_err-take_element-clause-reads
returns-in_err-take_element-clause-reads g c =
    let m = g.C.Value.Blank.meaning in
    let codec = g.C.MapValueDecode.reading in
    let now = map m c.loop-rest.values.items in
    let p = err_from_is_err_and c.from_residual.result c.from_residual.ensures.1 in
    rw (p.1, p.2) (λ ne. read_means codec g.met.C.MapCodec.plain g.met.C.MapValueDecode.no_limit c.args.depth (map m c.args.values.now.items) now c.args.body.now c.loop-rest.rest.now c.loop-rest.invariant.read
    ∙ elements_err codec g.met.C.MapCodec.plain g.met.C.MapValueDecode.no_limit c.args.depth now c.loop-rest.rest.now c.in_err-take_element.field-0.0 (omega (arith, c.remaining.ensures, c.loop-rest-test.true)) (c.in_err-take_element.ensures.reads ne))

pub returns-in_err-take_element-clause-full : goal.returns-in_err-take_element-clause-full
returns-in_err-take_element-clause-full g c =
    let p = err_from_is_err_and c.from_residual.result c.from_residual.ensures.1 in
    rw (p.1, p.2) (λ full. begun g.C.MapValueDecode.reading.wire c.loop-rest.rest.now c.args.body.now c.loop-rest.invariant.begins (c.in_err-take_element.ensures.full full))

pub returns-in_err-take_element-clause-stops : goal.returns-in_err-take_element-clause-stops
returns-in_err-take_element-clause-stops g c =
    let m = g.C.Value.Blank.meaning in
    let p = err_from_is_err_and c.from_residual.result c.from_residual.ensures.1 in
    rw (p.1, p.2) (read_stops g.C.MapValueDecode.reading g.met.C.MapCodec.plain g.met.C.MapValueDecode.no_limit c.args.depth (map m c.args.values.now.items) (map m c.loop-rest.values.items) (map m c.take_element.new.values.items) c.args.body.now c.loop-rest.rest.now c.in_err-take_element.field-0.0
    c.loop-rest.invariant.read c.in_err-take_element.ensures.stays c.in_err-take_element.ensures.reads)

pub returns-clause-reads : goal.returns-clause-reads
returns-clause-reads g c =
    let m = g.C.Value.Blank.meaning in
    let codec = g.C.MapValueDecode.reading in
    let now = map m c.loop-rest.values.items in
    read_means codec g.met.C.MapCodec.plain g.met.C.MapValueDecode.no_limit c.args.depth (map m c.args.values.now.items) now c.args.body.now c.loop-rest.rest.now c.loop-rest.invariant.read
    ∙ elements_done codec g.met.C.MapCodec.plain g.met.C.MapValueDecode.no_limit c.args.depth now c.loop-rest.rest.now (omega (arith, c.remaining.ensures, c.loop-rest-test.false))
