use Rattle.std.proofs.Common.{[], ap, ◌∙◌, map, subst}
use Rattle.std.specs.List.{AllByRecursion}
use Rattle.std.proofs.lemmas.List.{take_all}
use Rattle.std.proofs.lemmas.Result.{err_from_is_err_and}
use Rattle.buffa_codec.proofs.ListLemmas.{AllByRecursion-more}
use Rattle.buffa_codec.proofs.packed.packed_bytes.Goals as goal
use Rattle.buffa_wire.proofs.ByValueLemmas.{encodings_by_value, write_more}
use Rattle.buffa_wire.specs.Encoding.{encodings}

pub loop-v-preserved : goal.loop-v-preserved
loop-v-preserved g c =
    let m = g.C.Value.Blank.meaning in
    let encoding = g.C.PackableCodec.packed_encoding in
    let xs = c.args.values.now in
    record {
      written = write_more (encodings_by_value encoding) m xs c.loop-v.v-index c.v-item.result c.loop-v-test.true c.v-item.is [] c.loop-v.bytes.items _ c.loop-v.invariant.written c.in_ok-encode_packed.ensures.ok;
      fit = AllByRecursion-more g.C.SingularCodec.fits m xs c.loop-v.v-index c.v-item.result c.loop-v-test.true c.v-item.is c.loop-v.invariant.fit c.in_ok-encode_packed.ensures.fits;
    }

pub returns-in_err-encode_packed-clause-bytes : goal.returns-in_err-encode_packed-clause-bytes
returns-in_err-encode_packed-clause-bytes g c =
    let p = err_from_is_err_and c.from_residual-in_err-encode_packed.result c.from_residual-in_err-encode_packed.ensures.1 in
    rw p.1 tt

pub returns-in_err-encode_packed-clause-refused : goal.returns-in_err-encode_packed-clause-refused
returns-in_err-encode_packed-clause-refused g c =
    let p = err_from_is_err_and c.from_residual-in_err-encode_packed.result c.from_residual-in_err-encode_packed.ensures.1 in
    rw (p.1, p.2) c.in_err-encode_packed.ensures.refused

pub returns-in_err-encode_packed-clause-fits : goal.returns-in_err-encode_packed-clause-fits
returns-in_err-encode_packed-clause-fits g c =
    let p = err_from_is_err_and c.from_residual-in_err-encode_packed.result c.from_residual-in_err-encode_packed.ensures.1 in
    rw p.1 tt

pub returns-clause-bytes : goal.returns-clause-bytes
returns-clause-bytes g c =
    c.loop-v.invariant.written
    ∙ ap (λ l. encodings g.C.PackableCodec.packed_encoding (map g.C.Value.Blank.meaning l)) (take_all c.loop-v.v-index c.args.values.now c.loop-v-test.false)

pub returns-clause-fits : goal.returns-clause-fits
returns-clause-fits g c =
    subst (λ l. AllByRecursion g.C.SingularCodec.fits (map g.C.Value.Blank.meaning l)) (take_all c.loop-v.v-index c.args.values.now c.loop-v-test.false) c.loop-v.invariant.fit
