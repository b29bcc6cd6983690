use Rattle.std.proofs.Common.{sym, ap, ◌∙◌, map, take, drop, ◌∷◌, [], ◌+◌, refl, subst, length, arith}
use Rattle.std.specs.List.{AllByRecursion}
use Rattle.std.proofs.lemmas.Result.{err_from_is_err_and}
use Rattle.std.proofs.lemmas.Bool.{false≢true}
use Rattle.buffa_wire.specs.RecordsOfValues.{field_data_of}
use Rattle.buffa_codec.specs.Decoded.{KeepsCapacity, first_refusal}
use Rattle.buffa_codec.proofs.CapacityLemmas.{capacity_more}
use Rattle.buffa_codec.proofs.TurnLemmas.{values_length, writes_one_more, writes_front, writes_part}
use Rattle.buffa_codec.proofs.ListLemmas.{AllByRecursion-at, AllByRecursion-more, first_refusal-append, first_refusal-pass, refused_whole}
use Rattle.buffa_codec.proofs.repeated.RepeatedExtensionCodec.try_encode.Goals as goal
use Rattle.buffa_bytes.proofs.ListLemmas.{means_cut, means_more}

pub returns-in_err-payload-clause-err : goal.returns-in_err-payload-clause-err
returns-in_err-payload-clause-err g c =
    writes_front _ g.C.SingularCodec.field_data g.C.Value.Blank.meaning c.args.number c.args.value.items c.as_slice-v-items.result.now c.loop-v.v-index c.args.fields.now.records c.loop-v.fields.records c.as_slice-v-items.ensures.value c.loop-v-test.true c.loop-v.invariant.written

pub returns-in_err-payload-clause-refused : goal.returns-in_err-payload-clause-refused
returns-in_err-payload-clause-refused g c =
    let m = g.C.Value.Blank.meaning in
    let xs = c.as_slice-v-items.result.now in
    let p = err_from_is_err_and c.from_residual.result c.from_residual.ensures.1 in
    rw (p.1, p.2) (refused_whole g.C.SingularCodec.refusal (map m (take c.loop-v.v-index xs)) (m c.v-item.result) (map m (drop (c.loop-v.v-index + 1) xs)) (map m c.args.value.items) c.in_err-payload.field-0.0
    (ap (map m) (sym c.as_slice-v-items.ensures.value) ∙ means_cut m xs c.loop-v.v-index c.v-item.result c.loop-v-test.true c.v-item.is)
    c.loop-v.invariant.allowed c.in_err-payload.ensures.refused)

pub returns-in_err-push-clause-err : goal.returns-in_err-push-clause-err
returns-in_err-push-clause-err g c =
    let p = err_from_is_err_and c.from_residual-in_err-push.result c.from_residual-in_err-push.ensures.1 in
    rw p.1 (writes_part g.C.SingularCodec.field_data g.C.Value.Blank.meaning c.args.number c.args.value.items c.as_slice-v-items.result.now c.loop-v.v-index c.args.fields.now.records c.push.new.self.records c.as_slice-v-items.ensures.value c.loop-v-test.true (ap (λ f. f.records) c.in_err-push.ensures.err ∙ c.loop-v.invariant.written))

pub returns-in_err-payload-clause-reserved : goal.returns-in_err-payload-clause-reserved
returns-in_err-payload-clause-reserved g c =
    λ free enough. absurd (false≢true (c.in_err-payload.ensures.free (AllByRecursion-at g.C.SingularCodec.made_free g.C.Value.Blank.meaning c.as_slice-v-items.result.now c.loop-v.v-index c.v-item.result c.loop-v-test.true c.v-item.is
    (subst (λ l. AllByRecursion g.C.SingularCodec.made_free (map g.C.Value.Blank.meaning l)) (sym c.as_slice-v-items.ensures.value) free))))

pub returns-in_err-push-clause-room : goal.returns-in_err-push-clause-room
returns-in_err-push-clause-room g c = subst (KeepsCapacity c.args.fields.now) (sym c.in_err-push.ensures.err) c.loop-v.invariant.places

pub returns-in_err-push-clause-reserved : goal.returns-in_err-push-clause-reserved
returns-in_err-push-clause-reserved g c free enough =
    let m = g.C.Value.Blank.meaning in
    absurd (false≢true (c.in_err-push.ensures.succeeds (omega (arith, enough, c.loop-v.invariant.room, c.loop-v-test.true, ap length c.as_slice-v-items.ensures.value, values_length g.C.SingularCodec.field_data m c.args.value.items))))

pub loop-v-preserved : goal.loop-v-preserved
loop-v-preserved g c =
    let m = g.C.Value.Blank.meaning in
    let xs = c.as_slice-v-items.result.now in
    let more = means_more m xs c.loop-v.v-index c.v-item.result c.loop-v-test.true c.v-item.is in
    record {
      written = writes_one_more g.C.SingularCodec.field_data m c.args.number xs c.loop-v.v-index c.v-item.result (field_data_of c.in_ok-payload.payload) c.args.fields.now.records c.loop-v.fields.records c.push.new.self.records (c.args.number, field_data_of c.in_ok-payload.payload)
          c.loop-v-test.true c.v-item.is c.in_ok-payload.ensures.record refl c.loop-v.invariant.written c.in_ok-push.ensures.ok;
      allowed = ap (first_refusal g.C.SingularCodec.refusal) more ∙ first_refusal-append g.C.SingularCodec.refusal (map m (take c.loop-v.v-index xs)) (m c.v-item.result ∷ []) c.loop-v.invariant.allowed ∙ first_refusal-pass g.C.SingularCodec.refusal (m c.v-item.result) [] c.in_ok-payload.ensures.refused;
      room = omega (arith, c.loop-v.invariant.room, c.in_ok-push.ensures.room);
      places = capacity_more c.args.fields.now c.loop-v.fields c.push.new.self (c.args.number, field_data_of c.in_ok-payload.payload) c.loop-v.invariant.places c.in_ok-push.ensures.ok c.in_ok-push.ensures.room;
      fit = AllByRecursion-more g.C.SingularCodec.fits m xs c.loop-v.v-index c.v-item.result c.loop-v-test.true c.v-item.is c.loop-v.invariant.fit c.in_ok-payload.ensures.fits;
    }
