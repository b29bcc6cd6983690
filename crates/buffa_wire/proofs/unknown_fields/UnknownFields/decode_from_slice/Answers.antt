use Rattle.std.proofs.Common.{◌≡◌, ◌<◌, length, ap, arith, inl, inr, refl}
use Rattle.std.proofs.lemmas.Grind.{common_steps}
use Rattle.std.proofs.lemmas.Result.{err_from_is_err_and}
use Rattle.buffa_bytes.proofs.FieldLemmas.{tag_falls}
use Rattle.buffa_bytes.proofs.FullLemmas.{tag_no_full}
use Rattle.buffa_wire.proofs.SpentLemmas.{begins_reading, begins_taking}
use Rattle.buffa_wire.specs.Records.{Held}
use Rattle.buffa_wire.proofs.LoopLemmas.{field_falls, list_begins, list_ends, list_tag_err, list_field_err, list_next}
use Rattle.buffa_wire.proofs.unknown_fields.UnknownFields.decode_from_slice.Goals as goal

pub loop-rest-init : goal.loop-rest-init
loop-rest-init c = record {
  read = list_begins 100 1000000 c.new-budget.result.unknown c.args.bytes.now c.new-fields.result.records (ap (λ (h : Held). h.records) c.new-fields.ensures) c.new-budget.ensures.unknown;
  begun = inl (refl, c.new-budget.ensures.unknown);
}

pub returns-in_err-tag : goal.returns-in_err-tag
returns-in_err-tag c =
    let p = err_from_is_err_and c.from_residual.result c.from_residual.ensures.1 in
    let some : 0 < length c.loop-rest.rest.now = grind (arith, common_steps) in
    record {
      reads = rw (p.1, p.2) (λ other. list_tag_err _ _ _ _ _ _ c.loop-rest.invariant.read some _ c.in_err-tag.ensures.reads);
      full = rw (p.1, p.2) (tag_no_full c.loop-rest.rest.now _ c.in_err-tag.ensures.reads);
    }

pub returns-in_err-field : goal.returns-in_err-field
returns-in_err-field c =
    let p = err_from_is_err_and c.from_residual-in_err-field.result c.from_residual-in_err-field.ensures.1 in
    let some : 0 < length c.loop-rest.rest.now = grind (arith, common_steps) in
    record {
      reads = rw (p.1, p.2) (λ other. list_field_err _ _ _ _ _ _ c.loop-rest.invariant.read some _ c.in_ok-tag.ensures.reads _ (c.in_err-field.ensures.reads other));
      full = rw (p.1, p.2) (λ k. begins_taking _ _ _ _ _ c.loop-rest.invariant.begun _ c.in_ok-tag.ensures.reads (c.in_err-field.ensures.full k));
    }

pub loop-rest-smaller : goal.loop-rest-smaller
loop-rest-smaller c = omega (arith, tag_falls _ _ c.in_ok-tag.ensures.reads, field_falls _ _ _ _ _ _ c.in_ok-field.ensures.reads)

pub loop-rest-preserved : goal.loop-rest-preserved
loop-rest-preserved c =
    let some : 0 < length c.loop-rest.rest.now = grind (arith, common_steps) in
    record {
      read = list_next _ _ _ _ _ _ c.loop-rest.invariant.read some _ c.in_ok-tag.ensures.reads _ _ _ c.in_ok-field.ensures.reads c.in_ok-field.ensures.number c.in_ok-push.ensures.ok;
      begun = inr (begins_reading _ _ _ _ _ c.loop-rest.invariant.begun _ c.in_ok-tag.ensures.reads _ c.in_ok-field.ensures.reads);
    }

pub returns-in_err-push-clause-full : goal.returns-in_err-push-clause-full
returns-in_err-push-clause-full c =
    let p = err_from_is_err_and c.from_residual-in_err-push.result c.from_residual-in_err-push.ensures.1 in
    rw (p.1, p.2) (λ k. begins_reading _ _ _ _ _ c.loop-rest.invariant.begun _ c.in_ok-tag.ensures.reads _ c.in_ok-field.ensures.reads)

pub returns-clause-reads : goal.returns-clause-reads
returns-clause-reads c =
    let none : length c.loop-rest.rest.now ≡ 0 = grind (arith, common_steps) in
    list_ends _ _ _ _ _ _ c.loop-rest.invariant.read none
