use Rattle.std.proofs.Common.{rules, ℕ, ◌-◌, ◌≡◌, ◌∙◌, arith, refl, sym, ap, Err, inl, inr}
use Rattle.std.proofs.lemmas.Result.{err_from_is_err_and}
use Rattle.buffa_bytes.specs.declared.wire_type.WireType.TheVariants.{EndGroup}
use Rattle.buffa_bytes.specs.declared.error.DecodeError.TheVariants.{InvalidEndGroup}
use Rattle.buffa_bytes.proofs.FieldLemmas.{tag_falls}
use Rattle.buffa_bytes.proofs.UnreadLemmas.{end_stays}
use Rattle.buffa_wire.proofs.LeaveLemmas.{leaves_all}
use Rattle.buffa_wire.specs.BudgetLeft.{BudgetLeft}
use Rattle.buffa_wire.specs.RecordReading.{group_records_at}
use Rattle.buffa_wire.specs.Records.{Held}
use Rattle.buffa_bytes.proofs.TailLemmas.{tail_more, tail_whole}
use Rattle.buffa_bytes.proofs.FullLemmas.{tag_no_full}
use Rattle.buffa_wire.proofs.SpentLemmas.{begins_reading, begins_taking, field_spent, further_spent, next_spent, none_spent, one_spent, takes_group, takes_inside, takes_plain}
use Rattle.buffa_wire.proofs.LoopLemmas.{field_falls, field_end, field_no_unknown, field_group_ok, field_group_err, field_plain_ok, field_plain_err, group_begins, group_limit, group_tag_err, group_end, group_other, group_field_err, group_next}
use Rattle.buffa_wire.proofs.unknown_fields.read.+decode.Goals as goal

pub decode_group-returns-then-depth-eq0-clause-reads : goal.decode_group-returns-then-depth-eq0-clause-reads
decode_group-returns-then-depth-eq0-clause-reads g t c = λ other. group_limit _ _ _ _ c.if-depth-eq0.true

pub decode_group-returns-in_err-tag-clause-reads : goal.decode_group-returns-in_err-tag-clause-reads
decode_group-returns-in_err-tag-clause-reads g t c =
    let p = err_from_is_err_and c.from_residual.result c.from_residual.ensures.1 in
    rw (p.1, p.2) (λ other. group_tag_err (c.args.ctx.depth - 1) c.loop-fields.budget.unknown c.args.number (g.B.Buf.unread c.loop-fields.buf) c.loop-fields.fields.records (group_records_at c.args.ctx.depth c.args.ctx.budget.now.unknown c.args.number (g.B.Buf.unread c.args.buf.now)) c.loop-fields.invariant.read _ c.in_err-tag.ensures.reads)

pub decode_group-returns-in_err-tag-clause-full : goal.decode_group-returns-in_err-tag-clause-full
decode_group-returns-in_err-tag-clause-full g t c =
    let p = err_from_is_err_and c.from_residual.result c.from_residual.ensures.1 in
    rw (p.1, p.2) (tag_no_full (g.B.Buf.unread c.loop-fields.buf) _ c.in_err-tag.ensures.reads)

pub decode_group-returns-in_err-tag-clause-spent : goal.decode_group-returns-in_err-tag-clause-spent
decode_group-returns-in_err-tag-clause-spent g t c = further_spent _ _ _ _ _ c.loop-fields.invariant.tail c.in_err-tag.ensures.tail c.loop-fields.invariant.spent

pub decode_group-returns-in_err-tag-clause-tail : goal.decode_group-returns-in_err-tag-clause-tail
decode_group-returns-in_err-tag-clause-tail g t c = tail_more _ _ _ c.in_err-tag.ensures.tail c.loop-fields.invariant.tail

pub decode_group-returns-then-field_number-number-clause-spent : goal.decode_group-returns-then-field_number-number-clause-spent
decode_group-returns-then-field_number-number-clause-spent g t c = further_spent _ _ _ _ _ c.loop-fields.invariant.tail c.in_ok-tag.ensures.tail c.loop-fields.invariant.spent

pub decode_group-returns-then-field_number-number-clause-tail : goal.decode_group-returns-then-field_number-number-clause-tail
decode_group-returns-then-field_number-number-clause-tail g t c = tail_more _ _ _ c.in_ok-tag.ensures.tail c.loop-fields.invariant.tail

pub decode_group-returns-in-EndGroup-clause-spent : goal.decode_group-returns-in-EndGroup-clause-spent
decode_group-returns-in-EndGroup-clause-spent g t c = further_spent _ _ _ _ _ c.loop-fields.invariant.tail c.in_ok-tag.ensures.tail c.loop-fields.invariant.spent

pub decode_group-returns-in-EndGroup-clause-tail : goal.decode_group-returns-in-EndGroup-clause-tail
decode_group-returns-in-EndGroup-clause-tail g t c = tail_more _ _ _ c.in_ok-tag.ensures.tail c.loop-fields.invariant.tail

pub decode_group-returns-then-field_number-number-clause-reads : goal.decode_group-returns-then-field_number-number-clause-reads
decode_group-returns-then-field_number-number-clause-reads g t c =
    group_end (c.args.ctx.depth - 1) c.loop-fields.budget.unknown c.args.number (g.B.Buf.unread c.loop-fields.buf) c.loop-fields.fields.records (group_records_at c.args.ctx.depth c.args.ctx.budget.now.unknown c.args.number (g.B.Buf.unread c.args.buf.now)) c.loop-fields.invariant.read _ c.in_ok-tag.ensures.reads (sym c.in-EndGroup.ensures) (sym c.field_number.ensures ∙ c.if-field_number-number.true)

pub decode_group-returns-in-EndGroup-clause-reads : goal.decode_group-returns-in-EndGroup-clause-reads
decode_group-returns-in-EndGroup-clause-reads g t c =
    rw c.field_number-in-EndGroup.ensures (λ other. group_other (c.args.ctx.depth - 1) c.loop-fields.budget.unknown c.args.number (g.B.Buf.unread c.loop-fields.buf) c.loop-fields.fields.records (group_records_at c.args.ctx.depth c.args.ctx.budget.now.unknown c.args.number (g.B.Buf.unread c.args.buf.now)) c.loop-fields.invariant.read _ c.in_ok-tag.ensures.reads (sym c.in-EndGroup.ensures) (λ e. c.if-field_number-number.false (c.field_number.ensures ∙ e)))

pub decode_group-loop-fields-init : goal.decode_group-loop-fields-init
decode_group-loop-fields-init g t c = record {
  read = group_begins c.args.ctx.depth c.args.ctx.budget.now.unknown c.args.ctx.budget.now.unknown c.args.number (g.B.Buf.unread c.args.buf.now) c.new-fields.result.records c.if-depth-eq0.false (ap (λ (h : Held). h.records) c.new-fields.ensures) refl;
  memory = refl;
  spent = (omega arith, omega arith);
  tail = tail_whole _;
  begun = inl (refl, refl);
  kept = refl {a = g.B.Buf.beyond c.args.buf.now};
}

pub decode_group-loop-fields-smaller : goal.decode_group-loop-fields-smaller
decode_group-loop-fields-smaller g t c = omega (arith, tag_falls _ _ c.in_ok-tag.ensures.reads, field_falls _ _ _ _ _ _ c.in_ok-field.ensures.reads)

pub decode_group-returns-in_err-field : goal.decode_group-returns-in_err-field
decode_group-returns-in_err-field g t c =
    let p = err_from_is_err_and c.from_residual-in_err-field.result c.from_residual-in_err-field.ensures.1 in
    record {
      reads = rw (p.1, p.2) (λ other. group_field_err (c.args.ctx.depth - 1) c.loop-fields.budget.unknown c.args.number (g.B.Buf.unread c.loop-fields.buf) c.loop-fields.fields.records (group_records_at c.args.ctx.depth c.args.ctx.budget.now.unknown c.args.number (g.B.Buf.unread c.args.buf.now)) c.loop-fields.invariant.read _ c.in_ok-tag.ensures.reads (λ e. c.in_default.not-EndGroup (c.wire_type.ensures ∙ e)) _ (c.in_err-field.ensures.reads other));
      memory = c.in_err-field.ensures.memory ∙ c.loop-fields.invariant.memory;
      full = rw (p.1, p.2) (λ k. takes_inside _ _ _ c.if-depth-eq0.false (begins_taking _ _ _ _ _ c.loop-fields.invariant.begun _ c.in_ok-tag.ensures.reads (c.in_err-field.ensures.full k)));
      level = λ z. absurd {A = g.B.Buf.unread c.decode_unknown_field.new.buf ≡ g.B.Buf.unread c.args.buf.now} (c.if-depth-eq0.false z);
      deep = λ z. absurd (c.if-depth-eq0.false z);
      spent = next_spent _ _ _ _ _ _ _ c.loop-fields.invariant.tail c.in_ok-tag.ensures.tail c.in_err-field.ensures.tail (tag_falls _ _ c.in_ok-tag.ensures.reads) c.loop-fields.invariant.spent c.in_err-field.ensures.spent;
      tail = tail_more _ _ _ c.in_err-field.ensures.tail (tail_more _ _ _ c.in_ok-tag.ensures.tail c.loop-fields.invariant.tail);
      kept = c.in_err-field.ensures.kept ∙ c.in_ok-tag.ensures.kept ∙ c.loop-fields.invariant.kept;
    }

pub decode_group-returns-in_err-push : goal.decode_group-returns-in_err-push
decode_group-returns-in_err-push g t c =
    let p = err_from_is_err_and c.from_residual-in_err-push.result c.from_residual-in_err-push.ensures.1 in
    record {
      reads = rw (p.1, p.2) (λ other. absurd (other refl));
      full = rw (p.1, p.2) (λ k. takes_inside _ _ _ c.if-depth-eq0.false (begins_reading _ _ _ _ _ c.loop-fields.invariant.begun _ c.in_ok-tag.ensures.reads _ c.in_ok-field.ensures.reads));
      level = λ z. absurd (c.if-depth-eq0.false z);
      deep = λ z. absurd (c.if-depth-eq0.false z);
      memory = c.in_ok-field.ensures.memory ∙ c.loop-fields.invariant.memory;
      spent = next_spent _ _ _ _ _ _ _ c.loop-fields.invariant.tail c.in_ok-tag.ensures.tail c.in_ok-field.ensures.tail (tag_falls _ _ c.in_ok-tag.ensures.reads) c.loop-fields.invariant.spent c.in_ok-field.ensures.spent;
      kept = c.in_ok-field.ensures.kept ∙ c.in_ok-tag.ensures.kept ∙ c.loop-fields.invariant.kept;
      tail = tail_more _ _ _ c.in_ok-field.ensures.tail (tail_more _ _ _ c.in_ok-tag.ensures.tail c.loop-fields.invariant.tail);
    }

pub decode_group-loop-fields-preserved : goal.decode_group-loop-fields-preserved
decode_group-loop-fields-preserved g t c = record {
  read = group_next (c.args.ctx.depth - 1) c.loop-fields.budget.unknown c.args.number (g.B.Buf.unread c.loop-fields.buf) c.loop-fields.fields.records (group_records_at c.args.ctx.depth c.args.ctx.budget.now.unknown c.args.number (g.B.Buf.unread c.args.buf.now)) c.loop-fields.invariant.read _ c.in_ok-tag.ensures.reads (λ e. c.in_default.not-EndGroup (c.wire_type.ensures ∙ e)) _ _ _ c.in_ok-field.ensures.reads c.in_ok-field.ensures.number c.in_ok-push.ensures.ok;
  memory = c.in_ok-field.ensures.memory ∙ c.loop-fields.invariant.memory;
  spent = next_spent _ _ _ _ _ _ _ c.loop-fields.invariant.tail c.in_ok-tag.ensures.tail c.in_ok-field.ensures.tail (tag_falls _ _ c.in_ok-tag.ensures.reads) c.loop-fields.invariant.spent c.in_ok-field.ensures.spent;
  tail = tail_more _ _ _ c.in_ok-field.ensures.tail (tail_more _ _ _ c.in_ok-tag.ensures.tail c.loop-fields.invariant.tail);
  begun = inr (begins_reading _ _ _ _ _ c.loop-fields.invariant.begun _ c.in_ok-tag.ensures.reads _ c.in_ok-field.ensures.reads);
  kept = c.in_ok-field.ensures.kept ∙ c.in_ok-tag.ensures.kept ∙ c.loop-fields.invariant.kept;
}

pub decode_unknown_field-returns-in-EndGroup-clause-reads : goal.decode_unknown_field-returns-in-EndGroup-clause-reads
decode_unknown_field-returns-in-EndGroup-clause-reads g t c = λ other. field_end _ _ _ _ _ c.in-EndGroup.is

pub decode_unknown_field-returns-in-EndGroup-clause-left : goal.decode_unknown_field-returns-in-EndGroup-clause-left
decode_unknown_field-returns-in-EndGroup-clause-left g t c = λ k some.
    leaves_all {X = ℕ} (Err (InvalidEndGroup c.args.tag.number)) _ EndGroup (g.B.Buf.unread c.args.buf.now) _ c.in-EndGroup.is (end_stays _) refl

pub decode_unknown_field-returns-in_err-take_unknown : goal.decode_unknown_field-returns-in_err-take_unknown
decode_unknown_field-returns-in_err-take_unknown g t c =
    let p = err_from_is_err_and c.from_residual.result c.from_residual.ensures.1 in
    record {
      reads = rw (p.1, p.2) (λ other. field_no_unknown _ _ _ _ _ c.in_default.not-EndGroup c.in_err-take_unknown.ensures.err.0 ∙ ap (λ e. Err e) (sym c.in_err-take_unknown.ensures.which));
      number = search rules;
      memory = ap (λ (b : BudgetLeft). b.memory) c.in_err-take_unknown.ensures.err.1;
      full = rw (p.1, p.2) (λ k. let w = c.in_err-take_unknown.ensures.which in cc);
      spent = none_spent _ _ _ (ap (λ (b : BudgetLeft). b.unknown) c.in_err-take_unknown.ensures.err.1);
      end = λ k. c.in_err-take_unknown.ensures.err.1;
      end_stays = λ k. refl {a = g.B.Buf.unread c.args.buf.now};
      level = λ k z. refl {a = g.B.Buf.unread c.args.buf.now};
      no_unknown_stays = λ k. refl {a = g.B.Buf.unread c.args.buf.now};
      left = λ k some. let no : ⊥ = omega (arith, c.in_err-take_unknown.ensures.err.0, some) in absurd no;
      counted = λ k o. omega (arith, c.in_err-take_unknown.ensures.err.0, ap (λ (b : BudgetLeft). b.unknown) c.in_err-take_unknown.ensures.err.1);
      deep_unknown = λ k z. omega (arith, c.in_err-take_unknown.ensures.err.0, ap (λ (b : BudgetLeft). b.unknown) c.in_err-take_unknown.ensures.err.1);
      tail = tail_whole _;
      kept = refl {a = g.B.Buf.beyond c.args.buf.now};
    }

pub decode_unknown_field-returns-in_err-fields : goal.decode_unknown_field-returns-in_err-fields
decode_unknown_field-returns-in_err-fields g t c =
    let p = err_from_is_err_and c.from_residual-in_err-fields.result c.from_residual-in_err-fields.ensures.1 in
    record {
      reads = rw (p.1, p.2) (λ other. field_group_err _ _ _ _ _ _ _ c.in-StartGroup.is c.in_ok-take_unknown.ensures.ok.0 (c.in_err-fields.ensures.reads other));
      number = search rules;
      memory = c.in_err-fields.ensures.memory ∙ c.in_ok-take_unknown.ensures.ok.1;
      full = rw (p.1, p.2) (λ k. takes_group _ _ _ _ _ c.in_ok-take_unknown.ensures.ok.0 c.in-StartGroup.is (c.in_err-fields.ensures.full k));
      level = λ k. c.in_err-fields.ensures.level;
      spent = field_spent _ _ _ _ c.in_ok-take_unknown.ensures.ok.0 c.in_err-fields.ensures.spent;
      end = λ k. absurd (c.in_default.not-EndGroup k);
      end_stays = λ k. absurd (c.in_default.not-EndGroup k);
      no_unknown_stays = λ k. absurd (omega (arith, c.in_ok-take_unknown.ensures.ok.0, k));
      left = λ k some. absurd (k c.in-StartGroup.is);
      counted = λ k o. absurd (k c.in-StartGroup.is);
      deep_unknown = λ k z. omega (arith, c.in_ok-take_unknown.ensures.ok.0, ap (λ (b : BudgetLeft). b.unknown) (c.in_err-fields.ensures.deep z));
      tail = c.in_err-fields.ensures.tail;
      kept = c.in_err-fields.ensures.kept;
    }

pub decode_unknown_field-returns-in-StartGroup : goal.decode_unknown_field-returns-in-StartGroup
decode_unknown_field-returns-in-StartGroup g t c = record {
  reads = field_group_ok _ _ _ _ _ _ _ c.in-StartGroup.is c.in_ok-take_unknown.ensures.ok.0 c.in_ok-fields.ensures.reads;
  number = refl;
  memory = c.in_ok-fields.ensures.memory ∙ c.in_ok-take_unknown.ensures.ok.1;
  full = tt;
  level = λ k. c.in_ok-fields.ensures.level;
  spent = field_spent _ _ _ _ c.in_ok-take_unknown.ensures.ok.0 c.in_ok-fields.ensures.spent;
  end = λ k. absurd (c.in_default.not-EndGroup k);
  end_stays = λ k. absurd (c.in_default.not-EndGroup k);
  no_unknown_stays = λ k. absurd (omega (arith, c.in_ok-take_unknown.ensures.ok.0, k));
  left = λ k some. absurd (k c.in-StartGroup.is);
  counted = λ k o. absurd (k c.in-StartGroup.is);
  deep_unknown = λ k z. omega (arith, c.in_ok-take_unknown.ensures.ok.0, ap (λ (b : BudgetLeft). b.unknown) (c.in_ok-fields.ensures.deep z));
  tail = c.in_ok-fields.ensures.tail;
  kept = c.in_ok-fields.ensures.kept;
}

pub decode_unknown_field-returns-in_err-payload : goal.decode_unknown_field-returns-in_err-payload
decode_unknown_field-returns-in_err-payload g t c =
    let p = err_from_is_err_and c.from_residual-in_err-payload.result c.from_residual-in_err-payload.ensures.1 in
    record {
      reads = rw (p.1, p.2) (λ other. field_plain_err _ _ _ _ _ _ _ c.in_default.not-EndGroup c.in_default-wire_type.not-StartGroup c.in_ok-take_unknown.ensures.ok.0 (c.in_err-payload.ensures.reads other));
      number = search rules;
      memory = c.in_ok-take_unknown.ensures.ok.1;
      full = rw (p.1, p.2) (λ k. takes_plain _ _ _ _ _ c.in_ok-take_unknown.ensures.ok.0 c.in_default-wire_type.not-StartGroup (c.in_err-payload.ensures.full k));
      level = λ k. absurd (c.in_default-wire_type.not-StartGroup k);
      spent = one_spent _ _ _ c.in_ok-take_unknown.ensures.ok.0;
      end = λ k. absurd (c.in_default.not-EndGroup k);
      end_stays = λ k. absurd (c.in_default.not-EndGroup k);
      no_unknown_stays = λ k. absurd (omega (arith, c.in_ok-take_unknown.ensures.ok.0, k));
      left = λ k some. rw (p.1, p.2) c.in_err-payload.ensures.left;
      counted = λ k o. omega (arith, c.in_ok-take_unknown.ensures.ok.0);
      deep_unknown = λ k z. omega (arith, c.in_ok-take_unknown.ensures.ok.0);
      tail = c.in_err-payload.ensures.tail;
      kept = c.in_err-payload.ensures.kept;
    }

pub decode_unknown_field-returns : goal.decode_unknown_field-returns
decode_unknown_field-returns g t c = record {
  reads = field_plain_ok _ _ _ _ _ _ _ c.in_default.not-EndGroup c.in_default-wire_type.not-StartGroup c.in_ok-take_unknown.ensures.ok.0 c.in_ok-payload.ensures.reads;
  number = refl;
  memory = c.in_ok-take_unknown.ensures.ok.1;
  full = tt;
  level = λ k. absurd (c.in_default-wire_type.not-StartGroup k);
  spent = one_spent _ _ _ c.in_ok-take_unknown.ensures.ok.0;
  end = λ k. absurd (c.in_default.not-EndGroup k);
  end_stays = λ k. absurd (c.in_default.not-EndGroup k);
  no_unknown_stays = λ k. absurd (omega (arith, c.in_ok-take_unknown.ensures.ok.0, k));
  left = λ k some. tt;
  counted = λ k o. omega (arith, c.in_ok-take_unknown.ensures.ok.0);
  deep_unknown = λ k z. omega (arith, c.in_ok-take_unknown.ensures.ok.0);
  tail = c.in_ok-payload.ensures.tail;
  kept = c.in_ok-payload.ensures.kept;
}
