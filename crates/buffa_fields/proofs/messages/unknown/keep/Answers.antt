use Rattle.std.proofs.Common.{◌≡◌, ◌∙◌, ◌++◌, ◌∷◌, [], Result, Ok, Err, ap, refl, sym}
use Rattle.std.specs.Result.{MatchResult}
use Rattle.buffa_bytes.specs.declared.error.DecodeError.{DecodeError}
use Rattle.std.proofs.lemmas.Result.{err_from_is_err_and}
use Rattle.buffa_bytes.proofs.SequenceLemmas.{err_same}
use Rattle.buffa_wire.specs.RecordsOfValues.{field_data_of}
use Rattle.buffa_fields.specs.Schema.{IsFieldKept}
use Rattle.buffa_fields.specs.facts.UndeclaredFieldFacts.{keep_asks, keep_asks_put, keep_err_as, keep_full, keep_ok, keep_refused, takes_no_end}
use Rattle.buffa_fields.proofs.messages.unknown.keep.Goals as goal

still : {A : Type 0} (r : Result (Unit {0}) DecodeError) (a : A) → MatchResult r (λ _. Unit {0}) (λ _. a ≡ a)
still (Ok x) a = tt
still (Err e) a = refl

pub returns-in_err-field : goal.returns-in_err-field
unfolding IsFieldKept
returns-in_err-field c = (
  let p = err_from_is_err_and c.from_residual.result c.from_residual.ensures.1 in
      keep_err_as c.args.ctx.depth c.unknown_left.result c.args.tag.number c.args.tag.wire_type c.args.buf.now.now c.args.fields.now.records c.args.ctx.budget.now c.unknown_left.ensures
      c.from_residual.result _ _ p.1 p.2 c.read_alone.new.buf.now c.in_err-field.ensures.reads
      (λ full. takes_no_end c.args.ctx.depth c.unknown_left.result c.args.tag.wire_type c.args.buf.now.now (c.in_err-field.ensures.full full)),
  still c.from_residual.result c.args.fields.now.records,
  let p = err_from_is_err_and c.from_residual.result c.from_residual.ensures.1 in
      keep_asks c.args.ctx.depth c.unknown_left.result c.args.tag.number c.args.tag.wire_type c.args.buf.now.now c.args.fields.now.records c.args.ctx.budget.now c.unknown_left.ensures c.from_residual.result _ _ p.1 p.2 c.in_err-field.ensures.full,
  still c.from_residual.result c.args.ctx.budget.now,
  let p = err_from_is_err_and c.from_residual.result c.from_residual.ensures.1 in
      keep_refused c.args.ctx.depth c.unknown_left.result c.args.tag.number c.args.tag.wire_type c.args.buf.now.now c.args.fields.now.records c.args.ctx.budget.now c.unknown_left.ensures c.from_residual.result _ _ p.1 p.2 c.read_alone.new.buf.now
      c.in_err-field.ensures.reads c.in_err-field.ensures.no_unknown_stays c.in_err-field.ensures.level c.in_err-field.ensures.left,
)

pub returns-in_err-push : goal.returns-in_err-push
unfolding IsFieldKept
returns-in_err-push c =
    let p = err_from_is_err_and c.from_residual-in_err-push.result c.from_residual-in_err-push.ensures.1 in
    rw (p.1, p.2) (
      keep_full c.args.ctx.depth c.unknown_left.result c.args.tag.number c.args.tag.wire_type c.args.buf.now.now c.args.fields.now.records c.args.ctx.budget.now c.unknown_left.ensures
          (field_data_of c.in_ok-field.field.payload) c.in_ok-field.left c.read_alone.new.buf.now c.read_alone.new.buf.now c.in_ok-field.ensures.reads,
      (let e = c.in_err-push.ensures.err in cc),
      λ full. keep_asks_put c.args.ctx.depth c.unknown_left.result c.args.tag.number c.args.tag.wire_type c.args.buf.now.now c.args.fields.now.records c.args.ctx.budget.now c.unknown_left.ensures (field_data_of c.in_ok-field.field.payload, c.in_ok-field.left, c.read_alone.new.buf.now) c.in_ok-field.ensures.reads,
      refl,
      λ e is ne. absurd (ne (sym (err_same is))),
    )

pub returns : goal.returns
unfolding IsFieldKept
returns c =
    let is = c.in_ok-push.ensures.ok ∙ ap (λ z. c.args.fields.now.records ++ (z, field_data_of c.in_ok-field.field.payload) ∷ []) c.in_ok-field.ensures.number in (
      keep_ok c.args.ctx.depth c.unknown_left.result c.args.tag.number c.args.tag.wire_type c.args.buf.now.now c.args.fields.now.records c.args.ctx.budget.now c.unknown_left.ensures
          (field_data_of c.in_ok-field.field.payload) c.in_ok-field.left c.push.new.self.records _ c.read_alone.new.buf.now c.in_ok-field.ensures.reads is
          (ap (λ z. z.unknown) c.with_element_memory.ensures ∙ c.new.ensures.unknown) (ap (λ z. z.memory) c.with_element_memory.ensures ∙ c.memory_left.ensures),
      tt,
      tt,
      tt,
      λ e is ne. let other = is in cc,
    )
