use Rattle.std.proofs.Common.{◌∙◌, ap, Err, Some, subst, sym}
use Rattle.std.proofs.lemmas.Result.{err_from_is_err_and}
use Rattle.std.specs.Option.{option_map}
use Rattle.buffa_bytes.specs.declared.wire_type.WireType.TheVariants.{LengthDelimited}
use Rattle.buffa_bytes.specs.Readings.{FullOnlyIf}
use Rattle.buffa_fields.proofs.InsideLemmas.{none_refused, stood_refused, there}
use Rattle.buffa_fields.proofs.SubmessageLemmas.{message_there}
use Rattle.buffa_fields.specs.Submessages.{MessageTakesMemory, message_merged, or_blank}
use Rattle.buffa_fields.specs.RepeatedMessages.{messages_cost}
use Rattle.buffa_fields.specs.Refusals.{ChargedMessageFault, IsDelimited}
use Rattle.buffa_recursive.specs.Fixpoint.{semantics}
use Rattle.buffa_recursive.proofs.takes.put_message.Goals as goal

-- ---- into the message inside, or into a default one
pub returns-in-Some-clause-taken : goal.returns-in-Some-clause-taken
returns-in-Some-clause-taken g c =
    let w = semantics g.M.RecursiveType.COST g.M.RecursiveType.schema g.M.RecursiveType.sound in
    let was = ap (option_map (λ b. b.value)) c.in-Some.is in
    let k = c.take_message in
    there w.blank (message_merged w.merged) (messages_cost g.M.RecursiveType.COST w.cost) c.args.depth c.args.tag.number c.args.tag.wire_type (option_map (λ b. b.value) c.args.one.now) c.deref_mut.result.now k.new.child c.args.buf.now.now k.new.buf.now
    c.args.budget.now _ k.result (c.deref_mut.ensures.value ∙ sym (ap (or_blank w.blank) was)) k.ensures.taken

pub returns-in_err-take_message-in-None-clause-taken : goal.returns-in_err-take_message-in-None-clause-taken
returns-in_err-take_message-in-None-clause-taken g c =
    let w = semantics g.M.RecursiveType.COST g.M.RecursiveType.schema g.M.RecursiveType.sound in
    let was = ap (option_map (λ b. b.value)) c.in-None.is in
    let k = c.take_message-in-None in
    let p = err_from_is_err_and c.from_residual.result c.from_residual.ensures.1 in
    rw (p.1, p.2) (there w.blank (message_merged w.merged) (messages_cost g.M.RecursiveType.COST w.cost) c.args.depth c.args.tag.number c.args.tag.wire_type (option_map (λ b. b.value) c.args.one.now) c.blank-child.result k.new.child c.args.buf.now.now k.new.buf.now
    c.args.budget.now _ (Err c.in_err-take_message-in-None.field-0.0) (c.blank-child.ensures ∙ sym (ap (or_blank w.blank) was)) c.in_err-take_message-in-None.ensures.taken)

pub returns-in_err-new-in-None-clause-full : goal.returns-in_err-new-in-None-clause-full
returns-in_err-new-in-None-clause-full g c =
    let w = semantics g.M.RecursiveType.COST g.M.RecursiveType.schema g.M.RecursiveType.sound in
    let p = err_from_is_err_and c.from_residual-in_err-new-in-None.result c.from_residual-in_err-new-in-None.ensures.1 in
    rw (p.1, p.2) (λ full.
    let k = c.in_ok-take_message-in-None.ensures.taken in
    message_there w.merged c.args.depth c.blank-child.result c.take_message-in-None.new.child c.args.tag.number c.args.tag.wire_type c.args.buf.now.now k.0 c.take_message-in-None.new.buf.now k.1 k.2 k.3)

-- ---- where they are refused
pub returns-in-Some-clause-refused : goal.returns-in-Some-clause-refused
returns-in-Some-clause-refused g c =
    let w = semantics g.M.RecursiveType.COST g.M.RecursiveType.schema g.M.RecursiveType.sound in
    let k = c.take_message in
    let was = ap (option_map (λ b. b.value)) c.in-Some.is ∙ ap (λ t. Some t) (sym c.deref_mut.ensures.value) in
    λ e bad. (
      stood_refused w.blank LengthDelimited IsDelimited (λ d x n bs left e. ChargedMessageFault g.M.RecursiveType.COST w.merged w.cost d x bs left e) c.args.depth c.args.tag.number c.args.tag.wire_type c.args.buf.now.now c.args.budget.now
          (option_map (λ b. b.value) c.args.one.now) c.deref_mut.result.now k.new.child was e (k.ensures.refused e bad) (k.ensures.fault e bad),
      λ full there. (subst (λ r. FullOnlyIf r (MessageTakesMemory c.args.depth c.args.tag.number c.args.tag.wire_type c.args.buf.now.now)) bad k.ensures.full) full,
    )

pub returns-in_err-take_message-in-None-clause-refused : goal.returns-in_err-take_message-in-None-clause-refused
returns-in_err-take_message-in-None-clause-refused g c =
    let w = semantics g.M.RecursiveType.COST g.M.RecursiveType.schema g.M.RecursiveType.sound in
    let k = c.take_message-in-None in
    let was = ap (option_map (λ b. b.value)) c.in-None.is in
    let p = err_from_is_err_and c.from_residual.result c.from_residual.ensures.1 in
    rw (p.1, p.2) (λ e bad. (
      none_refused w.blank LengthDelimited IsDelimited (λ d x n bs left e. ChargedMessageFault g.M.RecursiveType.COST w.merged w.cost d x bs left e) c.args.depth c.args.tag.number c.args.tag.wire_type c.args.buf.now.now c.args.budget.now
          (option_map (λ b. b.value) c.args.one.now) c.blank-child.result k.new.child was c.blank-child.ensures e (c.in_err-take_message-in-None.ensures.fault e bad),
      λ full there. absurd {A = MessageTakesMemory c.args.depth c.args.tag.number c.args.tag.wire_type c.args.buf.now.now} (there was),
    ))
