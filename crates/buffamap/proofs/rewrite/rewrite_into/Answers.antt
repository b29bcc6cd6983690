use Rattle.std.proofs.Common.{ap, ◌∙◌, ◌≡◌, false}
use Rattle.std.specs.Prelude.{FitsSigned}
use Rattle.std.specs.Int.{w32}
use Rattle.std.specs.Ordering.{int_eq}
use Rattle.buffa_wire.specs.BudgetLeft.{BudgetLeft, defaults}
use Rattle.buffa_map.proofs.ReaderRules.{keeping}
use Rattle.buffa_map.proofs.RewriteWholeLemmas.{all_written, why_not}
use Rattle.buffa_map.specs.Enums.{ClosedFits, closed_writing}
use Rattle.buffa_map.specs.Scalars.{int32_reading, int32_writing}
use Rattle.buffamap.specs.Choice.{two_numbers}
use Rattle.buffamap.specs.Rewrite.{choice_reading, choices_of}
use Rattle.buffamap.proofs.RewriteReplyLemmas.{refused, rewritten}
use Rattle.buffamap.proofs.rewrite.rewrite_into.Goals as goal

pub returns-clause-run : goal.returns-clause-run
returns-clause-run c =
    let left : c.new-ctx.result.budget.now ≡ defaults = (λ i. record { unknown = (ap (λ (b : BudgetLeft). b.unknown) c.new-ctx.ensures.budget ∙ c.new-budget.ensures.unknown) i; memory = (ap (λ (b : BudgetLeft). b.memory) c.new-ctx.ensures.budget ∙ c.new-budget.ensures.memory) i }) in
    rewritten c.new-ctx.result.depth c.args.number c.new-ctx.result.budget.now _ c.args.bytes.now _ c.args.run.now.items _ _ _ (choices_of c.rewrite_map_field-rewritten.new.map.entries) c.rewrite_map_field-rewritten.new.map.entries
    c.new-ctx.ensures.depth left c.requires.empty c.len.ensures.ordered c.rewrite_map_field-rewritten.result (all_written (keeping int32_reading choice_reading int_eq false c.new-ctx.result.depth c.args.number 8) int32_writing closed_writing (FitsSigned w32) (ClosedFits two_numbers) (λ l. l ≡ choices_of c.rewrite_map_field-rewritten.new.map.entries)
    c.new-ctx.result.budget.now _ c.args.bytes.now _ (choices_of c.rewrite_map_field-rewritten.new.map.entries) c.args.run.now.items _ _ _ (λ l walk never. cc) c.rewrite_map_field-rewritten.result c.rewrite_map_field-rewritten.ensures.read c.rewrite_map_field-rewritten.ensures.written c.rewrite_map_field-rewritten.ensures.short c.rewrite_map_field-rewritten.ensures.fits c.rewrite_map_field-rewritten.ensures.room)

pub returns-clause-refused : goal.returns-clause-refused
returns-clause-refused c =
    let left : c.new-ctx.result.budget.now ≡ defaults = (λ i. record { unknown = (ap (λ (b : BudgetLeft). b.unknown) c.new-ctx.ensures.budget ∙ c.new-budget.ensures.unknown) i; memory = (ap (λ (b : BudgetLeft). b.memory) c.new-ctx.ensures.budget ∙ c.new-budget.ensures.memory) i }) in
    refused c.new-ctx.result.depth c.args.number c.new-ctx.result.budget.now _ c.args.bytes.now _ c.args.run.now.items _ _ 0 (choices_of c.rewrite_map_field-rewritten.new.map.entries) c.rewrite_map_field-rewritten.new.map.entries
    c.new-ctx.ensures.depth left c.requires.empty c.len.ensures.ordered c.rewrite_map_field-rewritten.result (why_not (keeping int32_reading choice_reading int_eq false c.new-ctx.result.depth c.args.number 8) int32_writing closed_writing (FitsSigned w32) (ClosedFits two_numbers) (λ l. l ≡ choices_of c.rewrite_map_field-rewritten.new.map.entries)
    c.new-ctx.result.budget.now _ c.args.bytes.now _ (choices_of c.rewrite_map_field-rewritten.new.map.entries) c.args.run.now.items _ _ 0 (λ l walk never. cc) c.rewrite_map_field-rewritten.result c.rewrite_map_field-rewritten.ensures.read c.rewrite_map_field-rewritten.ensures.fault c.rewrite_map_field-rewritten.ensures.unwritten c.rewrite_map_field-rewritten.ensures.stopped c.rewrite_map_field-rewritten.ensures.full)
