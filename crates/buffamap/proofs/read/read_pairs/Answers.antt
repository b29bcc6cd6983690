use Rattle.std.proofs.Common.{ap, ◌∙◌, ◌≡◌, [], refl, false}
use Rattle.std.specs.Prelude.{nat_eq}
use Rattle.std.specs.Cmp.Lexicographic.{pointwise}
use Rattle.buffa_wire.specs.BudgetLeft.{BudgetLeft, defaults}
use Rattle.buffa_map.specs.Scalars.{int32_reading, text_reading}
use Rattle.buffamap.specs.Lines.{pairs_of}
use Rattle.buffamap.proofs.ReadReplyLemmas.{means}
use Rattle.buffamap.proofs.RunReplyLemmas.{ran, stopped}
use Rattle.buffamap.proofs.read.read_pairs.Goals as goal

pub returns-clause-ok : goal.returns-clause-ok
returns-clause-ok c =
    let left : c.new-ctx.result.budget.now ≡ defaults = (λ i. record { unknown = (ap (λ (b : BudgetLeft). b.unknown) c.new-ctx.ensures.budget ∙ c.new-budget.ensures.unknown) i; memory = (ap (λ (b : BudgetLeft). b.memory) c.new-ctx.ensures.budget ∙ c.new-budget.ensures.memory) i }) in
    means c.read_map_field.result c.args.number c.args.bytes.now (pairs_of c.read_map_field.new.map.entries)
    (ran text_reading int32_reading (pointwise nat_eq) 28 false (λ _ d c. refl) (λ _ d c. refl) refl refl c.read_map_field.result c.new-ctx.result.depth c.args.number c.new-ctx.result.budget.now _ c.args.bytes.now (pairs_of c.args.pairs.now.entries) (pairs_of c.read_map_field.new.map.entries) [] []
    c.new-ctx.ensures.depth left _ (ap pairs_of c.requires) c.read_map_field.ensures.ok)

pub returns-clause-fault : goal.returns-clause-fault
returns-clause-fault c =
    let left : c.new-ctx.result.budget.now ≡ defaults = (λ i. record { unknown = (ap (λ (b : BudgetLeft). b.unknown) c.new-ctx.ensures.budget ∙ c.new-budget.ensures.unknown) i; memory = (ap (λ (b : BudgetLeft). b.memory) c.new-ctx.ensures.budget ∙ c.new-budget.ensures.memory) i }) in
    stopped text_reading int32_reading (pointwise nat_eq) 28 false (λ _ d c. refl) (λ _ d c. refl) refl refl c.read_map_field.result c.new-ctx.result.depth c.args.number c.new-ctx.result.budget.now _ c.args.bytes.now (pairs_of c.args.pairs.now.entries) (pairs_of c.read_map_field.new.map.entries) [] []
    c.new-ctx.ensures.depth left _ c.read_map_field.ensures.err
