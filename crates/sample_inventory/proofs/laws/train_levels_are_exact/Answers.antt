use Rattle.sample_inventory.proofs.laws.train_levels_are_exact.Goals as goal

pub returns : goal.returns
returns c = let w = c.wagon_levels_are_exact.ensures in c.levels_of_fields_are_exact.ensures (w, (w, tt))
