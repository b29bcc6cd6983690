use Rattle.sample_inventory.proofs.laws.load_levels_are_exact.Goals as goal

pub returns : goal.returns
returns c = c.levels_of_fields_are_exact.ensures (tt, (tt, tt))
