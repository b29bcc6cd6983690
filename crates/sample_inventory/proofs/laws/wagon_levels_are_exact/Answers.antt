use Rattle.sample_inventory.proofs.laws.wagon_levels_are_exact.Goals as goal

pub returns : goal.returns
returns c = let l = c.load_levels_are_exact.ensures in c.levels_of_fields_are_exact.ensures (l, (l, (l, (l, (l, (l, (tt, (tt, (tt, (tt, (tt, (tt, (tt, tt)))))))))))))
