-- Words that contracts of a MessageSet cite, under one name.
pub use Rattle.buffa_sets.specs.Set.{AreItems, IsSetRefused, StopsBehind, TakesSetField, set_charge, set_cost, set_encoding, set_levels, set_merged, set_records, set_takes}
pub use Rattle.buffa_sets.specs.SetFacts.{set_back, set_cost_is, set_encoding_records, set_merged_is, set_stays, set_valid}
