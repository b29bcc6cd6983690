-- The words that this crate hands out.
pub mod Costs
pub mod Names
pub mod PackedGrammar
pub mod LeftOpenCodecs
pub mod LeftOpenExtensions
pub mod LeftOpenItems
pub mod MappedReadings
