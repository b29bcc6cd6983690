-- The words that this crate hands out: its own, and some of the crates below.
pub mod Extensions
pub mod Items
pub mod Keys
pub mod RecursiveMessages
pub mod MapFields
pub mod Members
pub mod Slots
pub mod Wire
pub use Rattle.sample_node.specs.Branch
pub use Rattle.sample_node.specs.NodeMeaning
pub use Rattle.sample_node.specs.NodeEncoding
pub use Rattle.buffa_sets.specs.Set
