-- What the definitions come to: proofs that ghosts of `src/` name.
pub mod WrittenAreTakenFacts
pub mod TakenByAnotherFacts
pub mod MapKeyFacts
pub mod LayerFacts
pub mod FixpointFacts
pub mod MemberKindFacts
pub mod OneOfMeaningFacts
pub mod MemberListFacts
pub mod LevelFacts
pub mod MapKindFacts
pub mod MemberPassFacts
pub mod InitializedFacts
