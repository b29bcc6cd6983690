use Rattle.std.proofs.Common.{refl}
use Rattle.conformance_of_members.proofs.members.settings.SettingsPartedSections.parts.Goals as goal

pub map-requires : goal.map-requires
map-requires g c κs = (refl, tt)
