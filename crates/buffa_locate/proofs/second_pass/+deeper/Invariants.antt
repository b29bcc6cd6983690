use Rattle.std.proofs.Common.{◌+◌, ◌*◌}
use Rattle.buffa_locate.proofs.second_pass.+deeper.Given as goal

-- each message inside is one level down
abbrev pub decreases-follow : goal.decreases-follow
decreases-follow g l = 2 * l.search.depth + 1

abbrev pub decreases-look_into : goal.decreases-look_into
decreases-look_into g l = 2 * l.search.depth
