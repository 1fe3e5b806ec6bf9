use Rattle.std.proofs.Common.{◌+◌, ◌*◌}
use Rattle.dscript_parse.proofs.decls.+decls.Given as goal

abbrev pub decreases-marked : goal.decreases-marked
decreases-marked l = 8 * l.depth.levels + 0

abbrev pub decreases-declared : goal.decreases-declared
decreases-declared l = 8 * l.depth.levels + 7

abbrev pub decreases-declaration : goal.decreases-declaration
decreases-declaration l = 8 * l.depth.levels + 6

abbrev pub decreases-namespace : goal.decreases-namespace
decreases-namespace l = 8 * l.depth.levels + 5

abbrev pub decreases-declarations : goal.decreases-declarations
decreases-declarations l = 8 * l.depth.levels + 4
