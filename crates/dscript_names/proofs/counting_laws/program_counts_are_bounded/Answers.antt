use Rattle.std.proofs.Common.{arith}
use Rattle.dscript_names.proofs.Bundled.{program_bundled, world_bundled}
use Rattle.dscript_names.proofs.counting_laws.program_counts_are_bounded.Goals as goal

pub returns : goal.returns
returns c = record { program = program_bundled; names = world_bundled; below = omega arith }
