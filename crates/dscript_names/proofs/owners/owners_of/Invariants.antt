use Rattle.std.proofs.Common.{◌≡◌, length}
use Rattle.std.specs.Option.{option_or}
use Rattle.std.specs.List.{position_from}
use Rattle.bx_tree.specs.Paths.{Atoms}
use Rattle.dscript_program.specs.Workspaces.{modules_data}
use Rattle.dscript_names.specs.Owners.{has_file, owner_at}
use Rattle.dscript_names.proofs.owners.owners_of.Given as goal

abbrev pub invariant-last : goal.invariant-last
invariant-last l = (q : Atoms) → option_or (position_from (has_file q) 0 (modules_data l.left)) (owner_at l.numbers q)
    ≡ position_from (has_file q) 0 (modules_data l.fn.modules)

abbrev pub decreases-last : goal.decreases-last
decreases-last l = length l.left
