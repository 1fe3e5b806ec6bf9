use Rattle.std.proofs.Common.{◌≡◌, map, take}
use Rattle.dscript_program.specs.Workspaces.{modules_data}
use Rattle.dscript_names.proofs.resolving.module_names.Given as goal

abbrev pub invariant-modules : goal.invariant-modules
invariant-modules l = l.names.items ≡ map (λ m. m.name) (modules_data (take l.module-index l.modules))
