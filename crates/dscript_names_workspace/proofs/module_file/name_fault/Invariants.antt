use Rattle.std.proofs.Common.{◌≡◌, ℕ, Bor, List, [], drop, take}
use Rattle.dscript_program.specs.Workspaces.{modules_data}
use Rattle.dscript_names_workspace.specs.PathSets.{has_name}
use Rattle.dscript_names_workspace.specs.Workspaces.{is_used, repeated_module_name}
use Rattle.dscript_names_workspace.proofs.module_file.name_fault.Given as goal

abbrev pub invariant-modules : goal.invariant-modules
invariant-modules l = record {
  used : (name : Bor (List ℕ)) → has_name l.used name ≡ is_used (modules_data (take l.module-index l.modules)) name.now;
  rest : repeated_module_name (modules_data (take l.module-index l.modules)) (modules_data (drop l.module-index l.modules))
      ≡ repeated_module_name [] (modules_data l.modules);
}
