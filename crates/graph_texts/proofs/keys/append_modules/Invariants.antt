use Rattle.std.proofs.Common.{◌≡◌, ◌++◌, take}
use Rattle.std.specs.List.{AllByRecursion, flat_map}
use Rattle.dscript_program.specs.Workspaces.{modules_data}
use Rattle.graph_texts.specs.Keys.{IsModule, module_lines}
use Rattle.graph_texts.proofs.keys.append_modules.Given as goal

abbrev pub invariant-modules : goal.invariant-modules
invariant-modules l = record {
  text : l.text.items ≡ l.fn.text.items ++ flat_map (module_lines l.tree) (modules_data (take l.owner-index l.modules));
  modules : AllByRecursion IsModule (modules_data (take l.owner-index l.modules));
}
