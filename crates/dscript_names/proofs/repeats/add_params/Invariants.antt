use Rattle.std.proofs.Common.{◌≡◌, ◌++◌, map, take}
use Rattle.dscript_ast.specs.Views.{param_tree}
use Rattle.dscript_names_scopes.specs.Duplicates.{param_names}
use Rattle.dscript_names.specs.Singles.{single}
use Rattle.dscript_names.proofs.repeats.add_params.Given as goal

abbrev pub invariant-params : goal.invariant-params
invariant-params l =
    l.names.items ≡ l.initial.names.items ++ map single (param_names (map param_tree (take l.param-index l.params)))
