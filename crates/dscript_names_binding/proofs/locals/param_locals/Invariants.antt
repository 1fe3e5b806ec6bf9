use Rattle.std.proofs.Common.{◌≡◌, ◌++◌, map, length}
use Rattle.dscript_ast.specs.Views.{param_tree}
use Rattle.dscript_names_binding.specs.Walk.{params_from}
use Rattle.dscript_names_binding.proofs.locals.param_locals.Given as goal

abbrev pub invariant-params : goal.invariant-params
invariant-params l =
    l.locals.items ++ params_from l.number (map param_tree l.left)
    ≡ params_from l.first (map param_tree l.fn.params)

abbrev pub decreases-params : goal.decreases-params
decreases-params l = length l.left
