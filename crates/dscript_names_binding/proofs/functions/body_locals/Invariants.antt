use Rattle.std.proofs.Common.{◌≡◌, ◌++◌, map}
use Rattle.std.specs.Vec.Iter.{into_iter_items}
use Rattle.dscript_ast.specs.Views.{param_tree}
use Rattle.dscript_names_binding.specs.Walk.{params_from}
use Rattle.dscript_names_binding.proofs.functions.body_locals.Given as goal

abbrev pub invariant-locals : goal.invariant-locals
invariant-locals l =
    (goal.iterator-locals).can_next l.local-iterator
    × (goal.iterator-locals).is_finite l.local-iterator
    × (l.all.items ++ into_iter_items l.local-iterator
    ≡ params_from l.first (map param_tree l.fn.params) ++ l.fn.locals.items)
