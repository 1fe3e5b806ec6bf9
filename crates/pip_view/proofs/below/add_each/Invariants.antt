use Rattle.std.proofs.Common.{◌≡◌, ◌++◌, take}
use Rattle.bx_tree.specs.Lent.{texts_now}
use Rattle.pip_view.specs.NamesBelow.{names_within}
use Rattle.pip_view.proofs.below.add_each.Given as goal

abbrev pub invariant-items : goal.invariant-items
invariant-items g l =
    texts_now l.names.items ≡ texts_now l.initial.names.items ++ names_within g.T.HasPath.path_in l.top l.dir (take l.item-index l.items)
