use Rattle.std.proofs.Common.{◌≡◌, ◌++◌, List, ℕ, OnOk, ap, subst}
use Rattle.std.specs.List.{filter_map}
use Rattle.bx_tree.specs.Below.{next_atom}
use Rattle.bx_tree.specs.Lent.{texts_now}
use Rattle.pip_view.proofs.below.add_within.Goals as goal

pub returns : goal.returns
returns g c =
    subst (λ (ns : List (List ℕ)). OnOk c.add_each.result (texts_now c.add_each.new.names.items ≡ texts_now c.args.names.now.items ++ ns))
    (ap (filter_map (λ x. next_atom c.args.top.now (g.T.HasPath.path_in x))) c.items_below.ensures.all) c.add_each.ensures
