use Rattle.std.proofs.Common.{◌≡◌, ◌++◌, List, ℕ, OnOk, subst}
use Rattle.bx_tree.specs.Lent.{texts_now}
use Rattle.pip_view.proofs.NamesWithin.{names_all}
use Rattle.pip_view.proofs.below.add_below.Goals as goal

pub returns : goal.returns
returns g c =
    subst (λ (ns : List (List ℕ)). OnOk c.add_within.result (texts_now c.add_within.new.names.items ≡ texts_now c.args.names.now.items ++ ns))
    (names_all g.T.HasPath.path_in c.args.dir.now c.args.items.now) c.add_within.ensures
