use Rattle.std.proofs.Common.{◌≡◌, ◌++◌, List, ℕ, OnOk, ap, subst, ◌∙◌}
use Rattle.std.specs.List.{filter_map}
use Rattle.bx_tree.specs.Below.{next_atom}
use Rattle.bx_tree.specs.Lent.{texts_now}
use Rattle.bx_tree.specs.Trees.{paths_of}
use Rattle.pip_view.proofs.NamesWithin.{names_all}
use Rattle.pip_view.proofs.view.add_sources.Goals as goal

pub returns : goal.returns
returns c =
    let dir = c.args.dir.now in
    subst (λ (ns : List (List ℕ)). OnOk c.add_next.result (texts_now c.add_next.new.names.items ≡ texts_now c.args.names.now.items ++ ns))
    (ap (filter_map (next_atom dir)) c.paths_below.ensures ∙ names_all (λ p. p) dir (paths_of c.args.sources.now)) c.add_next.ensures
