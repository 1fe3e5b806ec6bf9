use Rattle.std.proofs.Common.{List, ℕ, ap, subst, sym, ◌∙◌}
use Rattle.bx_tree.specs.Paths.{Atoms}
use Rattle.dscript_names_workspace.specs.Paths.{AreWithin, paths_at}
use Rattle.dscript_names_workspace.specs.ConfigViews.{ArePlaces}
use Rattle.dscript_names_workspace.proofs.ListedFiles.{places_at}
use Rattle.dscript_names_workspace.proofs.Positions.{paths_at-append, within-append}
use Rattle.dscript_names_workspace.proofs.gathering.gathered.Goals as goal

pub in_order-requires : goal.in_order-requires
in_order-requires c =
    subst (AreWithin c.args.tree.now) (sym c.in_ok-extend_from_slice.ensures.items)
    (within-append c.args.tree.now c.args.positions.items c.args.more.now c.requires.positions c.requires.more)

pub returns-then-len-files : goal.returns-then-len-files
returns-then-len-files c =
    let files = c.args.tree.now in
    subst (λ (paths : List Atoms). ArePlaces files paths c.in_order.result.items)
    (ap (paths_at files) c.in_ok-extend_from_slice.ensures.items ∙ paths_at-append files c.args.positions.items c.args.more.now)
    c.in_order.ensures.places

pub returns-else-len-files : goal.returns-else-len-files
returns-else-len-files c =
    let files = c.args.tree.now in
    let ps = c.args.positions.items in
    let qs = c.args.more.now in
    subst (λ (paths : List Atoms). ArePlaces files paths c.extend_from_slice.new.self.items)
    (ap (paths_at files) c.in_ok-extend_from_slice.ensures.items ∙ paths_at-append files ps qs)
    (places_at files c.extend_from_slice.new.self.items
    (subst (AreWithin files) (sym c.in_ok-extend_from_slice.ensures.items)
    (within-append files ps qs c.requires.positions c.requires.more)))
