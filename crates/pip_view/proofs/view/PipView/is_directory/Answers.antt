use Rattle.std.proofs.Common.{◌==◌, ap, length, not, sym, ◌∙◌}
use Rattle.bx_tree.specs.Paths.{Atoms, is_root}
use Rattle.bx_tree.specs.Trees.{paths_of}
use Rattle.pip_view.specs.Seen.{ViewData}
use Rattle.pip_view.proofs.NamesWithin.{any_by_length}
use Rattle.pip_view.proofs.Seeing.{directory_is}
use Rattle.pip_view.proofs.view.PipView.is_directory.Goals as goal

pub returns : goal.returns
returns c =
    let paths = paths_of c.self.inside.sources.now in
    ap not (c.is_empty.ensures ∙ ap (λ ps. length ps == 0) c.paths_below.ensures)
    ∙ any_by_length (λ (p : Atoms). p) c.args.path.now paths
    ∙ directory_is c.args.below (is_root c.args.path.now) c.args.path.now c.args.self.now.tree paths c.if-below.false
    (sym c.is_root.ensures.value ∙ c.if-is_root.false) (ap (λ (v : ViewData). paths_of v.tree) c.self.view_is)
