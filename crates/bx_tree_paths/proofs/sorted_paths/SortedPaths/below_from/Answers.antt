use Rattle.std.proofs.Common.{List, ap, ◌∙◌}
use Rattle.std.specs.Prelude.{slice_range}
use Rattle.bx_tree.specs.Below.{is_below}
use Rattle.bx_tree.specs.Paths.{Atoms, IsBelow}
use Rattle.bx_tree.proofs.BelowPaths.{below_decides}
use Rattle.bx_tree_paths.proofs.Spans.{exact_span}
use Rattle.bx_tree_paths.proofs.sorted_paths.SortedPaths.below_from.Goals as goal

pub returns : goal.returns
returns g c =
    let dir = c.args.dir.now in
    let from = c.below-span.result.from in
    let to = c.below-span.result.to in
    ap (λ (ps : List Atoms). slice_range ps from to) c.paths.ensures.paths
    ∙ exact_span (λ path. IsBelow path dir) (λ p. is_below p dir) c.args.self.now from to
    (λ x e. (below_decides x dir).0 e) (λ x h. (below_decides x dir).1 h) c.below-span.ensures.below
