use Rattle.std.proofs.Common.{List, subst, sym}
use Rattle.std.specs.List.Sorted.{IsStrictlySortedBy}
use Rattle.bx_tree.specs.Paths.{Atoms, IsBelow, path_cmp}
use Rattle.bx_tree.specs.Ranges.{AreFilePaths}
use Rattle.bx_tree_paths.specs.Spans.{IsSpanOf}
use Rattle.bx_tree_paths.proofs.Rising.{paths_rise}
use Rattle.bx_tree_paths.proofs.Spans.{below_span}
use Rattle.bx_tree_paths.proofs.sorted_paths.SortedPaths.below.Goals as goal

pub span_below-requires : goal.span_below-requires
span_below-requires g c = paths_rise c.paths.result.now (subst (IsStrictlySortedBy path_cmp) (sym c.paths.ensures.paths) c.paths.ensures.sorted.rising)

pub returns-clause-below : goal.returns-clause-below
returns-clause-below g c =
    let dir = c.args.dir.now in
    let from = c.span_below.result.from in
    let to = c.span_below.result.to in
    subst (λ (ps : List Atoms). IsSpanOf (λ path. IsBelow path dir) ps from to) c.paths.ensures.paths
    (below_span dir c.paths.result.now from to c.text.ensures.is_path (subst AreFilePaths (sym c.paths.ensures.paths) c.paths.ensures.sorted) c.span_below.ensures.span)
