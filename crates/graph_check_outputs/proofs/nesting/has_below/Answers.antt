use Rattle.std.proofs.Common.{sym}
use Rattle.bx_tree.specs.Paths.{IsBelow}
use Rattle.graph_check_outputs.proofs.InOrder.{any_same}
use Rattle.graph_check_outputs.proofs.nesting.has_below.Goals as goal

pub returns : goal.returns
returns c =
    let dir = c.args.dir.now in
    let range = c.items_below.result.now in
    let paths = c.args.paths.now in (
      λ t. any_same (λ p. IsBelow p dir) dir range paths (λ p h. h) c.items_below.ensures.all (c.any_below.ensures.0 t),
      λ any. c.any_below.ensures.1 (any_same (λ p. IsBelow p dir) dir paths range (λ p h. h) (sym c.items_below.ensures.all) any),
    )
