use Rattle.bx_tree.specs.Below.{is_below}
use Rattle.bx_tree_paths.specs.Spans.{StartsBelow}
use Rattle.bx_tree_paths.proofs.Spans.{filter_span, only_span, starts}
use Rattle.bx_tree_paths.proofs.below.items_from.Goals as goal

pub returns-clause-all : goal.returns-clause-all
returns-clause-all g c =
    let path = g.T.HasPath.path_in in
    let dir = c.args.dir.now in
    filter_span (λ x. StartsBelow dir (path x)) (λ x. is_below (path x) dir) c.args.items.now c.span_below-span.result.from c.span_below-span.result.to
    (λ x e. starts dir (path x) e) c.span_below-span.ensures.span

pub returns-clause-only : goal.returns-clause-only
returns-clause-only g c =
    only_span (λ x. StartsBelow c.args.dir.now (g.T.HasPath.path_in x)) c.args.items.now c.span_below-span.result.from c.span_below-span.result.to
    c.span_below-span.ensures.span
