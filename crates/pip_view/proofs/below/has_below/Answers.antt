use Rattle.std.proofs.Common.{◌∙◌}
use Rattle.pip_view.proofs.NamesWithin.{any_by_filter}
use Rattle.pip_view.proofs.below.has_below.Goals as goal

pub returns : goal.returns
returns g c = c.any_below.ensures ∙ any_by_filter g.T.HasPath.path_in c.args.dir.now c.items_below.result.now c.args.items.now c.items_below.ensures.all
