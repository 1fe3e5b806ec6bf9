use Rattle.std.proofs.Common.{rules}
use Rattle.std.proofs.lemmas.Fn.{always_returns_same}
use Rattle.prints.proofs.Rising.{neighbours_rise}
use Rattle.prints.specs.ReadWeak.{path_before}
use Rattle.prints.proofs.order.are_paths_rising.Goals as goal

pub returns : goal.returns
returns c = neighbours_rise path_before c.args.paths.now c.is_sorted_by.result (c.is_sorted_by.ensures.cases path_before (always_returns_same _ _ _ (λ a r f k. (search rules, search rules))))
