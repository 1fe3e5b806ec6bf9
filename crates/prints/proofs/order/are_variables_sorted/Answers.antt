use Rattle.std.proofs.Common.{rules}
use Rattle.std.proofs.lemmas.Fn.{always_returns_same}
use Rattle.prints.proofs.Rising.{neighbours_rise}
use Rattle.prints.specs.ReadWeak.{not_after}
use Rattle.prints.proofs.order.are_variables_sorted.Goals as goal

pub returns : goal.returns
returns c = neighbours_rise not_after c.args.pairs.now c.is_sorted_by.result (c.is_sorted_by.ensures.cases not_after (always_returns_same _ _ _ (λ a r f k. (search rules, search rules))))
