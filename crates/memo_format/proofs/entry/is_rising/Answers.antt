use Rattle.std.proofs.Common.{rules}
use Rattle.std.proofs.lemmas.Fn.{always_returns_same}
use Rattle.prints.proofs.Rising.{neighbours_rise}
use Rattle.memo_format.specs.Entries.{output_before}
use Rattle.memo_format.proofs.entry.is_rising.Goals as goal

pub returns : goal.returns
returns c = neighbours_rise output_before c.args.outputs.now c.is_sorted_by.result (c.is_sorted_by.ensures.cases output_before (always_returns_same _ _ _ (λ a r f k. (search rules, search rules))))
