use Rattle.std.proofs.Common.{rules}
use Rattle.std.specs.Borrow.{Bor}
use Rattle.std.specs.Cmp.Lexicographic.{slice_cmp}
use Rattle.std.specs.Ordering.{is_lt, nat_cmp}
use Rattle.std.specs.Prelude.{ℕ, List}
use Rattle.std.proofs.lemmas.Fn.{always_returns_same}
use Rattle.tool_run.proofs.NameSets.{lent_rise}
use Rattle.tool_run.proofs.name_lines.rise.Goals as goal

pub returns : goal.returns
returns c =
    lent_rise c.args.names.now c.is_sorted_by.result
    (c.is_sorted_by.ensures.cases (λ (x y : Bor (List ℕ)). is_lt (slice_cmp nat_cmp x.now y.now)) (always_returns_same _ _ _ (λ a r f k. (search rules, search rules))))
