use Rattle.std.proofs.Common.{sym, subst}
use Rattle.std.specs.List.{IsDistinct}
use Rattle.bx_tree.specs.Paths.{same_path}
use Rattle.tests_paths.proofs.Apart.{five_apart}
use Rattle.tests_paths.proofs.tests.five_paths.Goals as goal

pub of-requires-clause-distinct : goal.of-requires-clause-distinct
of-requires-clause-distinct c =
    subst (IsDistinct same_path) (sym c.in_ok-vec.ensures.items)
    (five_apart c.in_ok-b.b c.in_ok-a_c.a_c c.in_ok-a_dash_b.a_dash_b c.in_ok-a.a c.in_ok-a_b.a_b c.in_ok-b.ensures c.in_ok-a_c.ensures
    c.in_ok-a_dash_b.ensures c.in_ok-a.ensures c.in_ok-a_b.ensures)
