use Rattle.std.proofs.Common.{◌≡◌, ap, arith, length, sym, ◌∙◌}
use Rattle.bx_tree.proofs.Lists.{none_left}
use Rattle.dscript_types_known.specs.Tables.{closed, open_count}
use Rattle.dscript_types_known.specs.Views.{table_data}
use Rattle.dscript_types_known.proofs.Counted.{none_is_open}
use Rattle.dscript_types_known.proofs.Filled.{closed_ends}
use Rattle.dscript_types_known.proofs.table.Table.close.Goals as goal

pub invariant_of-result : goal.invariant_of-result
invariant_of-result c =
    let rest = c.closed.entries-iterator.rest in
    let none : length rest.items ≡ 0 = omega (arith, c.in-None.ensures.steps.0, rest.ok.0) in
    let from : c.into_iter-entries-iterator.result.rest.items ≡ c.self.inside.files.items =
    c.into_iter-entries-iterator.ensures.into_iter_gives.0 in
    let e : table_data c.closed.files.items ≡ closed c.args.self =
    closed_ends c.closed.files.items rest.items _ c.args.self (none_left rest.items none) c.closed.invariant
    (ap table_data from ∙ c.self.view_is) in
    sym (ap open_count e ∙ none_is_open c.args.self)
