use Rattle.std.proofs.Common.{ℕ, List, [], Bor, arith}
use Rattle.bx_tree.specs.TextTables.{at_text}
use Rattle.tool_faults.proofs.FirstPlaces.{one_line}
use Rattle.tool_faults.proofs.first_places.first_places.Goals as goal

abbrev no_text : Bor (List ℕ)
no_text = record { ref_ptr = (0, 0); now = [] }

pub lines-preserved : goal.lines-preserved
lines-preserved c =
    one_line c.args.lines.now c.lines.place no_text (at_text c.lines.by_label) (at_text c.add_first.new.by_label) (omega arith) c.lines.invariant c.in_ok-add_first.ensures
