use Rattle.std.proofs.Common.{sym}
use Rattle.bx_tree.specs.TextTables.{at_text}
use Rattle.tool_faults.proofs.FirstPlaces.{added_absent, label_kept, some_there}
use Rattle.tool_faults.proofs.first_places.add_absent.Goals as goal

pub returns-in-Some : goal.returns-in-Some
returns-in-Some c = λ q.
    label_kept c.args.label.now c.args.place (at_text c.args.by_label.now) q (some_there (at_text c.args.by_label.now c.args.label.now) _ c.in-Some.ensures.value)

pub returns-in-None : goal.returns-in-None
returns-in-None c =
    added_absent c.add_label.result c.args.label.now c.args.place (at_text c.args.by_label.now) (at_text c.add_label.new.by_label) (sym c.in-None.ensures.value)
    c.add_label.ensures
