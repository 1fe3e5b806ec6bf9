use Rattle.std.proofs.Common.{Some, ap, cond, ◌∙◌}
use Rattle.std.specs.Str.{bytes_eq}
use Rattle.bx_tree.specs.TextTables.{at_text}
use Rattle.bx_tree.proofs.TextTables.{text_put}
use Rattle.tool_faults.proofs.first_places.add_label.Goals as goal

pub returns : goal.returns
returns c = λ x.
    text_put c.in_ok-key.key.items c.args.by_label.now c.insert.new.self (Some c.args.place) c.in_ok-insert.ensures.updates x
    ∙ ap (λ k. cond (bytes_eq k x) (Some c.args.place) (at_text c.args.by_label.now x)) c.in_ok-key.ensures.items
