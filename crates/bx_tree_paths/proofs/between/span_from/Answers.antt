use Rattle.std.proofs.Common.{◌<◌, ◌≤◌, ◌++◌, arith}
use Rattle.bx_tree_paths.proofs.BetweenTexts.{between_slots, none_between}
use Rattle.bx_tree_paths.proofs.between.span_from.Goals as goal

pub returns-then-to-from : goal.returns-then-to-from
returns-then-to-from g c =
    let text = c.args.text.now in
    let less : c.slot_of-to.result.place < c.slot_of-from.result.place = omega arith in
    none_between g.T.HasPath.path_in (text ++ c.args.low.now) (text ++ c.args.high.now) c.args.items.now
    c.slot_of-from.result.place c.slot_of-to.result.place c.slot_of-from.result.is_there c.slot_of-to.result.is_there
    (omega (arith, less)) c.slot_of-from.ensures.slot c.slot_of-to.ensures.slot

pub returns : goal.returns
returns g c =
    let text = c.args.text.now in
    let order : c.slot_of-from.result.place ≤ c.slot_of-to.result.place = omega arith in
    between_slots g.T.HasPath.path_in (text ++ c.args.low.now) (text ++ c.args.high.now) c.args.items.now
    c.slot_of-from.result.place c.slot_of-to.result.place c.slot_of-from.result.is_there c.slot_of-to.result.is_there
    order c.slot_of-from.ensures.slot c.slot_of-to.ensures.slot
