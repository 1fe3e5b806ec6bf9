use Rattle.std.proofs.Common.{◌≡◌, Option, subst, sym}
use Rattle.dscript_sdk_calls.specs.declared.tree_ask.TreeAsk.{TreeAsk}
use Rattle.dscript_sdk_pips.proofs.Asked.{ask_noted}
use Rattle.dscript_sdk_pips.specs.States.{over_tree}
use Rattle.dscript_sdk.specs.Members.{noted_if}
use Rattle.dscript_sdk.proofs.membership.note_if.Goals as goal

pub returns-in_ok-note-in-Some-clause-noted : goal.returns-in_ok-note-in-Some-clause-noted
returns-in_ok-note-in-Some-clause-noted c =
    subst (λ (asked : Option TreeAsk). over_tree c.note.new.self ≡ noted_if asked (over_tree c.args.state.now)) (sym c.in-Some.is)
    (ask_noted c.args.state.now c.note.new.self c.in-Some.ask c.in_ok-note-in-Some.ensures.noted)
