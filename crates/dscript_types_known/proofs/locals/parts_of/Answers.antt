use Rattle.std.proofs.Common.{ap, sym, ◌∙◌}
use Rattle.std.specs.Option.{option_map}
use Rattle.dscript_types_known.specs.Views.{branch_at, found_local}
use Rattle.dscript_types_known.specs.declared.locals.Branch.{Branch}
use Rattle.dscript_types_known.specs.declared.locals.Branch.TheViews.{out-Branch}
use Rattle.dscript_types_known.proofs.Opened.{no_parts, parts_shared}
use Rattle.dscript_types_known.proofs.locals.parts_of.Goals as goal

pub returns-in_ok-share_branch-in-Some-2 : goal.returns-in_ok-share_branch-in-Some-2
returns-in_ok-share_branch-in-Some-2 c = λ number.
    parts_shared c.in-Some.branch.value _ _ _
    (c.in_ok-share_local-in-Some.ensures ∙ ap (λ (b : Branch). option_map found_local (out-Branch b).here) c.deref.ensures)
    (λ k. c.in_ok-share_branch-in-Some.ensures k ∙ ap (λ (b : Branch). branch_at (out-Branch b).even k) c.deref-in-Some.ensures)
    (λ k. c.in_ok-share_branch-in-Some-2.ensures k ∙ ap (λ (b : Branch). branch_at (out-Branch b).odd k) c.deref-in-Some-2.ensures) number
    ∙ sym (ap (λ o. branch_at o number) c.in-Some.is)

pub returns-in-None : goal.returns-in-None
returns-in-None c = λ number. no_parts number ∙ sym (ap (λ o. branch_at o number) c.in-None.is)
