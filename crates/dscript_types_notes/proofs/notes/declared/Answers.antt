use Rattle.std.proofs.Common.{ap, sym, ◌∙◌}
use Rattle.dscript_types_known.specs.Views.{finding_data}
use Rattle.dscript_types_meaning.specs.Sizes.{within_limit}
use Rattle.dscript_types_notes.specs.Means.{found_if, limited_data, raised}
use Rattle.dscript_types_notes.proofs.Parts.{limited_entry}
use Rattle.dscript_types_notes.proofs.notes.declared.Goals as goal

pub returns-in-Found : goal.returns-in-Found
returns-in-Found c =
    limited_entry c.args.rank c.in-Found.from c.in-Found.t _ _ (sym (ap finding_data c.in-Found.is) ∙ c.in_ok-t.ensures)
    (c.limited.ensures ∙ ap (found_if (within_limit c.in-Found.t)) c.larger.ensures)

pub returns-in-Nothing : goal.returns-in-Nothing
returns-in-Nothing c =
    ap (λ g. raised c.args.rank (limited_data g)) (sym (ap finding_data c.in-Nothing.is) ∙ c.in_ok-t.ensures)

pub returns-in-Open : goal.returns-in-Open
returns-in-Open c =
    ap (λ g. raised c.args.rank (limited_data g)) (sym (ap finding_data c.in-Open.is) ∙ c.in_ok-t.ensures)
