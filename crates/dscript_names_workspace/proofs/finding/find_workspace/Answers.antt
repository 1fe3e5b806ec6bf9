use Rattle.std.proofs.Common.{ℕ, List, Option, ap, sym, subst, ◌∙◌}
use Rattle.bx_tree.specs.Trees.{file_at}
use Rattle.dscript_names_workspace.specs.Finding.{Starts}
use Rattle.dscript_names_workspace.specs.Views.{Answers}
use Rattle.dscript_names_workspace.proofs.ReadTexts.{text_fits}
use Rattle.dscript_names_workspace.proofs.finding.find_workspace.Goals as goal

pub with_config-requires-clause-text_fits : goal.with_config-requires-clause-text_fits
with_config-requires-clause-text_fits c =
    text_fits c.args.tree.now c.in_ok-config.config c.in-Some.text.now c.requires (sym c.in-Some.ensures.value)

pub returns-in-Some : goal.returns-in-Some
returns-in-Some c =
    subst (λ (o : Option (List ℕ)). Answers (Starts c.args.tree.now o) c.with_config.result)
    (c.in-Some.ensures.value ∙ ap (file_at c.args.tree.now) c.in_ok-config.ensures) c.with_config.ensures

pub returns : goal.returns
returns c =
    subst (λ (o : Option (List ℕ)). Answers (Starts c.args.tree.now o) c.without_config.result)
    (c.in-None.ensures.value ∙ ap (file_at c.args.tree.now) c.in_ok-config.ensures) c.without_config.ensures
