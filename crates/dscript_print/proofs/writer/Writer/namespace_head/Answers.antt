use Rattle.std.proofs.Common.{[], ◌∷◌, refl, ◌∙◌}
use Rattle.dscript_print.specs.Runs.{keyword}
use Rattle.dscript_print.proofs.Arms.{two_steps}
use Rattle.dscript_print.proofs.Steps.{if_ok}
use Rattle.dscript_print.proofs.writer.Writer.namespace_head.Goals as goal

pub returns : goal.returns
returns c =
    if_ok c.dotted.result (λ x e. two_steps _ _ _ (keyword "namespace" ∷ []) _ _ refl (c.space.ensures ∙ c.in_ok-keyword.ensures) e) c.dotted.ensures
