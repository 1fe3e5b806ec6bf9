use Rattle.std.proofs.Common.{List, ap, subst, ◌∙◌}
use Rattle.std.specs.Prelude.{IfSome, slice_get}
use Rattle.pip_model_types.specs.declared.pip.Pip.{Pip}
use Rattle.pip_view_inputs.specs.Plain.{process_in}
use Rattle.pip_view_directories.specs.Near.{AreTaken}
use Rattle.pip_view.specs.Seen.{ViewData}
use Rattle.pip_view.proofs.TakenDirs.{takes_if}
use Rattle.pip_view.proofs.view.PipView.process.Goals as goal

pub returns-clause-found : goal.returns-clause-found
returns-clause-found c =
    c.process_at.ensures ∙ ap (λ (ps : List Pip). process_in (slice_get ps c.self.inside.pip)) c.pips.ensures.pips
    ∙ ap (λ (v : ViewData). process_in (slice_get v.pips v.pip)) c.self.view_is

pub returns-clause-taken : goal.returns-clause-taken
returns-clause-taken c =
    subst (λ (v : ViewData). IfSome c.process_at.result (λ d. AreTaken v.pips d.now.dirs)) c.self.view_is
    (takes_if c.self.inside.plan.now.pips c.self.inside.pip c.process_at.result c.pips.ensures.list
    (c.process_at.ensures ∙ ap (λ (ps : List Pip). process_in (slice_get ps c.self.inside.pip)) c.pips.ensures.pips))
