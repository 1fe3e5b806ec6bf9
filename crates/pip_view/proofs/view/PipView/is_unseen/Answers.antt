use Rattle.std.proofs.Common.{ap, ◌∙◌}
use Rattle.std.specs.Prelude.{is_some, slice_get}
use Rattle.violations.specs.Producing.{dirs_at, least_unseen}
use Rattle.pip_view.specs.Seen.{ViewData}
use Rattle.pip_view.proofs.view.PipView.is_unseen.Goals as goal

pub returns : goal.returns
returns c =
    c.is_some.ensures ∙ ap is_some
    (c.least_unseen.ensures.least
    ∙ ap (λ (v : ViewData). least_unseen (dirs_at (slice_get v.pips v.pip)) v.pip c.args.path.now 0 v.pips) c.self.view_is)
