use Rattle.std.proofs.Common.{ap, ◌∙◌}
use Rattle.bx_tree.specs.Lent.{texts_now}
use Rattle.tool_run.specs.Listings.{names_text}
use Rattle.pip_view.proofs.Seeing.{names_listed}
use Rattle.pip_view.proofs.view.PipView.names.Goals as goal

pub returns : goal.returns
returns c =
    names_listed c.args.self.now c.args.ask.now (texts_now c.in_ok-names.names.items) _ c.in_ok-names.ensures.there c.requires c.in_ok-names.ensures.names
    (c.in_ok-new.ensures ∙ c.in_ok-text.ensures ∙ ap names_text (ap texts_now c.as_slice.ensures.value ∙ c.in_ok-asked.ensures))
