use Rattle.std.proofs.Common.{List, ap, ◌∙◌}
use Rattle.std.specs.List.{list_any}
use Rattle.std.specs.Option.{unwrap_or}
use Rattle.std.specs.Prelude.{slice_get}
use Rattle.violations.specs.Producing.{dirs_at}
use Rattle.pip_model_types.specs.declared.dir_inputs.DirInput.{DirInput}
use Rattle.pip_model_types.specs.declared.pip.Pip.{Pip}
use Rattle.pip_view.specs.InputFiles.{is_source_of}
use Rattle.pip_view.specs.Seen.{ViewData}
use Rattle.pip_view.proofs.AroundMembers.{sealed_searched}
use Rattle.pip_view.proofs.view.PipView.is_sealed.Goals as goal

pub returns : goal.returns
returns c =
    let all = c.taken_dirs-all.ensures.dirs
    ∙ ap (λ (ps : List Pip). dirs_at (slice_get ps c.self.inside.pip)) c.pips.ensures.pips
    ∙ ap (λ (v : ViewData). dirs_at (slice_get v.pips v.pip)) c.self.view_is in
    c.is_sealed.ensures
    ∙ ap (λ (ds : List DirInput). list_any (is_source_of c.args.path.now) ds)
    (c.searched.ensures ∙ ap (unwrap_or c.in_ok-near.near) all)
    ∙ sealed_searched c.args.self.now c.args.path.now c.in_ok-near.near c.in_ok-near.ensures
