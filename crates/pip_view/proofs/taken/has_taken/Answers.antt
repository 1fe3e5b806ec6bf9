use Rattle.std.proofs.Common.{◌∷◌, ap, ◌∙◌}
use Rattle.std.specs.Option.{unwrap_or}
use Rattle.pip_view.specs.Taken.{executable}
use Rattle.pip_view.proofs.NearFiles.{below_searched}
use Rattle.pip_view.proofs.taken.has_taken.Goals as goal

pub returns : goal.returns
returns c =
    let process = c.args.process.now in
    c.has_among.ensures
    ∙ below_searched c.args.plan.now.pips c.pips.result.now c.args.dir.now (executable process ∷ process.files) process.dirs
    c.searched-dirs.result.now c.in_ok-near.near
    (c.pips.ensures.pips, c.searched-dirs.ensures ∙ ap (unwrap_or c.in_ok-near.near) c.dirs.ensures.dirs, c.dirs.ensures.rising, c.in_ok-near.ensures)
