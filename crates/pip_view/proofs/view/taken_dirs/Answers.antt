use Rattle.std.proofs.Common.{ap, subst, sym, ◌∙◌}
use Rattle.std.specs.Prelude.{slice_get}
use Rattle.pip_model_types.specs.Dirs.{RiseByForm}
use Rattle.pip_view.proofs.TakenDirs.{no_dirs_rise, pip_dirs, process_dirs}
use Rattle.pip_view.proofs.view.taken_dirs.Goals as goal

pub returns-in-Some-clause-dirs : goal.returns-in-Some-clause-dirs
returns-in-Some-clause-dirs c =
    c.dirs.ensures.dirs ∙ ap process_dirs c.in-Some.ensures ∙ pip_dirs (slice_get c.args.pips.now c.args.pip)

pub returns-in-Some-clause-rising : goal.returns-in-Some-clause-rising
returns-in-Some-clause-rising c = subst RiseByForm (sym c.dirs.ensures.dirs) c.dirs.ensures.rising

pub returns-in-None-clause-dirs : goal.returns-in-None-clause-dirs
returns-in-None-clause-dirs c = ap process_dirs c.in-None.ensures ∙ pip_dirs (slice_get c.args.pips.now c.args.pip)

pub returns-in-None-clause-rising : goal.returns-in-None-clause-rising
returns-in-None-clause-rising c = no_dirs_rise
