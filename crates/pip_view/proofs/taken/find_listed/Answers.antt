use Rattle.std.proofs.Common.{ap, sym, ◌∙◌}
use Rattle.pip_view.specs.Taken.{first_at}
use Rattle.pip_view.proofs.TakenFiles.{dir_found, dir_passed, no_dir_left}
use Rattle.pip_view.proofs.taken.find_listed.Goals as goal

pub returns-in-Some : goal.returns-in-Some
returns-in-Some c =
    dir_found c.args.pips.now c.args.path.now c.args.dirs.now c.dirs.dir-index c.dir-item.result c.in-Some.file.now _ c.dirs-test.true c.dir-item.is
    (sym (c.in-Some.ensures ∙ ap (first_at c.args.path.now) c.files_of-files.ensures.files)) c.dirs.invariant

pub dirs-preserved : goal.dirs-preserved
dirs-preserved c =
    dir_passed c.args.pips.now c.args.path.now c.args.dirs.now c.dirs.dir-index c.dir-item.result _ c.dirs-test.true c.dir-item.is
    (sym (c.in_default.ensures ∙ ap (first_at c.args.path.now) c.files_of-files.ensures.files)) c.dirs.invariant

pub returns : goal.returns
returns c = no_dir_left c.args.pips.now c.args.path.now c.args.dirs.now c.dirs.dir-index _ c.dirs-test.false c.dirs.invariant
