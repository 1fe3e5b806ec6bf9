use Rattle.std.proofs.Common.{◌++◌, ap, sym, ◌∙◌}
use Rattle.pip_view.specs.Taken.{dirs_files, first_at}
use Rattle.pip_view.proofs.TakenFiles.{first_after, or_first}
use Rattle.pip_view.proofs.taken.find_declared.Goals as goal

pub returns-in-Some : goal.returns-in-Some
returns-in-Some c =
    let listed = dirs_files c.args.pips.now c.args.dirs.now in
    ap (λ o. or_first o (first_at c.args.path.now listed)) c.in-Some.ensures
    ∙ sym (first_after c.args.path.now c.files-files.result.now listed)
    ∙ ap (λ fs. first_at c.args.path.now (fs ++ listed)) c.files-files.ensures.files

pub returns-in-None : goal.returns-in-None
returns-in-None c =
    let listed = dirs_files c.args.pips.now c.args.dirs.now in
    c.find_listed.ensures
    ∙ ap (λ o. or_first o (first_at c.args.path.now listed)) c.in-None.ensures
    ∙ sym (first_after c.args.path.now c.files-files.result.now listed)
    ∙ ap (λ fs. first_at c.args.path.now (fs ++ listed)) c.files-files.ensures.files
