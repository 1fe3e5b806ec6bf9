use Rattle.std.proofs.Common.{◌++◌, ap, ◌∙◌, Some}
use Rattle.pip_view.specs.Taken.{dirs_files}
use Rattle.pip_view.proofs.TakenFiles.{bytes_of, found_taken}
use Rattle.pip_view.proofs.taken.declared_blob.Goals as goal

pub returns-in_ok-blob-in-Some : goal.returns-in_ok-blob-in-Some
returns-in_ok-blob-in-Some c =
    let tree = c.args.sources.now in
    let made = c.args.inputs.now in
    ap Some c.in_ok-blob-in-Some.ensures ∙ ap (bytes_of tree made) c.in-Some.ensures
    ∙ found_taken tree made c.args.path.now (c.args.process.now.files ++ dirs_files c.args.pips.now c.args.dirs.now)

pub returns-in-None : goal.returns-in-None
returns-in-None c =
    let tree = c.args.sources.now in
    let made = c.args.inputs.now in
    ap (bytes_of tree made) c.in-None.ensures
    ∙ found_taken tree made c.args.path.now (c.args.process.now.files ++ dirs_files c.args.pips.now c.args.dirs.now)
