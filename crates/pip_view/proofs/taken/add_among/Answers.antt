use Rattle.std.proofs.Common.{◌++◌, ◌∷◌, ap, subst, sym, ◌∙◌}
use Rattle.std.proofs.lemmas.Result.{on_ok_weaker}
use Rattle.bx_tree.specs.FileInputs.{input_path}
use Rattle.bx_tree.specs.Lent.{texts_now}
use Rattle.bx_tree_paths.proofs.Rising.{rise_by_text}
use Rattle.pip_model_types.specs.Inputs.{RiseByPath}
use Rattle.pip_view.specs.Taken.{dirs_files, executable, taken_names}
use Rattle.pip_view.proofs.TakenFiles.{three_names}
use Rattle.pip_view.proofs.taken.add_among.Goals as goal

pub add_below-requires : goal.add_below-requires
add_below-requires c = rise_by_text input_path c.files.result.now (subst RiseByPath (sym c.files.ensures.files) c.files.ensures.rising)

pub returns : goal.returns
returns c =
    let process = c.args.process.now in
    let dir = c.args.dir.now in
    let listed = dirs_files c.args.pips.now c.args.dirs.now in
    let old = texts_now c.args.names.now.items in
    on_ok_weaker c.add_listed.result
    (λ e.
    three_names dir (executable process) c.files.result.now listed old (texts_now c.add_executable.new.names.items)
    (texts_now c.add_below.new.names.items) (texts_now c.add_listed.new.names.items) c.in_ok-add_executable.ensures c.in_ok-add_below.ensures e
    ∙ ap (λ fs. old ++ taken_names dir (executable process ∷ fs ++ listed)) c.files.ensures.files)
    c.add_listed.ensures
