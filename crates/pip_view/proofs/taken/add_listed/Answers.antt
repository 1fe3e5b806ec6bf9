use Rattle.std.proofs.Common.{◌++◌, ap, ◌∙◌}
use Rattle.bx_tree.specs.FileInputs.{input_path}
use Rattle.bx_tree_paths.proofs.Rising.{rise_by_text}
use Rattle.pip_view.specs.Taken.{taken_names}
use Rattle.pip_view.proofs.TakenFiles.{names_next, no_names_left}
use Rattle.pip_view.proofs.taken.add_listed.Goals as goal
use Rattle.bx_tree.specs.Lent.{texts_now}

pub add_below-requires : goal.add_below-requires
add_below-requires c = rise_by_text input_path c.files_of.result.now c.files_of.ensures.rising

pub dirs-preserved : goal.dirs-preserved
dirs-preserved c =
    names_next c.args.pips.now c.args.dir.now c.args.dirs.now c.dirs.listing-index c.listing-item.result (texts_now c.dirs.names.items)
    (texts_now c.add_below.new.names.items) _ c.dirs-test.true c.listing-item.is
    (c.in_ok-add_below.ensures ∙ ap (λ fs. texts_now c.dirs.names.items ++ taken_names c.args.dir.now fs) c.files_of.ensures.files) c.dirs.invariant

pub returns : goal.returns
returns c =
    no_names_left c.args.pips.now c.args.dir.now c.args.dirs.now c.dirs.listing-index (texts_now c.dirs.names.items) _ c.dirs-test.false c.dirs.invariant
