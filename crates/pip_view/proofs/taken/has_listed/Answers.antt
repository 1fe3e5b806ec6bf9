use Rattle.std.proofs.Common.{ap, sym, ◌∙◌}
use Rattle.bx_tree.specs.FileInputs.{input_path}
use Rattle.bx_tree_paths.proofs.Rising.{rise_by_text}
use Rattle.pip_view.specs.Taken.{any_below}
use Rattle.pip_view.proofs.TakenFiles.{below_next, no_below_left}
use Rattle.pip_view.proofs.taken.has_listed.Goals as goal

pub has_below-requires : goal.has_below-requires
has_below-requires c = rise_by_text input_path c.files_of-files.result.now c.files_of-files.ensures.rising

pub returns-then-has_below : goal.returns-then-has_below
returns-then-has_below c =
    below_next c.args.pips.now c.args.dir.now c.args.dirs.now c.dirs.listing-index c.listing-item.result _ _ c.dirs-test.true c.listing-item.is
    (sym (ap (any_below c.args.dir.now) c.files_of-files.ensures.files) ∙ sym c.has_below.ensures ∙ c.if-has_below.true) c.dirs.invariant

pub dirs-preserved : goal.dirs-preserved
dirs-preserved c =
    below_next c.args.pips.now c.args.dir.now c.args.dirs.now c.dirs.listing-index c.listing-item.result _ _ c.dirs-test.true c.listing-item.is
    (sym (ap (any_below c.args.dir.now) c.files_of-files.ensures.files) ∙ sym c.has_below.ensures ∙ c.if-has_below.false) c.dirs.invariant

pub returns : goal.returns
returns c = no_below_left c.args.pips.now c.args.dir.now c.args.dirs.now c.dirs.listing-index _ c.dirs-test.false c.dirs.invariant
