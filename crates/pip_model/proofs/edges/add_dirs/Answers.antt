use Rattle.std.proofs.Common.{◌++◌, List, ap, append-nil, sym, ◌∙◌}
use Rattle.std.specs.List.{flat_map}
use Rattle.std.proofs.lemmas.List.{take_all}
use Rattle.pip_model_types.specs.declared.dir_inputs.DirInput.{DirInput}
use Rattle.pip_model.specs.Edges.{dir_targets}
use Rattle.pip_model.proofs.Found.{more_found}
use Rattle.pip_model.proofs.edges.add_dirs.Goals as goal

pub dirs-init : goal.dirs-init
dirs-init c = sym (append-nil c.args.found.now.items)

pub dirs-preserved : goal.dirs-preserved
dirs-preserved c =
    more_found (dir_targets c.args.pips.now) c.args.dirs.now c.dirs.dir-index c.dir-item.result _ c.dirs.found.items _ c.dirs-test.true
    (c.in_ok-add_dir.ensures ∙ ap (λ (d : DirInput). c.dirs.found.items ++ dir_targets c.args.pips.now d) c.dir-item.is) c.dirs.invariant

pub returns : goal.returns
returns c =
    c.dirs.invariant
    ∙ ap (λ (ds : List DirInput). c.args.found.now.items ++ flat_map (dir_targets c.args.pips.now) ds)
    (take_all c.dirs.dir-index c.args.dirs.now c.dirs-test.false)
