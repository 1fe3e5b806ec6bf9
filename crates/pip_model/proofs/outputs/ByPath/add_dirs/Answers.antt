use Rattle.std.proofs.Common.{◌++◌, List, ap, append-nil, sym, ◌∙◌}
use Rattle.std.specs.List.{flat_map}
use Rattle.std.proofs.lemmas.List.{take_all}
use Rattle.std.proofs.lemmas.List.Folds.{flat_map-map}
use Rattle.pip_model_types.specs.declared.outputs.OutDir.{OutDir}
use Rattle.pip_model.specs.Outputs.{found_in, number_at}
use Rattle.pip_model.proofs.Found.{more_found}
use Rattle.pip_model.proofs.outputs.ByPath.add_dirs.Goals as goal

pub dirs-init : goal.dirs-init
dirs-init c = λ text. sym (append-nil (found_in c.args.self.now text))

pub dirs-preserved : goal.dirs-preserved
dirs-preserved c = λ text.
    more_found (λ (dir : OutDir). number_at c.args.number text dir.path) c.args.dirs.now c.dirs.dir-index c.dir-item.result _ _ _ c.dirs-test.true
    (c.in_ok-add.ensures text ∙ ap (λ (d : OutDir). found_in c.dirs.self text ++ number_at c.args.number text d.path) c.dir-item.is)
    (c.dirs.invariant text)

pub returns : goal.returns
returns c = λ text.
    c.dirs.invariant text
    ∙ ap (λ (ds : List OutDir). found_in c.args.self.now text ++ flat_map (λ (dir : OutDir). number_at c.args.number text dir.path) ds)
    (take_all c.dirs.dir-index c.args.dirs.now c.dirs-test.false)
    ∙ ap (λ ys. found_in c.args.self.now text ++ ys)
    (sym (flat_map-map (number_at c.args.number text) (λ (dir : OutDir). dir.path) c.args.dirs.now))
