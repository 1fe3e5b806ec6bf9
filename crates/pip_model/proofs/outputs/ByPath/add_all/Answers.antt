use Rattle.std.proofs.Common.{◌++◌, List, ap, append-nil, sym, ◌∙◌}
use Rattle.std.proofs.lemmas.List.{take_all}
use Rattle.bx_tree.specs.Paths.{Atoms}
use Rattle.pip_model.specs.Outputs.{found_in, number_at, numbers_at}
use Rattle.pip_model.proofs.Found.{more_found}
use Rattle.pip_model.proofs.outputs.ByPath.add_all.Goals as goal

pub paths-init : goal.paths-init
paths-init c = λ text. sym (append-nil (found_in c.args.self.now text))

pub paths-preserved : goal.paths-preserved
paths-preserved c = λ text.
    more_found (number_at c.args.number text) c.args.paths.now c.paths.path-index c.path-item.result _ _ _ c.paths-test.true
    (c.in_ok-add.ensures text ∙ ap (λ (p : Atoms). found_in c.paths.self text ++ number_at c.args.number text p) c.path-item.is)
    (c.paths.invariant text)

pub returns : goal.returns
returns c = λ text.
    c.paths.invariant text
    ∙ ap (λ (ps : List Atoms). found_in c.args.self.now text ++ numbers_at c.args.number text ps)
    (take_all c.paths.path-index c.args.paths.now c.paths-test.false)
