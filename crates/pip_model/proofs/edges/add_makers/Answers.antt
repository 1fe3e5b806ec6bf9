use Rattle.std.proofs.Common.{◌++◌, List, ap, append-nil, sym, ◌∙◌}
use Rattle.std.proofs.lemmas.List.{take_all}
use Rattle.bx_tree.specs.declared.file_input.FileInput.{FileInput}
use Rattle.pip_model.specs.Edges.{maker, makers}
use Rattle.pip_model.proofs.Found.{more_found}
use Rattle.pip_model.proofs.edges.add_makers.Goals as goal

pub files-init : goal.files-init
files-init c = sym (append-nil c.args.found.now.items)

pub files-preserved : goal.files-preserved
files-preserved c =
    more_found maker c.args.files.now c.files.file-index c.file-item.result _ c.files.found.items _ c.files-test.true
    (c.in_ok-add_maker.ensures ∙ ap (λ (f : FileInput). c.files.found.items ++ maker f) c.file-item.is) c.files.invariant

pub returns : goal.returns
returns c =
    c.files.invariant
    ∙ ap (λ (fs : List FileInput). c.args.found.now.items ++ makers fs) (take_all c.files.file-index c.args.files.now c.files-test.false)
