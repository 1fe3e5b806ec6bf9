use Rattle.std.proofs.Common.{◌++◌, List, ap, ◌∙◌}
use Rattle.std.specs.List.{flat_map}
use Rattle.std.proofs.lemmas.List.{map-id}
use Rattle.bx_tree.specs.declared.file_input.FileInput.{FileInput}
use Rattle.graph_texts.specs.Rows.{member_line}
use Rattle.graph_texts.proofs.InputsInOrder.{inputs_fit, inputs_rise}
use Rattle.graph_texts.proofs.seal_lines.append_members.Goals as goal

pub returns-clause-text : goal.returns-clause-text
returns-clause-text c =
    c.in_ok-append_lines.ensures.text
    ∙ ap (λ (files : List FileInput). c.args.text.now.items ++ flat_map member_line files)
    (map-id c.files-list.result.now ∙ c.files-list.ensures.files)

pub returns-clause-files : goal.returns-clause-files
returns-clause-files c = inputs_fit c.args.files.now c.files-list.result.now c.files-list.ensures.files c.in_ok-append_lines.ensures.fit

pub returns-clause-order : goal.returns-clause-order
returns-clause-order c = inputs_rise c.args.files.now c.files-list.ensures.rising
