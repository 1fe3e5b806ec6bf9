use Rattle.std.proofs.Common.{map}
use Rattle.bx_tree.specs.FileInputs.{input_path}
use Rattle.bx_tree.specs.Orders.{path_cmp_total}
use Rattle.bx_tree.proofs.InOrder.{moved_same, rising_distinct}
use Rattle.graph_texts.proofs.InputsInOrder.{inputs_sorted}
use Rattle.graph_texts.proofs.seal_lines.rising_inputs.Goals as goal

pub of-requires : goal.of-requires
of-requires c = rising_distinct (map input_path c.args.files.items) (inputs_sorted c.args.files.items c.requires)

pub returns : goal.returns
returns c =
    moved_same path_cmp_total input_path c.args.files.items c.of.result c.of.ensures.kept
    (inputs_sorted c.args.files.items c.requires) c.of.ensures.rising
