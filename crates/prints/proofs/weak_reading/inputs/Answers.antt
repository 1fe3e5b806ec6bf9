use Rattle.std.proofs.Common.{◌∙◌, List, map, sym, subst}
use Rattle.std.specs.List.{IsDistinct}
use Rattle.bx_tree.specs.Paths.{same_path}
use Rattle.bx_tree.specs.Orders.{path_cmp_total}
use Rattle.bx_tree.specs.declared.file_input.FileInput.{FileInput}
use Rattle.pip_model_types.specs.Inputs.{RiseByPath}
use Rattle.prints.specs.ReadWeak.{sources_of}
use Rattle.prints.proofs.InOrder.{sources_rise}
use Rattle.prints.proofs.weak_reading.inputs.Goals as goal
use Rattle.bx_tree.specs.FileInputs.{input_path}
use Rattle.bx_tree.proofs.InOrder.{moved_same, rising_distinct}

pub of-requires : goal.of-requires
of-requires c =
    subst (λ (fs : List FileInput). IsDistinct same_path (map input_path fs)) (sym c.in_ok-sources.ensures)
    (rising_distinct (map input_path (sources_of c.args.lines.now)) (sources_rise c.args.lines.now c.requires))

pub returns : goal.returns
returns c =
    moved_same path_cmp_total input_path c.in_ok-sources.field-0.items c.of.result c.of.ensures.kept
    (subst RiseByPath (sym c.in_ok-sources.ensures) (sources_rise c.args.lines.now c.requires)) c.of.ensures.rising
    ∙ c.in_ok-sources.ensures
