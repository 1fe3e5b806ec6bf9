use Rattle.std.proofs.Common.{◌∙◌, ap, sym}
use Rattle.dscript_sdk_values.specs.Kinds.{each_in}
use Rattle.dscript_sdk_execute.specs.ExecuteObject.{has_distinct_names, variable_in}
use Rattle.dscript_sdk_execute.proofs.Names.{refused_if_equal, taken_if_distinct}
use Rattle.dscript_sdk_execute.proofs.variables.read_variables.Goals as goal

pub returns-then-not-are_distinct : goal.returns-then-not-are_distinct
returns-then-not-are_distinct c = λ _.
    let read = ap (each_in variable_in) (sym c.items.ensures) ∙ c.in_ok-read.ensures in
    simp (c.in_ok-flat.ensures, read)
    (refused_if_equal c.in_ok-read.read.items c.of-variables.result c.are_distinct.result c.of-variables.ensures.kept
    (c.are_distinct.ensures ∙ ap has_distinct_names c.pairs.ensures.pairs) c.if-not-are_distinct.true)

pub returns : goal.returns
returns c =
    let read = ap (each_in variable_in) (sym c.items.ensures) ∙ c.in_ok-read.ensures in
    simp (c.in_ok-flat.ensures, read)
    (taken_if_distinct c.in_ok-read.read.items c.of-variables.result c.are_distinct.result c.of-variables.ensures.kept
    c.of-variables.ensures.sorted (c.are_distinct.ensures ∙ ap has_distinct_names c.pairs.ensures.pairs)
    c.if-not-are_distinct.false)
