use Rattle.std.proofs.Common.{◌∙◌, ap, sym}
use Rattle.bx_tree.proofs.Lists.{none_left}
use Rattle.dscript_types_meaning.specs.Functions.{rest_of}
use Rattle.dscript_types_scenes.proofs.given.rest_of.Goals as goal

pub returns-in-Some : goal.returns-in-Some
returns-in-Some c = sym (ap rest_of c.in-Some.ensures.cases.0)

pub returns-in-None : goal.returns-in-None
returns-in-None c =
    let none = none_left c.args.given.now c.in-None.ensures.cases in
    none ∙ sym (ap rest_of none)
