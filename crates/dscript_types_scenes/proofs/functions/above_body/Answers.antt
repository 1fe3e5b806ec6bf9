use Rattle.std.proofs.Common.{◌≡◌, IfOk, subst, sym}
use Rattle.dscript_types_scenes.specs.Functions.{body_typing}
use Rattle.dscript_types_scenes.proofs.functions.above_body.Goals as goal

pub returns-in-Found : goal.returns-in-Found
returns-in-Found c =
    subst (λ a. IfOk c.found_above.result (λ typing. typing ≡ body_typing c.args.first a c.args.inside.right)) (sym c.in-Found.is)
    c.found_above.ensures
