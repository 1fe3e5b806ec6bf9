use Rattle.std.proofs.Common.{◌≡◌, IfOk, List, subst, sym}
use Rattle.bx_tree.proofs.Lists.{none_left}
use Rattle.dscript_types_meaning.specs.Functions.{first_or_undefined}
use Rattle.dscript_types_meaning.specs.Types.{TypeData}
use Rattle.dscript_types_scenes.proofs.given.first_given.Goals as goal

pub returns-in-Some : goal.returns-in-Some
returns-in-Some c =
    subst (λ (ts : List TypeData). IfOk c.share.result (λ t. t ≡ first_or_undefined ts)) (sym c.in-Some.ensures.cases.0) c.share.ensures

pub returns-in-None : goal.returns-in-None
returns-in-None c =
    subst (λ (ts : List TypeData). IfOk c.undefined_type.result (λ t. t ≡ first_or_undefined ts))
    (sym (none_left c.args.given.now c.in-None.ensures.cases)) c.undefined_type.ensures
