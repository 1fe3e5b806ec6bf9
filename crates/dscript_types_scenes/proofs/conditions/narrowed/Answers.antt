use Rattle.std.proofs.Common.{◌∙◌, ap, sym}
use Rattle.std.specs.Option.{option_copied, option_map}
use Rattle.dscript_program.specs.Views.{expr_data}
use Rattle.dscript_types_known.specs.Views.{found_local}
use Rattle.dscript_types_notes.proofs.Going.{if_ok}
use Rattle.dscript_types_scenes.proofs.Narrowing.{says_nothing, says_of_missing, says_of_other, says_of_seen}
use Rattle.dscript_types_scenes.proofs.conditions.narrowed.Goals as goal

pub returns-in_default : goal.returns-in_default
returns-in_default c =
    if_ok _ _ _
    (λ new is. says_nothing c.args.outcome (expr_data c.args.condition.now) c.args.scene.now new
    (sym c.in_default.is ∙ c.told.ensures) is)
    c.share.ensures

pub returns-then-not-same_outcome : goal.returns-then-not-same_outcome
returns-then-not-same_outcome c =
    if_ok _ _ _
    (λ new is. says_of_other c.args.outcome (expr_data c.args.condition.now) c.args.scene.now new c.in-Some.number c.in-Some.when
    (sym c.in-Some.is ∙ c.told.ensures) (sym c.same_outcome.ensures ∙ c.if-not-same_outcome.true) is)
    c.share-then-not-same_outcome.ensures

pub narrowed_local-requires : goal.narrowed_local-requires
narrowed_local-requires c =
    ap (λ o. option_map found_local (option_copied o)) (sym c.in-Some-get.is) ∙ c.get.ensures

pub returns-in-Some-get : goal.returns-in-Some-get
returns-in-Some-get c =
    if_ok _ _ _
    (λ new goes. says_of_seen c.args.outcome (expr_data c.args.condition.now) c.args.scene.now new c.in-Some.number c.in-Some.when
    (sym c.in-Some.is ∙ c.told.ensures) (sym c.same_outcome.ensures ∙ c.if-not-same_outcome.false) goes)
    c.narrowed_local.ensures

pub returns-in-None : goal.returns-in-None
returns-in-None c =
    if_ok _ _ _
    (λ new is. says_of_missing c.args.outcome (expr_data c.args.condition.now) c.args.scene.now new c.in-Some.number c.in-Some.when
    (sym c.in-Some.is ∙ c.told.ensures) (sym c.same_outcome.ensures ∙ c.if-not-same_outcome.false)
    (ap (λ o. option_map found_local (option_copied o)) (sym c.in-None.is) ∙ c.get.ensures) is)
    c.share-in-None.ensures
