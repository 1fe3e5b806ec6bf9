use Rattle.std.proofs.Common.{subst}
use Rattle.dscript_ast.specs.Views.{param_tree}
use Rattle.dscript_types_known.specs.Views.{finding_data}
use Rattle.dscript_types_meaning.specs.Functions.{declared_parameter}
use Rattle.dscript_types_notes.specs.Means.{Says}
use Rattle.dscript_types_scenes.proofs.Parameters.{parameters_begin, parameters_end, parameters_go, parameters_open, parameters_stop}
use Rattle.dscript_types_scenes.proofs.given.parameter_types.Goals as goal

pub params-init : goal.params-init
params-init c = parameters_begin c.args.world.now c.args.place.now c.args.params.now _ c.in_ok-types.ensures.items

pub params-preserved : goal.params-preserved
params-preserved c =
    parameters_go c.args.world.now c.args.place.now c.args.params.now c.params.param-index c.params.rank c.params.types.items c.param-item.result c.params-test.true c.param-item.is c.params.invariant c.in-Found.t c.in-Found.from _ _ (subst (λ f. Says c.args.world.now c.args.place.now (finding_data f) (λ p known d. declared_parameter p known d (param_tree c.param-item.result))) c.in-Found.is c.in_ok-t.ensures)
    c.larger-rank.ensures c.in_ok-push-in-Found.ensures.items

pub returns-in-Nothing : goal.returns-in-Nothing
returns-in-Nothing c = parameters_stop c.args.world.now c.args.place.now c.args.params.now c.params.param-index c.params.rank c.params.types.items c.param-item.result c.params-test.true c.param-item.is c.params.invariant (subst (λ f. Says c.args.world.now c.args.place.now (finding_data f) (λ p known d. declared_parameter p known d (param_tree c.param-item.result))) c.in-Nothing.is c.in_ok-t.ensures)

pub returns-in-Open : goal.returns-in-Open
returns-in-Open c = parameters_open c.args.world.now c.args.place.now c.args.params.now c.params.param-index c.params.rank c.params.types.items c.param-item.result c.params-test.true c.param-item.is c.params.invariant (subst (λ f. Says c.args.world.now c.args.place.now (finding_data f) (λ p known d. declared_parameter p known d (param_tree c.param-item.result))) c.in-Open.is c.in_ok-t.ensures)

pub returns : goal.returns
returns c = parameters_end c.args.world.now c.args.place.now c.args.params.now c.params.param-index c.params.rank c.params.types.items c.params-test.false c.params.invariant
