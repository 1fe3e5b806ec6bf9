use Rattle.std.proofs.Common.{◌<◌, ◌≡◌, ◌≤◌, get_or, length, refl, subst}
use Rattle.dscript_program.specs.Views.{function_data}
use Rattle.dscript_types_known.specs.Views.{finding_data}
use Rattle.dscript_types_scenes.proofs.Giving.{given_begin, given_ends, given_goes, given_opens, given_stops, parameter_of}
use Rattle.dscript_types_scenes.specs.Functions.{IsCaptured}
use Rattle.dscript_types_scenes.specs.Scenes.{FindsAs}
use Rattle.dscript_types_scenes.proofs.locals.callback_scene.Goals as goal

pub params-init : goal.params-init
params-init c = given_begin c.args.world.now c.args.scene.now (function_data c.args.function.now) c.args.function.now.params.items c.args.given.now c.in_ok-locals.locals (subst (λ ns. IsCaptured c.args.scene.now ns c.in_ok-locals.locals) c.as_slice.ensures.value c.in_ok-locals.ensures)

pub params-preserved : goal.params-preserved
params-preserved c =
    given_goes c.args.world.now c.args.scene.now (function_data c.args.function.now) c.args.function.now.params.items c.args.given.now c.params.param-index c.params.locals c.params.rank c.params.number c.params.left.now c.params.invariant c.param-item.result (subst (λ ps. c.params.param-index < length ps) c.deref-param-items.ensures.value c.params-test.true) (subst (λ ps. c.param-item.result ≡ get_or ps c.params.param-index c.param-item.result) c.deref-param-items.ensures.value c.param-item.is)
    c.in-Found.t c.in-Found.from _ _ c.in_ok-locals-2.locals _
    (subst (λ f. FindsAs c.args.world.now c.args.scene.now (finding_data f) (parameter_of c.args.world.now c.args.scene.now (function_data c.args.function.now) c.args.function.now.params.items c.args.given.now c.params.param-index c.params.locals c.params.rank c.params.number c.params.left.now c.params.invariant c.param-item.result (subst (λ ps. c.params.param-index < length ps) c.deref-param-items.ensures.value c.params-test.true) (subst (λ ps. c.param-item.result ≡ get_or ps c.params.param-index c.param-item.result) c.deref-param-items.ensures.value c.param-item.is))) c.in-Found.is c.in_ok-t.ensures)
    c.larger-rank.ensures c.in_ok-number.ensures c.rest_of-left.ensures c.in_ok-locals-2.ensures

pub returns-in-Nothing : goal.returns-in-Nothing
returns-in-Nothing c =
    given_stops c.args.world.now c.args.scene.now (function_data c.args.function.now) c.args.function.now.params.items c.args.given.now c.params.param-index c.params.locals c.params.rank c.params.number c.params.left.now c.params.invariant c.param-item.result (subst (λ ps. c.params.param-index < length ps) c.deref-param-items.ensures.value c.params-test.true) (subst (λ ps. c.param-item.result ≡ get_or ps c.params.param-index c.param-item.result) c.deref-param-items.ensures.value c.param-item.is)
    (subst (λ f. FindsAs c.args.world.now c.args.scene.now (finding_data f) (parameter_of c.args.world.now c.args.scene.now (function_data c.args.function.now) c.args.function.now.params.items c.args.given.now c.params.param-index c.params.locals c.params.rank c.params.number c.params.left.now c.params.invariant c.param-item.result (subst (λ ps. c.params.param-index < length ps) c.deref-param-items.ensures.value c.params-test.true) (subst (λ ps. c.param-item.result ≡ get_or ps c.params.param-index c.param-item.result) c.deref-param-items.ensures.value c.param-item.is))) c.in-Nothing.is c.in_ok-t.ensures)

pub returns-in-Open : goal.returns-in-Open
returns-in-Open c =
    given_opens c.args.world.now c.args.scene.now (function_data c.args.function.now) c.args.function.now.params.items c.args.given.now c.params.param-index c.params.locals c.params.rank c.params.number c.params.left.now c.params.invariant c.param-item.result (subst (λ ps. c.params.param-index < length ps) c.deref-param-items.ensures.value c.params-test.true) (subst (λ ps. c.param-item.result ≡ get_or ps c.params.param-index c.param-item.result) c.deref-param-items.ensures.value c.param-item.is) c.in-Open.pending
    (subst (λ f. FindsAs c.args.world.now c.args.scene.now (finding_data f) (parameter_of c.args.world.now c.args.scene.now (function_data c.args.function.now) c.args.function.now.params.items c.args.given.now c.params.param-index c.params.locals c.params.rank c.params.number c.params.left.now c.params.invariant c.param-item.result (subst (λ ps. c.params.param-index < length ps) c.deref-param-items.ensures.value c.params-test.true) (subst (λ ps. c.param-item.result ≡ get_or ps c.params.param-index c.param-item.result) c.deref-param-items.ensures.value c.param-item.is))) c.in-Open.is c.in_ok-t.ensures)

pub returns : goal.returns
returns c =
    given_ends c.args.world.now c.args.scene.now (function_data c.args.function.now) c.args.function.now.params.items c.args.given.now c.params.param-index c.params.locals c.params.rank c.params.number c.params.left.now (record { place = c.args.scene.now.place; locals = c.params.locals }) (subst (λ ps. length ps ≤ c.params.param-index) c.deref-param-items.ensures.value c.params-test.false)
    c.params.invariant refl refl
