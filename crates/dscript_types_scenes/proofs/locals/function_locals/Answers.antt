use Rattle.std.proofs.Common.{◌<◌, ◌≡◌, ◌≤◌, get_or, length, subst}
use Rattle.dscript_types_scenes.proofs.Standing.{locals_begin, locals_end, locals_go}
use Rattle.dscript_types_scenes.proofs.locals.function_locals.Goals as goal

pub params-init : goal.params-init
params-init c = locals_begin c.args.world.now c.args.place.now c.args.function.now.first_local c.args.function.now.params.items c.new-locals.result c.new-locals.ensures

pub params-preserved : goal.params-preserved
params-preserved c =
    locals_go c.args.world.now c.args.place.now c.args.function.now.first_local c.args.function.now.params.items c.params.param-index c.params.locals c.in_ok-locals.locals c.params.number _ c.param-item.result _ c.params.invariant
    (subst (λ ps. c.params.param-index < length ps) c.deref-param-items.ensures.value c.params-test.true) (subst (λ ps. c.param-item.result ≡ get_or ps c.params.param-index c.param-item.result) c.deref-param-items.ensures.value c.param-item.is) c.in_ok-number.ensures c.in_ok-finding.ensures c.in_ok-locals.ensures

pub returns : goal.returns
returns c =
    locals_end c.args.world.now c.args.place.now c.args.function.now.first_local c.args.function.now.params.items c.params.param-index c.params.locals c.params.number (subst (λ ps. length ps ≤ c.params.param-index) c.deref-param-items.ensures.value c.params-test.false) c.params.invariant
