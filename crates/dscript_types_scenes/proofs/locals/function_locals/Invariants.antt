use Rattle.dscript_types_scenes.proofs.Standing.{LocalsGo}
use Rattle.dscript_types_scenes.proofs.locals.function_locals.Given as goal

abbrev pub invariant-params : goal.invariant-params
invariant-params l =
    LocalsGo l.world l.place l.function.first_local l.function.params.items l.param-index l.locals l.number
