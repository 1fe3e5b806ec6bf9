use Rattle.dscript_types_scenes.proofs.Parameters.{ParametersGo}
use Rattle.dscript_types_scenes.proofs.given.parameter_types.Given as goal

abbrev pub invariant-params : goal.invariant-params
invariant-params l = ParametersGo l.world l.place l.params l.param-index l.rank l.types.items
