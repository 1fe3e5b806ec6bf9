use Rattle.dscript_program.specs.Views.{function_data}
use Rattle.dscript_types_scenes.proofs.Giving.{GivenGo}
use Rattle.dscript_types_scenes.proofs.locals.callback_scene.Given as goal

abbrev pub invariant-params : goal.invariant-params
invariant-params l =
    GivenGo l.world l.scene (function_data l.function) l.function.params.items l.fn.given l.param-index l.locals l.rank l.number l.left
