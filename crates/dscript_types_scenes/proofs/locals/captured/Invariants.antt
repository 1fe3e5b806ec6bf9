use Rattle.std.proofs.Common.{take}
use Rattle.dscript_types_scenes.specs.Functions.{IsCaptured}
use Rattle.dscript_types_scenes.proofs.locals.captured.Given as goal

abbrev pub invariant-captured : goal.invariant-captured
invariant-captured l = IsCaptured l.scene (take l.number-index l.numbers) l.locals
