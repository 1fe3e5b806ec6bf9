use Rattle.std.proofs.Common.{refl}
use Rattle.dscript_eval_direct.proofs.Finds.{known_of}
use Rattle.dscript_eval_direct.proofs.known.Known.of.Goals as goal

pub returns : goal.returns
returns c = known_of c.args.machine.now _ _ _ c.as_slice.ensures.value c.as_slice-2.ensures.value refl
