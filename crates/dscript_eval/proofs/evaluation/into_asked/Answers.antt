use Rattle.std.proofs.Common.{subst, sym}
use Rattle.pip_model_types.specs.Makers.{IsPipList}
use Rattle.dscript_eval.proofs.evaluation.into_asked.Goals as goal

pub of-requires : goal.of-requires
of-requires c = subst IsPipList (sym c.into_parts-pips.ensures.pips) c.requires
