use Rattle.pip_model_types.specs.Made.{made_files}
use Rattle.cache_care_check.specs.Known.{AreRight}
use Rattle.cache_care_check.proofs.Judged.{SameUpTo}
use Rattle.cache_care_check.proofs.Steps.{Steps}
use Rattle.cache_care_check.proofs.judging.are_files.Given as goal

abbrev pub invariant-outputs : goal.invariant-outputs
invariant-outputs g l = record {
  same : SameUpTo (g.K.Keeper.known l.keeper).held l.outputs (made_files l.files) l.place;
  right : AreRight (g.K.Keeper.known l.keeper).held l.contents;
  steps : Steps (g.K.Keeper.known l.fn.keeper) (g.K.Keeper.known l.keeper) (g.K.Keeper.bound l.fn.keeper) (g.K.Keeper.bound l.keeper)
      (g.K.Keeper.faults l.fn.keeper) (g.K.Keeper.faults l.keeper);
}
