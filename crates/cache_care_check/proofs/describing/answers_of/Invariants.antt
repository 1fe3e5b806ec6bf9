use Rattle.cache_care_check.specs.Known.{AreRight}
use Rattle.cache_care_check.proofs.Described.{AnsweredSoFar}
use Rattle.cache_care_check.proofs.Steps.{Steps}
use Rattle.cache_care_check.proofs.describing.answers_of.Given as goal

abbrev pub invariant-lines : goal.invariant-lines
invariant-lines g l = record {
  so_far : AnsweredSoFar (g.K.Keeper.known l.keeper).held l.lines l.line-index l.answers.items;
  right : AreRight (g.K.Keeper.known l.keeper).held l.contents;
  steps : Steps (g.K.Keeper.known l.fn.keeper) (g.K.Keeper.known l.keeper) (g.K.Keeper.bound l.fn.keeper) (g.K.Keeper.bound l.keeper)
      (g.K.Keeper.faults l.fn.keeper) (g.K.Keeper.faults l.keeper);
}
