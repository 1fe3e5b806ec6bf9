use Rattle.std.proofs.Common.{◌≡◌, length, map, string_bytes}
use Rattle.bx_io.specs.Holdings.{Keeps}
use Rattle.cache_care_check.specs.Known.{AreRight}
use Rattle.cache_care_check.proofs.Surveyed.{FoundSoFar}
use Rattle.cache_care_check.proofs.Steps.{Steps}
use Rattle.cache_care_check.proofs.surveying.survey_store.Given as goal

abbrev pub invariant-names : goal.invariant-names
invariant-names g l = record {
  found : FoundSoFar (g.K.Keeper.known l.keeper).held (map string_bytes l.name-items) l.name-index l.findings.items;
  number : length l.findings.items ≡ l.name-index;
  right : AreRight (g.K.Keeper.known l.keeper).held l.contents;
  kept : Keeps (g.K.Keeper.known l.initial.keeper) (g.K.Keeper.known l.keeper);
  steps : Steps (g.K.Keeper.known l.fn.keeper) (g.K.Keeper.known l.keeper) (g.K.Keeper.bound l.fn.keeper) (g.K.Keeper.bound l.keeper)
      (g.K.Keeper.faults l.fn.keeper) (g.K.Keeper.faults l.keeper);
}
