use Rattle.std.proofs.Common.{map}
use Rattle.bx_tree.specs.FileInputs.{input_path}
use Rattle.cache_care_check.specs.Known.{AreRight}
use Rattle.cache_care_check.proofs.Described.{DeclaredSoFar}
use Rattle.cache_care_check.proofs.Steps.{Steps}
use Rattle.cache_care_check.proofs.describing.declared_files.Given as goal

abbrev pub invariant-files : goal.invariant-files
invariant-files g l = record {
  so_far : DeclaredSoFar (g.K.Keeper.known l.keeper).held (map input_path l.files) l.digests l.place l.made.items;
  right : AreRight (g.K.Keeper.known l.keeper).held l.contents;
  steps : Steps (g.K.Keeper.known l.fn.keeper) (g.K.Keeper.known l.keeper) (g.K.Keeper.bound l.fn.keeper) (g.K.Keeper.bound l.keeper)
      (g.K.Keeper.faults l.fn.keeper) (g.K.Keeper.faults l.keeper);
}
