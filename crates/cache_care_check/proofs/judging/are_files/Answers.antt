use Rattle.std.proofs.Common.{arith}
use Rattle.two_phase.proofs.Used.{ok_no_err}
use Rattle.cache_care_check.proofs.Judged.{more_made, other_made}
use Rattle.cache_care_check.proofs.Steps.{one_step}
use Rattle.cache_care_check.proofs.judging.are_files.Goals as goal

pub returns-then-not-branch-clause-same : goal.returns-then-not-branch-clause-same
returns-then-not-branch-clause-same g c =
    other_made (g.K.Keeper.known c.is_file.new.keeper).held c.args.outputs.now c.files-files.result.now c.args.made.now c.outputs.place c.index-outputs-place.result
    c.index-files-place.result c.in_ok-is_file.field-0 c.files-files.ensures.files (omega arith) (omega arith) c.index-outputs-place.is c.index-files-place.is
    c.in_ok-is_file.ensures.same c.if-not-branch.true

pub outputs-preserved : goal.outputs-preserved
outputs-preserved g c = record {
  same = more_made (g.K.Keeper.known c.outputs.keeper).held (g.K.Keeper.known c.is_file.new.keeper).held c.args.outputs.now c.files-files.result.now c.outputs.place
      c.index-outputs-place.result c.index-files-place.result c.in_ok-is_file.field-0 (omega arith) (omega arith) c.index-outputs-place.is
      c.index-files-place.is c.in_ok-is_file.ensures.known.held c.outputs.invariant.same c.in_ok-is_file.ensures.same c.if-not-branch.false;
  right = c.in_ok-is_file.ensures.right;
  steps = one_step (g.K.Keeper.known c.args.keeper.now) (g.K.Keeper.known c.outputs.keeper) (g.K.Keeper.known c.is_file.new.keeper) _ _ _ _ _ _ _ (ok_no_err _ _)
      c.outputs.invariant.steps c.in_ok-is_file.ensures.known c.in_ok-is_file.ensures.keeper;
}
