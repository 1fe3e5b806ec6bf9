use Rattle.std.proofs.Common.{length, subst, sym}
use Rattle.graph_check_outputs.specs.Outputs.{declared_files}
use Rattle.graph_check_outputs.specs.Gathered.{IsListOf}
use Rattle.graph_check_outputs.proofs.Lists.{none_there}
use Rattle.graph_check_outputs.proofs.Overlapping.{no_unlisted, unlisted_from, unlisted_to}
use Rattle.graph_check_outputs.proofs.overlap.seals_leave_out.Goals as goal

pub returns-then-is_empty : goal.returns-then-is_empty
returns-then-is_empty c = (
  λ t. cc,
  λ h. absurd (no_unlisted c.args.pips.now c.in_ok-roots.roots.items c.in_ok-roots.ensures (none_there c.is_empty.result c.in_ok-roots.roots.len (length c.in_ok-roots.roots.items) c.is_empty.ensures c.if-is_empty.true c.in_ok-roots.roots.ok.0) h),
)

pub returns : goal.returns
returns c =
    let pips = c.args.pips.now in
    let files = subst (IsListOf declared_files pips) (sym c.as_slice.ensures.value) c.in_ok-files.ensures in (
      λ t. unlisted_from pips c.as_slice.result.now files (c.any_leaves_out.ensures.0 t),
      λ h. c.any_leaves_out.ensures.1 (unlisted_to pips c.as_slice.result.now files h),
    )
