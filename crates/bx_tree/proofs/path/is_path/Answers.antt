use Rattle.bx_tree.specs.declared.limits.TheConstants.{MAX_PATH_BYTES}
use Rattle.std.proofs.Common.{arith, ◌≤◌, length}
use Rattle.bx_tree.proofs.PathTexts.{is_slash, named_by_parts, parts_of_named}
use Rattle.std.specs.List.{slice_split}
use Rattle.bx_tree.proofs.path.is_path.Goals as goal

pub returns : goal.returns
returns c =
    let short : length c.args.text.now ≤ MAX_PATH_BYTES = omega arith in (
      λ t. (slice_split is_slash c.args.text.now, named_by_parts c.args.text.now (c.has_atoms.ensures.0 t) short),
      λ h. c.has_atoms.ensures.1 (parts_of_named c.args.text.now h).0,
    )
