use Rattle.std.proofs.Common.{◌≤◌, arith, length}
use Rattle.bx_tree.specs.Views.{files_of}
use Rattle.bx_tree.specs.declared.limits.TheConstants.{MAX_BUNDLE_BYTES}
use Rattle.bundle_folder.proofs.Held.{in_size_moved}
use Rattle.bundle_folder.proofs.packing.text_of.Goals as goal

pub returns : goal.returns
returns c =
    let whole : length c.in_ok-text.text.items ≤ MAX_BUNDLE_BYTES = omega arith in (
      c.in-Some.tree,
      c.in-Some.ensures.0,
      record {
        tree = c.in-Some.ensures.1;
        in_size = in_size_moved (files_of c.args.files.items) c.in-Some.tree c.in-Some.ensures.0 c.requires;
        whole = whole;
        text_is = c.in_ok-text.ensures;
      },
    )
