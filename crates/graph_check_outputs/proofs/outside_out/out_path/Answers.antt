use Rattle.std.proofs.Common.{[], ◌∷◌, refl, lit<, lit≤, codes}
use Rattle.bx_tree.specs.Paths.{IsPathText}
use Rattle.graph_check_outputs.proofs.outside_out.out_path.Goals as goal

out_is_path : IsPathText (codes "out")
out_is_path = (
  codes "out" ∷ [],
  record {
    is_path = record {
      atoms = (record { some = lit< tt; short = lit≤ tt; bytes = (refl, (refl, (refl, tt))); not_dot = λ e. cc; not_dots = λ e. cc }, tt);
      short = lit≤ tt;
    };
    not_root = λ e. cc;
    text_is = refl;
  },
)

pub unreachable-requires : goal.unreachable-requires
unreachable-requires c = c.in-Err-BadPath.ensures c.in-Err-BadPath.field-0-is out_is_path
