use Rattle.std.proofs.Common.{refl, lit<, lit≤}
use Rattle.bx_tree.proofs.tree.is_reserved.Goals as goal

pub has_first_atom-requires : goal.has_first_atom-requires
has_first_atom-requires c = record {
  some = lit< tt;
  short = lit≤ tt;
  bytes = (refl, (refl, (refl, tt)));
  not_dot = λ e. cc;
  not_dots = λ e. cc;
}
