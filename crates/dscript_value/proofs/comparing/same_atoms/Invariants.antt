use Rattle.std.proofs.Common.{◌≡◌, drop}
use Rattle.bx_tree.specs.Paths.{same_path}
use Rattle.dscript_value.proofs.comparing.same_atoms.Given as goal

abbrev pub invariant-atoms : goal.invariant-atoms
invariant-atoms l = same_path (drop l.place l.a) (drop l.place l.b) ≡ same_path l.a l.b
