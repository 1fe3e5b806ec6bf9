use Rattle.std.proofs.Common.{◌⊎◌, ◌≡◌, List, subst, sym}
use Rattle.std.specs.Prelude.{◌↔◌}
use Rattle.std.specs.List.{Contains}
use Rattle.bx_tree.specs.Paths.{Atoms}
use Rattle.bx_tree_paths.proofs.Numbered.{contains_with}
use Rattle.graph_check_outputs.proofs.seen.see.Goals as goal

pub returns : goal.returns
returns c =
    subst (λ (ps : List Atoms). (p : Atoms) → Contains ps p ↔ (Contains c.args.seen.now p ⊎ (c.args.path.now ≡ p))) (sym c.in_ok-add.ensures.added)
    (contains_with c.args.seen.now c.args.path.now)
