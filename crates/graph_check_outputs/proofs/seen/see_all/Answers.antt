use Rattle.std.proofs.Common.{◌⊎◌, List, subst}
use Rattle.std.specs.Prelude.{◌↔◌}
use Rattle.std.specs.List.{Contains}
use Rattle.std.proofs.lemmas.List.{take_all}
use Rattle.bx_tree.specs.Paths.{Atoms}
use Rattle.graph_check_outputs.proofs.Adding.{all_seen_more}
use Rattle.graph_check_outputs.proofs.seen.see_all.Goals as goal

pub paths-preserved : goal.paths-preserved
paths-preserved c =
    all_seen_more c.args.seen.now c.paths.seen c.see.new.seen c.args.paths.now c.paths.path-index c.path-item.result
    c.paths-test.true c.path-item.is c.paths.invariant c.in_ok-see.ensures

pub returns : goal.returns
returns c =
    subst (λ (ps : List Atoms). (p : Atoms) → Contains c.paths.seen p ↔ (Contains c.args.seen.now p ⊎ Contains ps p))
    (take_all c.paths.path-index c.args.paths.now c.paths-test.false) c.paths.invariant
