use Rattle.std.proofs.Common.{◌≡◌, true, cond, subst}
use Rattle.std.specs.BTreeMap.{is_at}
use Rattle.bx_tree.specs.Paths.{Atoms, path_cmp}
use Rattle.dscript_names_workspace.specs.PathSets.{has}
use Rattle.dscript_names_workspace.proofs.PathSets.{one_more}
use Rattle.dscript_names_workspace.proofs.path_set.add_paths.Goals as goal

pub paths-preserved : goal.paths-preserved
paths-preserved c = λ q.
    one_more c.args.paths.now c.paths.path-index c.path-item.result q (has c.args.set.now q) (has c.paths.set q)
    (has c.insert.new.self q) c.paths-test.true c.path-item.is
    (subst (λ (key : Atoms). has c.insert.new.self q ≡ cond (is_at (path_cmp key) q) true (has c.paths.set q))
    c.in_ok-share.ensures (c.in_ok-insert.ensures.updates.0 q)) (c.paths.invariant q)
