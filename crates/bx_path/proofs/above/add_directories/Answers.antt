use Rattle.std.proofs.Common.{◌∙◌, ◌||◌, List, ap}
use Rattle.std.specs.BTreeSet.{contains}
use Rattle.std.specs.List.{list_any}
use Rattle.std.proofs.lemmas.List.{take_all}
use Rattle.bx_tree.specs.Paths.{Atoms, path_cmp, same_path}
use Rattle.bx_path.proofs.Ancestors.{one_more}
use Rattle.bx_path.proofs.above.add_directories.Goals as goal

pub above-preserved : goal.above-preserved
above-preserved c = λ q.
    one_more c.deref-dir-items.result.now c.above.dir-index c.dir-item.result c.in_ok-share.field-0 q (contains path_cmp c.args.dirs.now q)
    (contains path_cmp c.above.dirs q) (contains path_cmp c.insert.new.self q)
    c.above-test.true c.dir-item.is c.in_ok-share.ensures (c.in_ok-insert.ensures.updates.0 q) (c.above.invariant q)

pub returns : goal.returns
returns c = λ q.
    c.above.invariant q
    ∙ ap (λ (ds : List Atoms). list_any (λ dir. same_path dir q) ds || contains path_cmp c.args.dirs.now q)
    (take_all c.above.dir-index c.deref-dir-items.result.now c.above-test.false ∙ c.deref-dir-items.ensures.value)
    ∙ ap (λ t. t || contains path_cmp c.args.dirs.now q) (c.in_ok-above.ensures q)
