use Rattle.std.proofs.Common.{[], ◌∷◌, ◌++◌, ap, ◌∙◌}
use Rattle.std.specs.BTreeMap.{get}
use Rattle.bx_tree.specs.Paths.{path_cmp}
use Rattle.dscript_names_workspace.proofs.PathSets.{items_or_none, put_with}
use Rattle.dscript_names_workspace.proofs.membership.add_file.Goals as goal

pub returns : goal.returns
returns c = λ q.
    put_with c.args.dir q c.args.files.now (get path_cmp c.remove.new.self q) (get path_cmp c.insert.new.self q)
    c.push.new.self c.args.file (c.in_ok-insert.ensures.updates.0 q) (c.remove.ensures.updates.0 q)
    (c.in_ok-push.ensures.items ∙ ap (λ xs. xs ++ c.args.file ∷ [])
    (items_or_none c.remove.result c.new.result c.unwrap_or-own.result (get path_cmp c.args.files.now c.args.dir)
    c.unwrap_or-own.ensures c.remove.ensures.value c.new.ensures.items))
