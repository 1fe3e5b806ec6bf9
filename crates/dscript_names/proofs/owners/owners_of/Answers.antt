use Rattle.std.proofs.Common.{◌∙◌, Some, ap, cond, length, refl}
use Rattle.std.specs.List.{list_any}
use Rattle.bx_tree.specs.Paths.{same_path}
use Rattle.bx_tree.proofs.Lists.{none_left}
use Rattle.dscript_names.specs.Owners.{owner_at}
use Rattle.dscript_names.proofs.Owning.{module_put, owners_all}
use Rattle.dscript_names.proofs.owners.owners_of.Goals as goal

pub last-preserved : goal.last-preserved
last-preserved c = λ q.
    module_put q c.last.left.now c.in-Some.before.now c.in-Some.module.now _ _ _ _ c.in-Some.ensures.cases.0 refl
    (c.in_ok-add_files.ensures q
    ∙ ap (λ fs. cond (list_any (same_path q) fs) (Some (length c.in-Some.before.now)) (owner_at c.last.numbers q)) c.as_slice.ensures.value)
    (c.last.invariant q)

pub returns : goal.returns
returns c = λ q.
    owners_all q c.args.modules.now c.last.left.now (length c.args.modules.now) _
    (none_left c.last.left.now c.in_default.ensures.cases) refl (c.last.invariant q)
