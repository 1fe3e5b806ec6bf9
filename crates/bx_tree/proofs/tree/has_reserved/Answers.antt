use Rattle.std.proofs.Common.{rules}
use Rattle.std.proofs.lemmas.Iterator.{cases_from_any, YieldsList-from_slice}
use Rattle.bx_tree.specs.Trees.{IsReserved}
use Rattle.bx_tree.specs.declared.tree_file.TreeFile.{TreeFile}
use Rattle.bx_tree.proofs.AnyElement.{any_or_none}
use Rattle.bx_tree.proofs.tree.has_reserved.Goals as goal

pub returns : goal.returns
returns c =
    any_or_none (λ (f : TreeFile). IsReserved f.path) _ _
    (cases_from_any _ _ _ (λ (f : TreeFile). IsReserved f.path) (λ (f : TreeFile). IsReserved f.path → ⊥) c.any.ensures.ran
    (YieldsList-from_slice c.args.files.now cc) (λ x q k. search rules) (λ x q k. search rules))
