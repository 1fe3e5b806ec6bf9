use Rattle.std.proofs.Common.{rules, subst, sym}
use Rattle.std.specs.List.{IsDistinct}
use Rattle.std.specs.List.Sorted.{IsStrictlySortedBy}
use Rattle.std.specs.Ordering.{is_lt}
use Rattle.std.proofs.lemmas.List.Sorted.{IsPermutation-map, answers_always, ranks_by}
use Rattle.bx_tree.specs.Orders.{path_cmp_total}
use Rattle.bx_tree.specs.Paths.{path_cmp, same_path}
use Rattle.pip_model_types.specs.declared.made.MadeFile.{MadeFile}
use Rattle.pip_model_types.proofs.Placed.{rising_from_sorted}
use Rattle.pip_model_types.proofs.FilesAt.{paths-made}
use Rattle.pip_model_types.proofs.made.by_path.Goals as goal

pub returns-clause-same : goal.returns-clause-same
returns-clause-same c = IsPermutation-map (λ (f : MadeFile). (f.path, f.blob)) _ _ c.sort_unstable_by.ensures.permutation

pub returns-clause-rising : goal.returns-clause-rising
returns-clause-rising c =
    subst (IsStrictlySortedBy path_cmp) (sym (paths-made c.sort_unstable_by.new.self.items))
    (rising_from_sorted (λ (f : MadeFile). f.path) c.args.files.items c.sort_unstable_by.new.self.items
    (subst (IsDistinct same_path) (paths-made c.args.files.items) c.requires) c.sort_unstable_by.ensures.permutation
    (c.sort_unstable_by.ensures.sorted (λ (a b : MadeFile). is_lt (path_cmp a.path b.path)) (ranks_by path_cmp_total (λ (f : MadeFile). f.path))
    (answers_always _ _ _ (λ f a r g h. search rules))))
