use Rattle.std.proofs.Common.{List, ap, subst, sym, ◌∙◌}
use Rattle.std.specs.List.{Contains}
use Rattle.std.specs.List.Sorted.{IsStrictlySortedBy}
use Rattle.bx_tree.specs.Paths.{Atoms, has_path, path_cmp}
use Rattle.bx_tree.proofs.FoundByTest.{has_path_from_answer}
use Rattle.bx_tree_paths.proofs.Found.{found_there}
use Rattle.bx_tree_paths.proofs.Rising.{paths_rise}
use Rattle.pip_model_types.proofs.outputs.Outputs.has.Goals as goal

pub place_of-requires : goal.place_of-requires
place_of-requires c = paths_rise c.paths.result.now (subst (IsStrictlySortedBy path_cmp) (sym c.paths.ensures.paths) c.paths.ensures.rising)

pub returns-clause-member : goal.returns-clause-member
returns-clause-member c =
    let paths = c.paths.ensures.paths in
    let found = found_there c.paths.result.now c.args.path.now c.place_of.result c.place_of.ensures in (
      λ e. subst (λ (ps : List Atoms). Contains ps c.args.path.now) paths (found.0 (sym c.is_some.ensures ∙ e)),
      λ h. c.is_some.ensures ∙ found.1 (subst (λ (ps : List Atoms). Contains ps c.args.path.now) (sym paths) h),
    )

pub returns-clause-value : goal.returns-clause-value
returns-clause-value c =
    c.is_some.ensures
    ∙ has_path_from_answer c.paths.result.now c.args.path.now _ (found_there c.paths.result.now c.args.path.now c.place_of.result c.place_of.ensures)
    ∙ ap (λ (ps : List Atoms). has_path ps c.args.path.now) c.paths.ensures.paths
