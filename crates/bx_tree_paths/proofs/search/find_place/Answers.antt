use Rattle.std.proofs.Common.{◌++◌, [], subst, ◌∙◌}
use Rattle.bx_tree.specs.Paths.{IsPath}
use Rattle.bx_tree_paths.specs.Searches.{IsSlotOf}
use Rattle.bx_tree_paths.proofs.Found.{item_found, true_from_not}
use Rattle.bx_tree_paths.proofs.search.find_place.Goals as goal

pub returns-clause-place : goal.returns-clause-place
returns-clause-place g c =
    let path = g.T.HasPath.path_in in
    let items = c.args.items.now in
    let place = c.slot_of-slot.result.place in
    let b = c.slot_of-slot.result.is_there in
    item_found path items c.args.path.now place b c.index-items-slot.result
    (subst (λ t. IsSlotOf path (t ++ []) items place b) (c.as_bytes.ensures.value ∙ c.text.ensures.text) c.slot_of-slot.ensures.slot)
    (true_from_not b c.if-not-slot.false) c.index-items-slot.is (subst IsPath c.path.ensures c.text-2.ensures.is_path) c.text.ensures.is_path
