use Rattle.std.proofs.Common.{◌∷◌, ◌++◌, [], subst, sym, ◌∙◌}
use Rattle.std.proofs.lemmas.Bool.{false≢true}
use Rattle.bx_tree_paths.specs.Searches.{IsSlotOf}
use Rattle.bx_tree_paths.proofs.Counting.{took_both}
use Rattle.bx_tree_paths.proofs.Spans.{all_spanned, spanned}
use Rattle.bx_tree_paths.proofs.below.span_below.Goals as goal

pub returns-then-is_root-clause-span : goal.returns-then-is_root-clause-span
returns-then-is_root-clause-span g c =
    all_spanned g.T.HasPath.path_in c.args.dir.now c.args.items.now (c.is_root.ensures.root.0 c.if-is_root.true)

pub returns-clause-span : goal.returns-clause-span
returns-clause-span g c =
    let path = g.T.HasPath.path_in in
    let items = c.args.items.now in
    let text = c.as_bytes-text.ensures.value ∙ c.text.ensures.text in
    spanned path c.args.dir.now items c.slot_of-from.result.place c.slot_of-to.result.place c.slot_of-from.result.is_there c.slot_of-to.result.is_there
    (λ e. false≢true (sym c.if-is_root.false ∙ c.is_root.ensures.root.1 e))
    (subst (λ t. IsSlotOf path (t ++ 47 ∷ []) items c.slot_of-from.result.place c.slot_of-from.result.is_there) text c.slot_of-from.ensures.slot)
    (subst (λ t. IsSlotOf path (t ++ 48 ∷ []) items c.slot_of-to.result.place c.slot_of-to.result.is_there) text c.slot_of-to.ensures.slot)

pub returns-clause-cost : goal.returns-clause-cost
returns-clause-cost g c = took_both _ _ _ _ c.slot_of-from.ensures.cost c.slot_of-to.ensures.cost
