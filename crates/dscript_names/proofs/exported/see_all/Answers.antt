use Rattle.std.proofs.Common.{◌||◌, arith, ap, sym, ◌∙◌}
use Rattle.std.specs.List.{list_any}
use Rattle.std.specs.Vec.Iter.{into_iter_items}
use Rattle.bx_tree.specs.Paths.{same_path}
use Rattle.bx_tree.proofs.Lists.{none_left}
use Rattle.dscript_names.specs.Exports.{seen_in}
use Rattle.dscript_names.proofs.SeenNames.{all_seen_more}
use Rattle.dscript_names.proofs.exported.see_all.Goals as goal

pub names-init : goal.names-init
names-init c =
    (tt, tt, λ q. ap (λ ds. list_any (λ x. same_path x q) ds || seen_in c.args.seen.now q) c.into_iter-name-iterator.ensures.into_iter_gives.0)

pub names-preserved : goal.names-preserved
names-preserved c =
    (tt, tt, λ q. all_seen_more q c.in-Some.name _ _ _ _ (seen_in c.args.seen.now q) (list_any (λ x. same_path x q) c.args.names.items) c.in-Some.ensures.steps.0 (c.in_ok-see.ensures.added q) (c.names.invariant.2 q))

pub returns : goal.returns
returns c =
    let none = none_left (into_iter_items c.names.name-iterator) (omega (arith, c.in-None.ensures.steps.0, c.names.name-iterator.rest.ok.0)) in
    λ q. ap (λ ds. list_any (λ x. same_path x q) ds || seen_in c.names.seen q) (sym none) ∙ c.names.invariant.2 q
