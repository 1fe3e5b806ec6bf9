use Rattle.std.proofs.Common.{◌≡◌, ◌||◌}
use Rattle.std.specs.List.{list_any}
use Rattle.std.specs.Vec.Iter.{into_iter_items}
use Rattle.bx_tree.specs.Paths.{same_path}
use Rattle.dscript_program.specs.ProgramData.{Dotted}
use Rattle.dscript_names.specs.Exports.{seen_in}
use Rattle.dscript_names.proofs.exported.see_all.Given as goal

abbrev pub invariant-names : goal.invariant-names
invariant-names l =
    (goal.iterator-names).can_next l.name-iterator
    × (goal.iterator-names).is_finite l.name-iterator
    × ((q : Dotted) → (list_any (λ x. same_path x q) (into_iter_items l.name-iterator) || seen_in l.seen q)
    ≡ (list_any (λ x. same_path x q) l.fn.names.items || seen_in l.initial.seen q))
