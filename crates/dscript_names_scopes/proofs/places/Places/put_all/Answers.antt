use Rattle.std.proofs.Common.{◌<◌, ◌+◌, ◌∷◌, ◌++◌, ℕ, List, Some, [], arith, ap, length, sym, take, ◌∙◌}
use Rattle.std.proofs.lemmas.List.{take_more}
use Rattle.dscript_names_scopes.proofs.Placed.{one_more}
use Rattle.dscript_names_scopes.proofs.places.Places.put_all.Goals as goal

pub names-preserved : goal.names-preserved
names-preserved c = λ x.
    let names = c.args.names.now in
    let i = c.names.name-index in
    let name = c.name-item.result in
    let within : i < length names = omega arith in
    one_more x name (take i names) (take (i + 1) names) (Some c.args.place) _ _ _
    (take_more names i name within ∙ ap (λ (n : List ℕ). take i names ++ n ∷ []) (sym c.name-item.is))
    (c.names.invariant x) (c.in_ok-put.ensures x)
