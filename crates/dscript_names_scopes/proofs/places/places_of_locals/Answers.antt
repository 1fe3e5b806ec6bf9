use Rattle.std.proofs.Common.{refl}
use Rattle.dscript_names_scopes.specs.declared.local.Local.{Local}
use Rattle.dscript_names_scopes.proofs.Placed.{place_put}
use Rattle.dscript_names_scopes.proofs.places.places_of_locals.Goals as goal

pub last-preserved : goal.last-preserved
last-preserved c = λ x.
    place_put (λ (y : Local). y.name) c.last.left.now c.in-Some.before.now c.in-Some.local.now x _ _ _ _
    c.in-Some.ensures.cases.0 refl (c.in_ok-put.ensures x) (c.last.invariant x)
