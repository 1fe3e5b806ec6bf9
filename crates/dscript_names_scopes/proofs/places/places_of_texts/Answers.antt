use Rattle.std.proofs.Common.{ℕ, List, refl}
use Rattle.dscript_names_scopes.proofs.Placed.{place_put}
use Rattle.dscript_names_scopes.proofs.places.places_of_texts.Goals as goal

pub last-preserved : goal.last-preserved
last-preserved c = λ x.
    place_put (λ (y : List ℕ). y) c.last.left.now c.in-Some.before.now c.in-Some.text.now x _ _ _ _
    c.in-Some.ensures.cases.0 refl (c.in_ok-put.ensures x) (c.last.invariant x)
