-- The last access, by its place.
use Rattle.std.proofs.Common.{◌≡◌, ◌-◌, List, [], ◌∷◌, length, refl, ap, sym, ◌∙◌, suc, arith}
use Rattle.std.specs.Prelude.{slice_get}
use Rattle.observed.specs.declared.access.Access.{Access}
use Rattle.run_record.specs.Outcomes.{last_access}

pub last_is : (xs : List Access) → last_access xs ≡ slice_get xs (length xs - 1)
last_is [] = refl
last_is (x ∷ []) = refl
last_is (x ∷ y ∷ rest) =
    let one : length (y ∷ rest) - 1 ≡ length rest = omega arith in
    let two : length (x ∷ y ∷ rest) - 1 ≡ suc (length rest) = omega arith in
    last_is (y ∷ rest) ∙ ap (slice_get (y ∷ rest)) one ∙ sym (ap (slice_get (x ∷ y ∷ rest)) two)
