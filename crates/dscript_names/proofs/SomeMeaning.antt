-- A result is one of its two cases.
use Rattle.std.proofs.Common.{◌≡◌, ◌⊎◌, inl, inr, Result, Ok, Err, refl}

pub ok_or_err : {A B : Type 0} (r : Result A B) → ((x : A) × (r ≡ Ok x)) ⊎ ((y : B) × (r ≡ Err y))
ok_or_err (Ok x) = inl (x, refl)
ok_or_err (Err y) = inr (y, refl)
