-- What equal pairs say of their parts.
use Rattle.std.proofs.Common.{◌≡◌, Option, Some, Result, Ok, ap}

pub some_pair
    : {X Y : Type 0} (a c : X) (b d : Y) → ◌≡◌ {A = Option (X × Y)} (Some (a, b)) (Some (c, d)) → (a ≡ c) × (b ≡ d)
some_pair {X} {Y} a c b d e =
    let same : ◌≡◌ {A = X × Y} (a, b) (c, d) = cc in
    (ap (λ (r : X × Y). r.0) same, ap (λ (r : X × Y). r.1) same)

pub ok_pair
    : {X Y E : Type 0} (a c : X) (b d : Y) → ◌≡◌ {A = Result (X × Y) E} (Ok (a, b)) (Ok (c, d)) → (a ≡ c) × (b ≡ d)
ok_pair {X} {Y} {E} a c b d e =
    let same : ◌≡◌ {A = X × Y} (a, b) (c, d) = cc in
    (ap (λ (r : X × Y). r.0) same, ap (λ (r : X × Y). r.1) same)

pub ok_same : {X E : Type 0} (a b : X) → ◌≡◌ {A = Result X E} (Ok a) (Ok b) → a ≡ b
ok_same {X} {E} a b e = cc
