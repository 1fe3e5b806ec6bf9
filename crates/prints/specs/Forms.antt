-- Forms: what is written of a value is read back as it, and what is read is written so.
use Rattle.std.specs.Prelude.{◌≡◌, ℕ, List, ◌++◌, Some}
use Rattle.prints.specs.Reading.{Taken}

-- what may follow a part that ends by itself
abbrev pub Anything : List ℕ → Type 0
Anything text = Unit {0}

-- The values that are `Good` are written by `write` and read by `read`, where what `Follows` comes after.
pub record IsForm {X : Type 0} (Good : X → Type 0) (Follows : List ℕ → Type 0) (write : X → List ℕ)
    (read : List ℕ → Taken X) : Type 0 where
  pub good : (text : List ℕ) (taken : X × List ℕ) → read text ≡ Some taken → Good taken.0
  pub written : (text : List ℕ) (taken : X × List ℕ) → read text ≡ Some taken
      → text ≡ write taken.0 ++ taken.1
  pub again : (x : X) (rest : List ℕ) → Good x → Follows rest → read (write x ++ rest) ≡ Some (x, rest)
