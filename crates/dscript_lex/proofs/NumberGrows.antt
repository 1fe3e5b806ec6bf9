-- A number grows with its digits.
use Rattle.std.proofs.Common.{◌≡◌, ℕ, ◌+◌, ◌*◌, ◌<◌, ◌≤◌, cond, List, [], ◌∷◌, length, get_or, drop, Some, None, ap, arith}
use Rattle.std.proofs.lemmas.List.{drop_more}
use Rattle.std.proofs.lemmas.Bool.{lt-leb}
use Rattle.dscript_lex.specs.declared.limits.TheConstants.{MAX_NUMBER}
use Rattle.dscript_lex.specs.Bytes.{digit_value}
use Rattle.dscript_lex.specs.Lexemes.{value_after, at_most_max}

grows_once : (base m d : ℕ) → 1 ≤ base → m ≤ base * m + d
grows_once base m d le = grind arith

pub grows : (base m : ℕ) (ds : List ℕ) → 1 ≤ base → m ≤ value_after base m ds
grows base m [] le = omega arith
grows base m (d ∷ ds) le = omega (arith, grows_once base m (digit_value d) le, grows base (base * m + digit_value d) ds le)

-- a number that is too large already stays so
pub too_large : (base m : ℕ) (ds : List ℕ) → 1 ≤ base → MAX_NUMBER < m → at_most_max (Some (value_after base m ds)) ≡ None
too_large base m ds le above =
    ap (λ t. cond t (Some (value_after base m ds)) None) (lt-leb (value_after base m ds) MAX_NUMBER (omega (arith, grows base m ds le)))

pub value_more : (base m : ℕ) (ds : List ℕ) (i : ℕ) → i < length ds → value_after base m (drop i ds) ≡ value_after base (base * m + digit_value (get_or ds i 0)) (drop (i + 1) ds)
value_more base m ds i lt = ap (value_after base m) (drop_more ds i 0 lt)
