-- The least pip that can produce a path, where some of the pips were tried.
use Rattle.std.specs.Prelude.{◌≡◌, ℕ, ◌<◌, ◌≤◌, Bool, true, false, ◌&&◌, not, ◌==◌, nat_lt}
use Rattle.std.specs.Prelude.{List, take, get_or, slice_get, Contains, Option, Some, None, IfSome}
use Rattle.std.specs.Prelude.{if◌then◌else◌}
use Rattle.std.specs.Option.{option_map_or}
use Rattle.bx_tree.specs.Paths.{Atoms}
use Rattle.pip_model_types.specs.declared.dir_inputs.DirInput.{DirInput}
use Rattle.pip_model_types.specs.declared.pip.Pip.{Pip}
use Rattle.pip_model.specs.Outputs.{numbers_from}
use Rattle.violations.specs.Producing.{produces_unseen}

-- whether pip j is another than pip i, and can produce the path by an output that is not among those
-- directories
abbrev pub is_producer : List DirInput → ℕ → Atoms → List Pip → ℕ → Bool
is_producer dirs i path pips j =
    option_map_or (λ (pip : Pip). not (j == i) && produces_unseen dirs j path pip.kind)
    (slice_get pips j) false

-- whether the number is less than what was found, if anything was
abbrev pub is_less : ℕ → Option ℕ → Bool
is_less j None = true
is_less j (Some least) = nat_lt j least

-- the number, if it passes the test and is less than what was found, or else what was found
abbrev pub least_with : (ℕ → Bool) → ℕ → Option ℕ → Option ℕ
least_with test j found = if is_less j found && test j then Some j else found

-- what was found is not greater than the number
abbrev pub IsAtMost : Option ℕ → ℕ → Type 0
IsAtMost None j = ⊥
IsAtMost (Some least) j = least ≤ j

-- what was found passes the test, if anything was found
abbrev pub Passes : (ℕ → Bool) → Option ℕ → Type 0
Passes test found = IfSome found (λ j. test j ≡ true)

-- what is found now is not greater than what was found before
abbrev pub Stays : Option ℕ → Option ℕ → Type 0
Stays before now = (j : ℕ) → IsAtMost before j → IsAtMost now j

-- what was found is not greater than any of these numbers that passes the test
abbrev pub Covers : (ℕ → Bool) → List ℕ → Option ℕ → Type 0
Covers test numbers found = (j : ℕ) → Contains numbers j → test j ≡ true → IsAtMost found j

-- what was found is not greater than any pip that passes the test and has an output whose path's text is what
-- precedes one of the slashes among the first bytes of a text
abbrev pub CoversAbove : (ℕ → Bool) → List Pip → List ℕ → ℕ → Option ℕ → Type 0
CoversAbove test pips text count found =
    (k : ℕ) → k < count → get_or text k 0 ≡ 47 → Covers test (numbers_from 0 (take k text) pips) found
