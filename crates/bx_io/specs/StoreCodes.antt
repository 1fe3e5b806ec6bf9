-- How what contracts see of an in-memory store is stored.
use Rattle.std.specs.Prelude.{◌≡◌, ℕ, List, Option, Some, None, refl}
use Rattle.std.specs.Coded.{Coded, code_by, coded×, coded_ℕ, coded_list, coded_option}
use Rattle.std.specs.FinMap as map
use Rattle.bx_io.specs.Holdings.{Holdings, Change, StoreState, Put, Drop}
use Rattle.bx_io.specs.Numbered.{Script}

abbrev pub holdings_code : Coded Holdings
holdings_code = map.code (coded_list coded_ℕ) (coded_list coded_ℕ)

-- a change as its name, and the bytes of a put
abbrev pub parts : Change → List ℕ × Option (List ℕ)
parts (Put name bytes) = (name, Some bytes)
parts (Drop name) = (name, None)

abbrev pub with_parts : List ℕ → Option (List ℕ) → Change
with_parts name (Some bytes) = Put name bytes
with_parts name None = Drop name

pub with_parts-parts : (change : Change) → with_parts (parts change).0 (parts change).1 ≡ change
with_parts-parts (Put name bytes) = refl
with_parts-parts (Drop name) = refl

abbrev pub changes_code : Coded (List Change)
changes_code =
    coded_list (code_by (List ℕ × Option (List ℕ))
    (coded× (coded_list coded_ℕ) (coded_option (coded_list coded_ℕ)))
    parts (λ p. with_parts p.0 p.1) with_parts-parts)

abbrev pub state_code : Coded StoreState
state_code =
    code_by (Holdings × List Change) (coded× holdings_code changes_code) (λ k. (k.held, k.changes))
    (λ p. record { held = p.0; changes = p.1 }) (λ _. refl)

abbrev pub script_code : Coded Script
script_code =
    code_by (List ℕ × (ℕ × ℕ)) (coded× (coded_list coded_ℕ) (coded× coded_ℕ coded_ℕ))
    (λ s. (s.failing, (s.calls, s.faults))) (λ p. record { failing = p.0; calls = p.1.0; faults = p.1.1 })
    (λ _. refl)
