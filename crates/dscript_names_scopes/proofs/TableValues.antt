-- What is found by tables is what is found in lists.
use Rattle.std.proofs.Common.{◌≡◌, ℕ, ◌+◌, [], ◌∷◌, ◌++◌, Option, None, length, refl, ap, ◌∙◌}
use Rattle.std.proofs.lemmas.List.{nil_from_length}
use Rattle.std.specs.BTreeMap.{BTreeMap, is_at}
use Rattle.std.specs.Map.{lookup}
use Rattle.std.specs.Option.{option_map, option_or}
use Rattle.dscript_program.specs.ProgramData.{Dotted}
use Rattle.dscript_program.specs.declared.target.Target.{Target}
use Rattle.dscript_names_scopes.specs.Lookup.{shortest}
use Rattle.dscript_names_scopes.specs.Orders.{name_cmp}
use Rattle.dscript_names_scopes.specs.Tables.{at_name}

pub none_in : (table : BTreeMap Dotted Target) (name : Dotted) → length table.entries ≡ 0 → at_name table name ≡ None
none_in table name e = ap (λ es. lookup (is_at (name_cmp name)) es) (nil_from_length table.entries e)

-- a name is found nowhere where nothing is
pub none_shortest : (target_of : Dotted → Option Target) → ((d : Dotted) → target_of d ≡ None)
    → (parts : ℕ) (before names : Dotted) → shortest target_of parts before names ≡ None
none_shortest target_of none parts before [] = refl
none_shortest target_of none parts before (x ∷ names) =
    let further = shortest target_of (parts + 1) (before ++ x ∷ []) names in
    ap (λ o. option_or (option_map (λ t. record { target = t; parts = parts }) o) further)
    (none (before ++ x ∷ []))
    ∙ none_shortest target_of none (parts + 1) (before ++ x ∷ []) names

-- where each name stands for what it stands for elsewhere, its shortest prefix is found as there
pub same_shortest : (f g : Dotted → Option Target) → ((d : Dotted) → f d ≡ g d)
    → (parts : ℕ) (before names : Dotted) → shortest f parts before names ≡ shortest g parts before names
same_shortest f g same parts before [] = refl
same_shortest f g same parts before (x ∷ names) =
    let further = shortest f (parts + 1) (before ++ x ∷ []) names in
    ap (λ o. option_or (option_map (λ t. record { target = t; parts = parts }) o) further) (same (before ++ x ∷ []))
    ∙ ap (λ o. option_or (option_map (λ t. record { target = t; parts = parts }) (g (before ++ x ∷ []))) o)
    (same_shortest f g same (parts + 1) (before ++ x ∷ []) names)
