-- Lists from their ends.
use Rattle.std.proofs.Common.{◌≡◌, ℕ, false, List, [], ◌∷◌, ◌++◌, map, reverse, refl, ap, ◌∙◌, sym, cond, None, Some}
use Rattle.std.specs.List.{list_any}
use Rattle.std.specs.Option.{option_map, option_or}
use Rattle.std.specs.Str.{bytes_eq}
use Rattle.dscript_program.specs.Workspaces.{sdk_name}
use Rattle.dscript_program.specs.declared.target.Target.TheVariants as targets
use Rattle.dscript_names_scopes.specs.declared.found.Found.{Found}
use Rattle.dscript_names_scopes.specs.Declarations.{is_any}
use Rattle.std.proofs.lemmas.List.{reverse-append}
use Rattle.dscript_program.specs.ProgramData.{Dotted}
use Rattle.dscript_names_scopes.specs.Names.{FileNames, World}
use Rattle.dscript_names_scopes.specs.Lookup.{beginnings, has_namespace, in_namespaces, is_sdk_namespace, module_number, opens, shortest, value_in}

pub reverse_last : {X : Type 0} (xs : List X) (x : X) → reverse (xs ++ x ∷ []) ≡ x ∷ reverse xs
reverse_last xs x = reverse-append xs (x ∷ [])

map_last : (f : Dotted → Dotted) (ds : List Dotted) (d : Dotted) → map f (ds ++ d ∷ []) ≡ map f ds ++ f d ∷ []
map_last f [] d = refl
map_last f (e ∷ ds) d = ap (λ es. f e ∷ es) (map_last f ds d)

beginnings_last : (xs : Dotted) (x : List ℕ) → beginnings (xs ++ x ∷ []) ≡ beginnings xs ++ (xs ++ x ∷ []) ∷ []
beginnings_last [] x = refl
beginnings_last (y ∷ xs) x =
    ap (λ ds. [] ∷ map (λ d. y ∷ d) ds) (beginnings_last xs x)
    ∙ ap (λ ds. [] ∷ ds) (map_last (λ d. y ∷ d) (beginnings xs) (xs ++ x ∷ []))

-- the namespaces outwards from an inner one
pub outwards : (xs : Dotted) (x : List ℕ)
    → reverse (beginnings (xs ++ x ∷ [])) ≡ (xs ++ x ∷ []) ∷ reverse (beginnings xs)
outwards xs x = ap reverse (beginnings_last xs x) ∙ reverse_last (beginnings xs) (xs ++ x ∷ [])

pub none_open : (x : List ℕ) (files : List FileNames) → list_any (opens x None) files ≡ false
none_open x [] = refl
none_open x (f ∷ files) = none_open x files

pub no_namespace : (world : World) (name x : List ℕ) → bytes_eq name sdk_name ≡ false
    → module_number world name ≡ None → has_namespace world name x ≡ false
no_namespace world name x other none =
    ap (λ b. cond b (is_sdk_namespace x) (list_any (opens x (module_number world name)) world.files)) other
    ∙ ap (λ m. list_any (opens x m) world.files) none ∙ none_open x world.files

-- the last of the beginnings is the whole name
whole_last : (xs : Dotted) → (prefix : List Dotted) × (beginnings xs ≡ prefix ++ xs ∷ [])
whole_last [] = ([], refl)
whole_last (x ∷ xs) =
    let r = whole_last xs in (
      [] ∷ map (λ d. x ∷ d) r.0,
      ap (λ ds. [] ∷ map (λ d. x ∷ d) ds) r.1 ∙ ap (λ ds. [] ∷ ds) (map_last (λ d. x ∷ d) r.0 xs),
    )

-- what an inner namespace has comes first
pub found_here : (n : ℕ) (file : FileNames) (around written : Dotted) (found : Found)
    → Some found ≡ shortest (λ d. option_map (targets.Declared n) (value_in is_any file d)) 0 around written
    → in_namespaces n file (reverse (beginnings around)) written ≡ Some found
found_here n file around written found e =
    let r = whole_last around in
    ap (λ ds. in_namespaces n file ds written) (ap reverse r.1 ∙ reverse_last r.0 around)
    ∙ ap (λ o. option_or o (in_namespaces n file (reverse r.0) written)) (sym e)
