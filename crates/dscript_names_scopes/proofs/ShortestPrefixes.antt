-- The shortest prefix of a dotted name that stands for something, prefix by prefix.
use Rattle.std.proofs.Common.{◌≡◌, ℕ, ◌+◌, List, [], ◌∷◌, ◌++◌, Option, Some, None, ap, ◌∙◌}
use Rattle.std.specs.Option.{option_or, option_map}
use Rattle.dscript_program.specs.ProgramData.{Dotted}
use Rattle.dscript_program.specs.declared.target.Target.{Target}
use Rattle.dscript_names_scopes.specs.Lookup.{shortest}
use Rattle.dscript_names_scopes.specs.declared.found.Found.{Found}

module _ (target_of : Dotted → Option Target) (parts : ℕ) (before names : Dotted) (x : List ℕ) (rest : Dotted) (is : names ≡ x ∷ rest) where
  first_then : (t : Option Target) → target_of (before ++ x ∷ []) ≡ t
      → shortest target_of parts before names ≡ option_or (option_map (λ t. record { target = t; parts = parts }) t) (shortest target_of (parts + 1) (before ++ x ∷ []) rest)
  first_then t e =
      ap (shortest target_of parts before) is
      ∙ ap (λ (o : Option Target). option_or (option_map (λ t. record { target = t; parts = parts }) o) (shortest target_of (parts + 1) (before ++ x ∷ []) rest)) e

  -- the prefix of one part stands for something
  pub shortest_here : (t : Target) → target_of (before ++ x ∷ []) ≡ Some t → shortest target_of parts before names ≡ Some (record { target = t; parts = parts })
  shortest_here t e = first_then (Some t) e

  -- it stands for nothing
  pub shortest_later : target_of (before ++ x ∷ []) ≡ None → shortest target_of parts before names ≡ shortest target_of (parts + 1) (before ++ x ∷ []) rest
  shortest_later e = first_then None e
