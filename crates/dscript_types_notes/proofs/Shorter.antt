-- The type of the shortest prefix of a name, by tables as by lists.
use Rattle.std.proofs.Common.{◌≡◌, ℕ, List, [], ◌∷◌, ◌++◌, Option, Some, None, length, reverse, inl, inr, ◌⊎◌, refl, ap, sym, ◌∙◌, arith}
use Rattle.std.specs.Option.{option_map, option_or}
use Rattle.dscript_program.specs.ProgramData.{DeclData, Dotted}
use Rattle.dscript_names_scopes.specs.Declarations.{is_any}
use Rattle.dscript_names_scopes.specs.Lookup.{beginnings}
use Rattle.dscript_names_scopes.proofs.Outwards.{outwards}
use Rattle.dscript_types_meaning.specs.Lookups.{Place, in_file, in_namespaces, shortest, type_in}
use Rattle.dscript_types_notes.specs.Found.{outwards_in}

-- where each name is found as elsewhere, so is the shortest prefix
pub same_shortest
    : {X : Type 0} (f g : Dotted → Option X) → ((d : Dotted) → f d ≡ g d) → (before written : Dotted)
    → shortest f before written ≡ shortest g before written
same_shortest f g same before [] = refl
same_shortest {X} f g same before (x ∷ names) =
    ap (λ (o : Option X). option_or (option_map (λ (found : X). (found, names)) o) (shortest f (before ++ x ∷ []) names))
    (same (before ++ x ∷ []))
    ∙ ap (option_or (option_map (λ (found : X). (found, names)) (g (before ++ x ∷ []))))
    (same_shortest f g same (before ++ x ∷ []) names)

or_nothing : {Y : Type 0} (o : Option Y) → option_or o None ≡ o
or_nothing None = refl
or_nothing (Some y) = refl

-- the whole name is the last of its prefixes
pub shortest_last
    : {X : Type 0} (f : Dotted → Option X) (before left rest : Dotted) (x : List ℕ) (whole : Option (X × Dotted)) → left ≡ x ∷ rest
    → length rest ≡ 0 → shortest f before left ≡ whole → option_map (λ (found : X). (found, rest)) (f (before ++ x ∷ [])) ≡ whole
shortest_last {X} f before left [] x whole split none is =
    sym (or_nothing (option_map (λ (found : X). (found, [])) (f (before ++ x ∷ [])))) ∙ ap (shortest f before) (sym split) ∙ is
shortest_last {X} f before left (y ∷ rest) x whole split none is = absurd (omega (arith, none))

-- a name of one part has no other prefix
pub shortest_alone
    : {X : Type 0} (f : Dotted → Option X) (name written : Dotted) → name ≡ written → length written ≡ 1
    → option_map (λ (found : X). (found, [])) (f name) ≡ shortest f [] written
shortest_alone {X} f name [] is l = absurd (omega (arith, l))
shortest_alone {X} f name (x ∷ []) is l =
    ap (λ (d : Dotted). option_map (λ (found : X). (found, [])) (f d)) is
    ∙ sym (or_nothing (option_map (λ (found : X). (found, [])) (f (x ∷ []))))
shortest_alone {X} f name (x ∷ y ∷ names) is l = absurd (omega (arith, l))

-- what is found first counts, and else the other
pub or_first : {Y : Type 0} (a b : Option Y) (y : Y) → Some y ≡ a → Some y ≡ option_or a b
or_first a b y e = ap (λ o. option_or o b) e

pub or_second : {Y : Type 0} (a b o : Option Y) → None ≡ a → o ≡ b → o ≡ option_or a b
or_second a b o none e = e ∙ ap (λ p. option_or p b) none

-- the place of a number in a file
abbrev pub placed : ℕ → Option ℕ → Option Place
placed file o = option_map (λ (decl : ℕ). (file, decl)) o

either_placed
    : (file : ℕ) (names : Dotted) (o : Option ℕ) (a : Option (Place × Dotted)) (b : Option (ℕ × Dotted)) → a ≡ in_file file b
    → option_or (option_map (λ (found : Place). (found, names)) (placed file o)) a
    ≡ in_file file (option_or (option_map (λ (found : ℕ). (found, names)) o) b)
either_placed file names None a b e = e
either_placed file names (Some k) a b e = refl

pub placed_shortest
    : (file : ℕ) (g : Dotted → Option ℕ) (before written : Dotted)
    → shortest (λ d. placed file (g d)) before written ≡ in_file file (shortest g before written)
placed_shortest file g before [] = refl
placed_shortest file g before (x ∷ names) =
    either_placed file names (g (before ++ x ∷ [])) _ _ (placed_shortest file g (before ++ x ∷ []) names)

either_in : (file : ℕ) (a b : Option (ℕ × Dotted)) → in_file file (option_or a b) ≡ option_or (in_file file a) (in_file file b)
either_in file None b = refl
either_in file (Some r) b = refl

-- in the namespaces outwards of a file
pub outwards_found
    : (file : ℕ) (f : Dotted → Option Place) (decls : List DeclData) (ds : List Dotted) (written : Dotted)
    → ((d : Dotted) → f d ≡ placed file (type_in is_any decls d))
    → outwards_in f ds written ≡ in_file file (in_namespaces decls ds written)
outwards_found file f decls [] written same = refl
outwards_found file f decls (b ∷ more) written same =
    ap (λ (o : Option (Place × Dotted)). option_or o (outwards_in f more written))
    (same_shortest f (λ d. placed file (type_in is_any decls d)) same b written
    ∙ placed_shortest file (type_in is_any decls) b written)
    ∙ ap (option_or (in_file file (shortest (type_in is_any decls) b written))) (outwards_found file f decls more written same)
    ∙ sym (either_in file (shortest (type_in is_any decls) b written) (in_namespaces decls more written))

-- ## Outwards

module _ (f : Dotted → Option Place) (written : Dotted) where
  abbrev pub out_from : Dotted → Option (Place × Dotted)
  out_from around = outwards_in f (reverse (beginnings around)) written

  out_first
      : (around outer : Dotted) (x : List ℕ) → around ≡ outer ++ x ∷ []
      → out_from around ≡ option_or (shortest f around written) (out_from outer)
  out_first around outer x e =
      ap out_from e ∙ ap (λ (ds : List Dotted). outwards_in f ds written) (outwards outer x)
      ∙ ap (λ (d : Dotted). option_or (shortest f d written) (out_from outer)) (sym e)

  -- nothing is found in the innermost namespaces
  pub out_further
      : (around outer : Dotted) (x : List ℕ) (whole : Option (Place × Dotted)) → around ≡ outer ++ x ∷ []
      → None ≡ shortest f around written → out_from around ≡ whole → out_from outer ≡ whole
  out_further around outer x whole e none is =
      ap (λ (o : Option (Place × Dotted)). option_or o (out_from outer)) none ∙ sym (out_first around outer x e) ∙ is

  -- nor in none of them
  or_none : (o : Option (Place × Dotted)) → option_or o None ≡ o
  or_none (Some r) = refl
  or_none None = refl

  pub out_nowhere
      : (around : Dotted) (whole : Option (Place × Dotted)) → around ≡ []
      → None ≡ shortest f around written → out_from around ≡ whole → None ≡ whole
  out_nowhere around whole e none is =
      none ∙ ap (λ (d : Dotted). shortest f d written) e ∙ sym (or_none (shortest f [] written)) ∙ sym (ap out_from e) ∙ is

  -- around what stands in no namespace there is the file alone
  pub out_alone : (around : Dotted) → around ≡ [] → out_from around ≡ shortest f [] written
  out_alone around e = ap out_from e ∙ or_none (shortest f [] written)

  -- what is found there comes first
  found_in_last : (around : Dotted) (o : Option (Place × Dotted)) (found : Place × Dotted)
      → o ≡ Some found → option_or o (out_from around) ≡ Some found
  found_in_last around o found e = ap (λ (p : Option (Place × Dotted)). option_or p (out_from around)) e

  split_or : (around : Dotted) → (around ≡ []) ⊎ ((outer : Dotted) × (x : List ℕ) × (around ≡ outer ++ x ∷ []))
  split_or [] = inl refl
  split_or (y ∷ ys) = inr (after y (split_or ys))
    where
      after : {ys : Dotted} (y : List ℕ) → (ys ≡ []) ⊎ ((outer : Dotted) × (x : List ℕ) × (ys ≡ outer ++ x ∷ []))
          → (outer : Dotted) × (x : List ℕ) × (y ∷ ys ≡ outer ++ x ∷ [])
      after y (inl e) = ([], y, ap (λ zs. y ∷ zs) e)
      after y (inr r) = (y ∷ r.0, r.1, ap (λ zs. y ∷ zs) r.2)

  pub out_here
      : (around : Dotted) (found : Place × Dotted) (whole : Option (Place × Dotted))
      → shortest f around written ≡ Some found → out_from around ≡ whole → Some found ≡ whole
  out_here around found whole e is = elim (split_or around) [
    | inl none ↦
        sym (ap (λ (d : Dotted). shortest f d written) (sym none) ∙ e) ∙ sym (or_none (shortest f [] written))
        ∙ sym (ap out_from none) ∙ is
    | inr last ↦ sym (out_first around last.0 last.1 last.2 ∙ found_in_last last.0 _ found e) ∙ is
  ]
