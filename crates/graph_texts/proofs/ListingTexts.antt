-- Paths with one listing are the same.
use Rattle.std.proofs.Common.{◌≡◌, ℕ, Bool, true, false, List, [], ◌∷◌, ◌++◌, refl}
use Rattle.bx_tree.specs.Paths.{Atoms, path_text}
use Rattle.prints.specs.PartForms.{newline, path_form}
use Rattle.prints.specs.Parts.{path_part}
use Rattle.prints.proofs.LineLists.{lines_form}
use Rattle.graph_texts.specs.Listings.{ArePaths, listing_text}
use Rattle.graph_texts.proofs.OneText.{one_value}

-- whether there is any byte
abbrev is_some_text : List ℕ → Bool
is_some_text [] = false
is_some_text (b ∷ bs) = true

some_path : (path : Atoms) (rest : List ℕ) → is_some_text (path_part 10 path ++ rest) ≡ true
some_path path rest = by_text (path_text path)
  where
    by_text : (text : List ℕ) → is_some_text ((text ++ 10 ∷ []) ++ rest) ≡ true
    by_text [] = refl
    by_text (b ∷ bs) = refl

pub same_paths : (p q : List Atoms) → ArePaths p → ArePaths q → listing_text p ≡ listing_text q → p ≡ q
same_paths p q g h e = one_value (lines_form is_some_text (path_form 10 newline) some_path refl) refl p q g h e
