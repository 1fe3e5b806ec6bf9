-- A path's text decides whether a glob lists the path.
use Rattle.std.proofs.Common.{◌≡◌, ◌≢◌, ℕ, ◌<◌, ◌+◌, Bool, false, cond, ◌&&◌, List, [], ◌∷◌, ◌++◌, length, get_or, take, filter, Option, Some, None, refl, ap, ◌∙◌, arith}
use Rattle.std.specs.List.{AllByRecursion, slice_split}
use Rattle.std.specs.Option.{option_map_or}
use Rattle.std.proofs.lemmas.List.{take_more}
use Rattle.std.proofs.lemmas.List.Elements.{filter-append}
use Rattle.std.proofs.lemmas.List.Splits.{length-slice_split}
use Rattle.bx_tree.specs.declared.tree_file.TreeFile.{TreeFile}
use Rattle.bx_tree.specs.Below.{strip_dir}
use Rattle.bx_tree.specs.Paths.{Atoms, IsBelow}
use Rattle.bx_tree.specs.Trees.{paths_of}
use Rattle.bx_tree.specs.Views.{files_of}
use Rattle.bx_tree.proofs.AtomsBelow.{split_first}
use Rattle.bx_tree.proofs.BelowPaths.{strip_dir_is}
use Rattle.bx_tree.proofs.PathTexts.{is_slash}
use Rattle.bx_path.specs.Globbing.{glob_of, is_hit, last_is_match}

-- ## The last part of a text

last_of_more : (pattern : List ℕ) (deep : Bool) (a : List ℕ) (parts : Atoms) → 0 < length parts
    → last_is_match pattern deep (a ∷ parts) ≡ (deep && last_is_match pattern deep parts)
last_of_more pattern deep a [] l = absurd (omega (arith, l))
last_of_more pattern deep a (b ∷ bs) l = refl

pub last_after_first : (pattern : List ℕ) (deep : Bool) (text prefix after : List ℕ) → text ≡ prefix ++ 47 ∷ after → AllByRecursion (λ b. b ≢ 47) prefix
    → last_is_match pattern deep (slice_split is_slash text) ≡ (deep && last_is_match pattern deep (slice_split is_slash after))
last_after_first pattern deep text prefix after e h =
    ap (last_is_match pattern deep) (split_first text prefix after e h)
    ∙ last_of_more pattern deep prefix (slice_split is_slash after) (omega (arith, length-slice_split is_slash after))

-- ## What is no hit

-- what is not below the directory is no hit
no_hit : (dir path : Atoms) (pattern : List ℕ) (deep : Bool) (o : Option Atoms) → strip_dir dir path ≡ o → (IsBelow path dir → ⊥)
    → option_map_or (last_is_match pattern deep) o false ≡ false
no_hit dir path pattern deep None e n = refl
no_hit dir path pattern deep (Some []) e n = refl
no_hit dir path pattern deep (Some (a ∷ as')) e n = absurd (n (a ∷ as', (λ z. cc), strip_dir_is dir path (a ∷ as') e))

pub not_below : (dir path : Atoms) (pattern : List ℕ) (deep : Bool) → (IsBelow path dir → ⊥) → is_hit dir pattern deep path ≡ false
not_below dir path pattern deep n = no_hit dir path pattern deep (strip_dir dir path) refl n

-- ## One file more

paths-push : (fs : List TreeFile) (f : TreeFile) → paths_of (files_of (fs ++ f ∷ [])) ≡ paths_of (files_of fs) ++ f.path ∷ []
paths-push [] f = refl
paths-push (g ∷ gs) f = ap (λ ps. g.path ∷ ps) (paths-push gs f)

pub glob_more : (fs : List TreeFile) (i : ℕ) (d : TreeFile) (dir : Atoms) (pattern : List ℕ) (deep : Bool) → i < length fs
    → glob_of (files_of (take (i + 1) fs)) dir pattern deep
    ≡ glob_of (files_of (take i fs)) dir pattern deep ++ cond (is_hit dir pattern deep (get_or fs i d).path) ((get_or fs i d).path ∷ []) []
glob_more fs i d dir pattern deep l =
    ap (λ gs. filter (is_hit dir pattern deep) (paths_of (files_of gs))) (take_more fs i d l)
    ∙ ap (filter (is_hit dir pattern deep)) (paths-push (take i fs) (get_or fs i d))
    ∙ filter-append (is_hit dir pattern deep) (paths_of (files_of (take i fs))) ((get_or fs i d).path ∷ [])
