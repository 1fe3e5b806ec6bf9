-- Positions of files, one after the other.
use Rattle.std.proofs.Common.{◌≡◌, ◌<◌, ◌+◌, ℕ, suc, zero, Bool, true, false, Option, Some, List, [], ◌∷◌, ◌++◌, length, drop, take, get_or, refl, ap, sym, ◌∙◌, subst, arith}
use Rattle.std.specs.Prelude.{◌&&◌, ◌||◌, MatchOption}
use Rattle.std.specs.List.{list_all}
use Rattle.std.proofs.Math.Seq.{drop-cons, take-suc}
use Rattle.std.proofs.lemmas.List.{length-map}
use Rattle.bx_tree.specs.Paths.{Atoms, has_path, same_path}
use Rattle.bx_tree.specs.Orders.{same_path_decides}
use Rattle.bx_tree.specs.Trees.{Files, paths_of}
use Rattle.dscript_names_workspace.specs.Paths.{AreWithin, IsAt, is_source, paths_at}

pub paths_at-append : (files : Files) (ps qs : List ℕ) → paths_at files (ps ++ qs) ≡ paths_at files ps ++ paths_at files qs
paths_at-append files [] qs = refl
paths_at-append files (p ∷ ps) qs = ap (λ paths. get_or (paths_of files) p [] ∷ paths) (paths_at-append files ps qs)

pub within-append : (files : Files) (ps qs : List ℕ) → AreWithin files ps → AreWithin files qs → AreWithin files (ps ++ qs)
within-append files [] qs h k = k
within-append files (p ∷ ps) qs h k = (h.0, within-append files ps qs h.1 k)

among-at : (paths : List Atoms) (i : ℕ) (path : Atoms) → i < length paths → get_or paths i [] ≡ path
    → has_path paths path ≡ true
among-at [] i path l e = absurd (omega (arith, l))
among-at (p ∷ ps) zero path l e =
    ap (λ b. b || has_path ps path) ((same_path_decides p path).1 e)
among-at (p ∷ ps) (suc i) path l e =
    ap (λ b. same_path p path || b) (among-at ps i path (omega arith) e) ∙ or_true (same_path p path)
  where
    or_true : (b : Bool) → (b || true) ≡ true
    or_true b = elim b as (λ v. (v || true) ≡ true) [ true ↦ refl | false ↦ refl ]

-- the path at a position is that of a source file
pub source-at : (files : Files) (i : ℕ) (path : Atoms) → IsAt files i path → is_source files path ≡ true
source-at files i path h =
    among-at (paths_of files) i path (subst (λ n. i < n) (sym (length-map files (λ f. f.0))) h.0) h.1

-- the paths up to a position, and the path there
pub taken-next : (files : Files) (paths : List Atoms) (i : ℕ) (path : Atoms) (ps : List ℕ) (p : ℕ) → i < length paths
    → path ≡ get_or paths i path → paths_at files ps ≡ take i paths → IsAt files p path
    → paths_at files (ps ++ p ∷ []) ≡ take (i + 1) paths
taken-next files paths i path ps p l is e at =
    paths_at-append files ps (p ∷ []) ∙ ap (λ before. before ++ get_or (paths_of files) p [] ∷ []) e
    ∙ ap (λ path. take i paths ++ path ∷ []) (at.1 ∙ is)
    ∙ sym (take-suc paths i path l) ∙ ap (λ n. take n paths) (let n : suc i ≡ i + 1 = omega arith in n)

-- a path that is that of a source file decides nothing
pub tested-next : (files : Files) (paths : List Atoms) (i : ℕ) (path : Atoms) (p : ℕ) → i < length paths
    → path ≡ get_or paths i path → IsAt files p path
    → list_all (is_source files) (drop (i + 1) paths) ≡ list_all (is_source files) (drop i paths)
tested-next files paths i path p l is at =
    ap (λ n. list_all (is_source files) (drop n paths)) (let n : i + 1 ≡ suc i = omega arith in n)
    ∙ ap (λ b. b && list_all (is_source files) (drop (suc i) paths)) (sym (ap (is_source files) (sym is) ∙ source-at files p path at))
    ∙ ap (list_all (is_source files)) (sym (drop-cons paths i path l))

-- what is said of an option that is there
pub at_some : {X : Type 0} (o : Option X) (x : X) (P : Type 0) (Q : X → Type 0) → o ≡ Some x → MatchOption o P Q → Q x
at_some o x P Q e h = subst (λ z. MatchOption z P Q) e h
