-- Files of lists that are gathered one by one.
use Rattle.std.proofs.Common.{◌≡◌, ◌<◌, ◌+◌, ℕ, Bool, true, false, cond, List, [], ◌∷◌, ◌++◌, Option, Some, None, length, map, drop, get_or, ap, ◌∙◌}
use Rattle.std.specs.Prelude.{option_and_then}
use Rattle.std.specs.declared.alloc.Global.{Global}
use Rattle.std.specs.declared.vec.Vec.{Vec}
use Rattle.bx_tree.specs.Paths.{Atoms}
use Rattle.bx_tree.specs.Trees.{Files}
use Rattle.dscript_names_workspace.specs.Lists.{concat_if_all}
use Rattle.dscript_names_workspace.specs.Paths.{paths_at}
use Rattle.dscript_names_workspace.specs.ConfigViews.{ArePlaces, HasPlaces}
use Rattle.dscript_names_workspace.proofs.JoinedLists.{after, joined-none, joined-step}
use Rattle.dscript_names_workspace.proofs.ListedFiles.{places_joined}

-- some files are gathered, and the rest follows
abbrev pub IsGathered : Files → Option (List Atoms) → List ℕ → Option (List Atoms) → Type 0
IsGathered files whole positions rest =
    (before : List Atoms) × (whole ≡ after before rest) × ArePlaces files before positions

pub gathered_next : {A X : Type 0} (files : Files) (f : X → Option (List Atoms)) (view : A → X) (items : List A) (i : ℕ)
    (item : A) (whole : Option (List Atoms)) (before more after' : List ℕ) → i < length items → item ≡ get_or items i item
    → IsGathered files whole before (concat_if_all f (map view (drop i items)))
    → (paths : List Atoms) × (f (view item) ≡ Some paths) × ArePlaces files paths more
    → ArePlaces files (paths_at files before ++ paths_at files more) after'
    → IsGathered files whole after' (concat_if_all f (map view (drop (i + 1) items)))
gathered_next files f view items i item whole before more after' l is h k all = (
  h.0 ++ k.0,
  joined-step f view items i item whole h.0 k.0 l is h.1 k.1,
  places_joined files h.0 k.0 before more after' h.2 k.2 all,
)

pub gathered_none : {A X : Type 0} (files : Files) (f : X → Option (List Atoms)) (view : A → X) (items : List A) (i : ℕ)
    (item : A) (whole : Option (List Atoms)) (before : List ℕ) → i < length items → item ≡ get_or items i item
    → IsGathered files whole before (concat_if_all f (map view (drop i items))) → f (view item) ≡ None → whole ≡ None
gathered_none files f view items i item whole before l is h k =
    joined-none f view items i item whole h.0 l is h.1 k

-- ## Tests of all files

abbrev pub tested : (List Atoms → Bool) → (List Atoms → List Atoms) → Option (List Atoms) → Option (List Atoms)
tested test g o = option_and_then (λ paths. cond (test paths) (Some (g paths)) None) o

pub tested_some : (test : List Atoms → Bool) (g : List Atoms → List Atoms) (o : Option (List Atoms)) (paths : List Atoms)
    → o ≡ Some paths → test paths ≡ true → tested test g o ≡ Some (g paths)
tested_some test g o paths e t =
    ap (tested test g) e ∙ ap (λ b. cond b (Some (g paths)) None) t

pub tested_none : (test : List Atoms → Bool) (g : List Atoms → List Atoms) (o : Option (List Atoms)) (paths : List Atoms)
    → o ≡ Some paths → test paths ≡ false → tested test g o ≡ None
tested_none test g o paths e t =
    ap (tested test g) e ∙ ap (λ b. cond b (Some (g paths)) None) t
