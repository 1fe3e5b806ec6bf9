-- Sets of paths, and lists of files by directory, as contracts see them.
use Rattle.std.specs.Prelude.{◌≡◌, ℕ, Bool, true, false, not, ◌&&◌, if◌then◌else◌}
use Rattle.std.specs.Prelude.{List, [], ◌∷◌, ◌++◌, Option, Some, None}
use Rattle.std.specs.declared.alloc.Global.{Global}
use Rattle.std.specs.declared.vec.Vec.{Vec}
use Rattle.std.specs.BTreeMap.{BTreeMap, get}
use Rattle.std.specs.BTreeSet.{BTreeSet, contains}
use Rattle.std.specs.Bool.{MatchBool}
use Rattle.std.specs.Borrow.{Bor}
use Rattle.std.specs.Cmp.Lexicographic.{slice_cmp}
use Rattle.std.specs.Ordering.{nat_cmp}
use Rattle.std.specs.Option.{option_map_or}
use Rattle.bx_tree.specs.Paths.{Atoms, path_cmp, same_path}
use Rattle.dscript_names_workspace.specs.Paths.{is_module_file, is_specification}
use Rattle.bx_tree.specs.Below.{is_below}
use Rattle.dscript_names_workspace.specs.Membership.{is_config}

-- the set has the path
abbrev pub has : BTreeSet Atoms → Atoms → Bool
has set path = contains path_cmp set path

-- lists of files, by directory
abbrev pub FilesByDir : Type 0
FilesByDir = BTreeMap Atoms (Vec Atoms Global)

-- the files of a directory
abbrev pub files_in : FilesByDir → Atoms → List Atoms
files_in files dir = option_map_or (λ own. own.items) (get path_cmp files dir) []

-- the deepest directory that the test holds of and that the path lies below, if there is one
abbrev pub IsDeepest : (Atoms → Bool) → Atoms → Option Atoms → Type 0
IsDeepest test path None = (dir : Atoms) → test dir ≡ true → is_below path dir ≡ false
IsDeepest test path (Some deepest) =
    (test deepest ≡ true) × (is_below path deepest ≡ true)
    × ((dir : Atoms) → test dir ≡ true → (is_below dir deepest && is_below path dir) ≡ false)

-- the file may belong to a module without being listed
abbrev pub may_belong : Atoms → Bool
may_belong path = is_specification path && not (is_config path) && not (is_module_file path)

-- the deepest directory to whose module the file may belong without being listed, if there is one
abbrev pub IsOwner : (Atoms → Bool) → Atoms → Option Atoms → Type 0
IsOwner test path owner = MatchBool (may_belong path) (IsDeepest test path owner) (owner ≡ None)

abbrev pub is_owner : Option Atoms → Atoms → Bool
is_owner owner dir = option_map_or (λ own. same_path own dir) owner false

-- the file is last among the files of its owner, and all else is as before
abbrev pub AddsToOwner : (Atoms → Bool) → Atoms → FilesByDir → FilesByDir → Type 0
AddsToOwner test path old new =
    (owner : Option Atoms) × IsOwner test path owner
    × ((dir : Atoms) → files_in new dir ≡ files_in old dir ++ (if is_owner owner dir then path ∷ [] else []))

-- the set has the name
abbrev pub has_name : BTreeSet (Bor (List ℕ)) → Bor (List ℕ) → Bool
has_name names name = contains (λ x y. slice_cmp nat_cmp x.now y.now) names name
