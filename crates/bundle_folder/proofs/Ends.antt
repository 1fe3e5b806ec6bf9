-- How unpacking ends where one of its steps refuses.
use Rattle.std.proofs.Common.{◌≡◌, ℕ, ◌<◌, ◌+◌, List, [], ◌∷◌, ◌++◌, length, get_or, take, drop, codes, refl, ap, sym, subst, ◌∙◌, inl, inr, arith}
use Rattle.std.specs.Prelude.{Contains, Option, Result, Ok, Err, IfOk, IfErr, OnErr, MatchResult}
use Rattle.std.proofs.lemmas.List.{drop_more, get_or-map, length-map, map_more, map_push, take-append-drop, take-map}
use Rattle.std.proofs.lemmas.List.Elements.{Contains-push_cases}
use Rattle.bx_tree.specs.Bundle.{IsBundle}
use Rattle.bx_tree.specs.Paths.{Atoms, path_text}
use Rattle.bx_tree.specs.Trees.{Files, IsTree, paths_of}
use Rattle.bx_tree.specs.Views.{file_of, files_of}
use Rattle.bx_tree.specs.declared.tree_file.TreeFile.{TreeFile}
use Rattle.bundle_folder.specs.Folders.{IsFree, Known, Nodes, nodes_of, with_files, without}
use Rattle.bundle_folder.specs.Unpacking.{AreFree, AreFreeBut, EndsUnpack, HasFirst, IsCleared, IsFreeBut, IsMakeFault, IsNext, IsStop, IsUnpack, IsWayFault, removed, start}
use Rattle.bundle_folder.specs.declared.fault.UnpackFault.{UnpackFault}
use Rattle.bundle_folder.specs.declared.fault.UnpackFault.TheVariants as faults
use Rattle.bundle_folder.specs.declared.unpacking.Replace.{Replace}
use Rattle.bundle_folder.specs.declared.unpacking.Replace.TheVariants as replaces
use Rattle.bundle_folder.proofs.Free.{added, free_after, to_map}

-- where a file is in the way, or a place is not seen
pub way_ends : (text : List ℕ) (replace : Replace) (holds : Option Nodes) (files : Files) (path : Atoms) (fault : UnpackFault)
    → IsBundle text files → Contains (paths_of files) path → (¬ IsCleared replace path) → IsWayFault holds path fault
    → EndsUnpack text replace holds holds fault
way_ends text replace holds files path (faults.Text fault) b c a h = absurd h
way_ends text replace holds files path (faults.Exists blamed) b c a h = (
  refl,
  (files, b, subst (Contains (paths_of files)) (sym h.0) c),
  subst (λ p. Known holds (λ nodes. ¬ IsFree nodes (path_text p))) (sym h.0) h.1,
  subst (λ p. ¬ IsCleared replace p) (sym h.0) a,
)
way_ends text replace holds files path (faults.Unseen blamed) b c a h = (
  refl,
  (files, b, subst (Contains (paths_of files)) (sym h) c),
  subst (λ p. ¬ IsCleared replace p) (sym h) a,
)
way_ends text replace holds files path (faults.Kept blamed) b c a h = absurd h
way_ends text replace holds files path (faults.Partly count blamed) b c a h = absurd h
way_ends text replace holds files path (faults.Taken count blamed) b c a h = absurd h
way_ends text replace holds files path (faults.Memory count) b c a h = inl (h, inl refl)

-- what a folder holds stays known where it is cleared
unknown : (replace : Replace) (holds : Option Nodes) → Known (start replace holds) (λ _. ⊥) → Known holds (λ _. ⊥)
unknown replaces.Nothing holds k nodes e = k nodes e
unknown replaces.Made holds k nodes e =
    k (without (codes "report.txt") (without (codes "out") nodes)) (ap (λ h. removed (codes "report.txt") (removed (codes "out") h)) e)

-- where a file is not made
pub stop_ends : (text : List ℕ) (replace : Replace) (before now : Option Nodes) (files : Files) (fault : UnpackFault)
    → IsBundle text files → IsStop (start replace before) now files fault → EndsUnpack text replace before now fault
stop_ends text replace before now files (faults.Text fault) b h = absurd h
stop_ends text replace before now files (faults.Exists path) b h = absurd h
stop_ends text replace before now files (faults.Unseen path) b h = absurd h
stop_ends text replace before now files (faults.Kept path) b h = absurd h
stop_ends text replace before now files (faults.Partly count path) b h = (files, b, h.0, h.1)
stop_ends text replace before now files (faults.Taken count path) b h =
    ((files, b, h.0, h.1), unknown replace before h.2)
stop_ends text replace before now files (faults.Memory count) b h = inr (files, b, h.0, h.1)

-- a list around one of its places
split_at : {X : Type 0} (xs : List X) (i : ℕ) (d : X) → i < length xs → take i xs ++ get_or xs i d ∷ drop (i + 1) xs ≡ xs
split_at xs i d l = ap (λ ys. take i xs ++ ys) (sym (drop_more xs i d l)) ∙ take-append-drop i xs

-- a file that could be made at the start can be made after those before it
pub free_now : (nodes : Nodes) (files : Files) (i : ℕ) (file : Atoms × List ℕ) → i < length files → get_or files i file ≡ file
    → IsTree files → AreFree nodes files → IsFree (nodes ++ nodes_of (take i files)) (path_text file.0)
free_now nodes files i file l e t free =
    let whole : take i files ++ file ∷ drop (i + 1) files ≡ files =
    ap (λ f. take i files ++ f ∷ drop (i + 1) files) (sym e) ∙ split_at files i file l in
    free_after nodes (take i files) file (drop (i + 1) files) (subst IsTree (sym whole) t)
    (free file.0 (to_map (λ (f : Atoms × List ℕ). f.0) files file (i, l, e)))

-- a file comes after those before it
next_at : (files : Files) (i : ℕ) (file : Atoms × List ℕ) → i < length files → get_or files i file ≡ file → IsNext files i file.0
next_at files i file l e = (file.1, drop (i + 1) files, drop_more files i file l ∙ ap (λ f. f ∷ drop (i + 1) files) e)

-- where the next file is not made
pub make_stop : (before middle now : Option Nodes) (files : Files) (i : ℕ) (file : Atoms × List ℕ) (fault : UnpackFault)
    → i < length files → get_or files i file ≡ file → IsTree files → Known before (λ nodes. AreFree nodes files)
    → middle ≡ with_files before (take i files) → now ≡ middle → IsMakeFault middle file.0 i fault → IsStop before now files fault
make_stop before middle now files i file (faults.Text fault) l e t free m n h = absurd h
make_stop before middle now files i file (faults.Exists path) l e t free m n h = absurd h
make_stop before middle now files i file (faults.Unseen path) l e t free m n h = absurd h
make_stop before middle now files i file (faults.Kept path) l e t free m n h = absurd h
make_stop before middle now files i file (faults.Partly count path) l e t free m n h = (
  subst (λ k. IsNext files k path) (sym h.0) (subst (IsNext files i) (sym h.1) (next_at files i file l e)),
  subst (λ k. now ≡ with_files before (take k files)) (sym h.0) (n ∙ m),
)
make_stop before middle now files i file (faults.Taken count path) l e t free m n h = (
  subst (λ k. IsNext files k path) (sym h.0) (subst (IsNext files i) (sym h.1) (next_at files i file l e)),
  subst (λ k. now ≡ with_files before (take k files)) (sym h.0) (n ∙ m),
  λ nodes known.
      h.2 (nodes ++ nodes_of (take i files)) (m ∙ ap (λ holds. with_files holds (take i files)) known)
      (free_now nodes files i file l e t (free nodes known)),
)
make_stop before middle now files i file (faults.Memory count) l e t free m n h =
    subst (HasFirst before now files) (sym h) (omega (arith, l), n ∙ m)

-- ## One file after another

files_more : (files : List TreeFile) (i : ℕ) (file : TreeFile) → i < length files → file ≡ get_or files i file
    → files_of (take (i + 1) files) ≡ files_of (take i files) ++ file_of file ∷ []
files_more files i file l e =
    map_more file_of files i file l ∙ ap (λ (f : TreeFile). files_of (take i files) ++ file_of f ∷ []) (sym e)

-- one more file that can be made
pub free_but_more : (replace : Replace) (nodes : Nodes) (files : List TreeFile) (i : ℕ) (file : TreeFile) → i < length files
    → file ≡ get_or files i file → AreFreeBut replace nodes (files_of (take i files)) → IsFreeBut replace nodes file.path
    → AreFreeBut replace nodes (files_of (take (i + 1) files))
free_but_more replace nodes files i file l e all one path c =
    let here : Contains (paths_of (files_of (take i files) ++ file_of file ∷ [])) path =
    subst (λ fs. Contains (paths_of fs) path) (files_more files i file l e) c in
    let split : paths_of (files_of (take i files) ++ file_of file ∷ []) ≡ paths_of (files_of (take i files)) ++ file.path ∷ [] =
    map_push (λ (f : Atoms × List ℕ). f.0) (files_of (take i files)) (file_of file) in
    elim (Contains-push_cases (paths_of (files_of (take i files))) file.path path (subst (λ ps. Contains ps path) split here)) [
      | inl d ↦ all path d
      | inr f ↦ subst (IsFreeBut replace nodes) f one
    ]

-- a file of a list has its path among those of the list
pub has_path : (files : List TreeFile) (i : ℕ) (file : TreeFile) → i < length files → file ≡ get_or files i file
    → Contains (paths_of (files_of files)) file.path
has_path files i file l e =
    to_map (λ (f : Atoms × List ℕ). f.0) (files_of files) (file_of file) (to_map file_of files file (i, l, sym e))

-- one more file that was made
pub made_more : (holds middle now : Option Nodes) (files : List TreeFile) (i : ℕ) (file : TreeFile) → i < length files
    → file ≡ get_or files i file → middle ≡ with_files holds (files_of (take i files))
    → now ≡ with_files middle (file_of file ∷ []) → now ≡ with_files holds (files_of (take (i + 1) files))
made_more holds middle now files i file l e m n =
    n ∙ ap (λ h. with_files h (file_of file ∷ [])) m ∙ added holds (files_of (take i files)) (file_of file)
    ∙ ap (with_files holds) (sym (files_more files i file l e))

-- where the next file of a list is not made
pub stop_at : (before middle now : Option Nodes) (files : List TreeFile) (i : ℕ) (file : TreeFile) (fault : UnpackFault)
    → i < length files → file ≡ get_or files i file → IsTree (files_of files) → Known before (λ nodes. AreFree nodes (files_of files))
    → middle ≡ with_files before (files_of (take i files)) → now ≡ middle → IsMakeFault middle file.path i fault
    → IsStop before now (files_of files) fault
stop_at before middle now files i file fault l e t free m n h =
    make_stop before middle now (files_of files) i (file_of file) fault
    (subst (λ k. i < k) (sym (length-map files file_of)) l)
    (get_or-map file_of files i file (file_of file) l ∙ ap file_of (sym e)) t free
    (m ∙ ap (with_files before) (sym (take-map file_of i files))) n h

-- how unpacking ends with the making of files
pub made_ends : (text : List ℕ) (replace : Replace) (before middle now : Option Nodes) (files : List TreeFile) (tree : Files)
    (r : Result ℕ UnpackFault) → IsBundle text tree → files_of files ≡ tree → middle ≡ start replace before → Known before (λ nodes. AreFreeBut replace nodes tree)
    → IfOk r (λ count. (count ≡ length files) × (now ≡ with_files middle (files_of files)))
    → IfErr r (IsStop middle now (files_of files))
    → MatchResult r (IsUnpack text replace before now) (EndsUnpack text replace before now)
made_ends text replace before middle now files tree (Ok count) b e m free h k = (
  tree,
  b,
  omega (arith, h.0, ap length e, length-map files file_of),
  h.1 ∙ ap (λ holds. with_files holds (files_of files)) m ∙ ap (with_files (start replace before)) e,
  free,
)
made_ends text replace before middle now files tree (Err fault) b e m free h k =
    stop_ends text replace before now tree fault b
    (subst (λ fs. IsStop (start replace before) now fs fault) e (subst (λ holds. IsStop holds now (files_of files) fault) m k))

-- what holds at any answer holds where there is an error
pub on_any_err : {T E P : Type 0} (r : Result T E) → P → OnErr r P
on_any_err (Ok x) p = tt
on_any_err (Err e) p = p
