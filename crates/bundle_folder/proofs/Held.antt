-- What is packed is what the folder holds: its entries, their paths, and the files that were read.
use Rattle.std.proofs.Common.{◌≡◌, ◌≢◌, ◌↔◌, ℕ, ◌<◌, ◌≤◌, ◌+◌, List, [], ◌∷◌, ◌++◌, length, get_or, codes, refl, ap, sym, subst, ◌∙◌, inl, inr, arith, eqb}
use Rattle.std.specs.Prelude.{Contains, Option, string_bytes, sum_by, take, drop}
use Rattle.std.specs.Fmt.{decimal}
use Rattle.std.specs.List.{All, AllByRecursion, slice_split}
use Rattle.std.specs.List.Sorted.{IsPermutation, IsStrictlySortedBy}
use Rattle.std.specs.declared.cmp.Ordering.TheVariants.{Less}
use Rattle.std.proofs.lemmas.List.{length-append, length-map, map_push, take-append-drop, take_more}
use Rattle.std.proofs.lemmas.List.Concat.{length-flat_map}
use Rattle.std.proofs.lemmas.List.Sums.{sum_by-le-sum_by, sum_by_push}
use Rattle.std.proofs.lemmas.List.Elements.{All-contains, All-from_recursion, All-map, All-push, All-weaker, All-contains_itself, recursion_from_All, Contains-push, Contains-push_cases, Contains-append_left}
use Rattle.std.proofs.lemmas.List.Sorted.{All-permutation, Contains-permutation, IsPermutation-refl, IsPermutation-sym, length_permutation}
use Rattle.bx_tree.specs.Bundle.{IsInSize, body_text, bundle, file_text}
use Rattle.bx_tree.specs.Paths.{Atoms, IsAtom, IsPath, IsPathText, path_cmp, path_text}
use Rattle.bx_tree.specs.Trees.{Files, IsTree, paths_of}
use Rattle.bx_tree.specs.Views.{file_of, files_of}
use Rattle.bx_tree.specs.declared.limits.TheConstants.{MAX_BUNDLE_BYTES, MAX_FILES, MAX_FILE_BYTES, MAX_PATH_BYTES}
use Rattle.bx_tree.specs.declared.tree_file.TreeFile.{TreeFile}
use Rattle.bx_tree.proofs.PathTexts.{named_by_parts, prefix_from_below}
use Rattle.bx_tree.proofs.Lists.{all_front}
use Rattle.bundle_folder.specs.Answers.{HasLargeFile, IsEntryOf, ListsNodes, entry_data, kind_of}
use Rattle.bundle_folder.specs.Folders.{File, IsFolder, Known, Node, Nodes, Other, IsListed}
use Rattle.bundle_folder.specs.Packing.{AreFilesOf, AreHeld, HasCauseIn, HasLongText, HasManyFiles, IsPack}
use Rattle.bundle_folder.specs.Places.{IsWithin}
use Rattle.bundle_folder.specs.Steps.{AreEntryPaths, ArePathsOf, AreRead, IsEntryFault, IsFileIn, IsFilePath, IsPlaceFault, IsTextFault, IsTextOf}
use Rattle.bundle_folder.specs.declared.folder.Entry.{Entry}
use Rattle.bundle_folder.specs.declared.folder.Kind.{Kind}
use Rattle.bundle_folder.specs.declared.folder.Kind.TheVariants as kinds
use Rattle.bundle_folder.specs.declared.fault.PackFault.{PackFault}
use Rattle.bundle_folder.specs.declared.fault.PackFault.TheVariants as faults
use Rattle.bundle_folder.proofs.Free.{from_map, to_map}

-- ## Entries

-- the node lies at another spelling of the place
listed_at : (left_out : List (List ℕ)) (nodes : Nodes) (place other : List ℕ) (node : Node) → place ≡ other
    → IsListed left_out nodes place node → IsListed left_out nodes other node
listed_at left_out nodes place other node e h = subst (λ p. IsListed left_out nodes p node) e h

no_file : kinds.Other ≡ kinds.File → ⊥
no_file e = cc

no_other : kinds.File ≡ kinds.Other → ⊥
no_other e = cc

file_node : (node : Node) → kind_of node ≡ kinds.File → (bytes : List ℕ) × (node ≡ File bytes)
file_node (File bytes) e = (bytes, refl)
file_node Other e = absurd (no_file e)

other_node : (node : Node) → kind_of node ≡ kinds.Other → node ≡ Other
other_node (File bytes) e = absurd (no_other e)
other_node Other e = refl

-- a fault of a place that is no path is a fault of the entry
pub entry_fault : (entry : Entry) (fault : PackFault) → (IsPathText (string_bytes entry.place) → ⊥)
    → IsPlaceFault (string_bytes entry.place) fault → IsEntryFault entry fault
entry_fault entry (faults.BadName text) never h = (
  h.0,
  λ all. never (_, named_by_parts (string_bytes entry.place) (subst (λ t. AllByRecursion IsAtom (slice_split (λ b. eqb b 47) t)) h.0 all) h.1),
)
entry_fault entry (faults.NoText text) never h = absurd h
entry_fault entry (faults.LongPath text) never h = (h.0, subst (λ t. MAX_PATH_BYTES < length t) (sym h.0) h.1)
entry_fault entry (faults.NoFile path) never h = absurd h
entry_fault entry (faults.LargeFile path) never h = absurd h
entry_fault entry faults.ManyFiles never h = absurd h
entry_fault entry faults.LargeText never h = absurd h
entry_fault entry faults.Changed never h = absurd h
entry_fault entry (faults.Unlisted text) never h = absurd h
entry_fault entry (faults.Unread path) never h = absurd h
entry_fault entry faults.Memory never h = tt

-- a fault of an entry has its cause in the folder
pub entry_cause : (left_out : List (List ℕ)) (nodes : Nodes) (entry : Entry) (fault : PackFault)
    → IsEntryOf left_out nodes entry → IsEntryFault entry fault → HasCauseIn left_out nodes fault
entry_cause left_out nodes entry (faults.BadName text) is h =
    ((is.0, listed_at left_out nodes (string_bytes entry.place) (string_bytes text) is.0 (sym h.0) is.1), h.1)
entry_cause left_out nodes entry (faults.NoText text) is h = h
entry_cause left_out nodes entry (faults.LongPath text) is h =
    ((is.0, listed_at left_out nodes (string_bytes entry.place) (string_bytes text) is.0 (sym h.0) is.1), h.1)
entry_cause left_out nodes entry (faults.NoFile path) is h =
    subst (IsListed left_out nodes (path_text path)) (other_node is.0 (is.2 ∙ h.1))
    (listed_at left_out nodes (string_bytes entry.place) (path_text path) is.0 (sym h.0) is.1)
entry_cause left_out nodes entry (faults.LargeFile path) is h = absurd h
entry_cause left_out nodes entry faults.ManyFiles is h = absurd h
entry_cause left_out nodes entry faults.LargeText is h = absurd h
entry_cause left_out nodes entry faults.Changed is h = h
entry_cause left_out nodes entry (faults.Unlisted text) is h = tt
entry_cause left_out nodes entry (faults.Unread path) is h = absurd h
entry_cause left_out nodes entry faults.Memory is h = tt

-- ## Paths

-- one more entry with its path
pub paths_more : (entries : List Entry) (paths : List Atoms) (entry : Entry) (path : Atoms) → AreEntryPaths entries paths
    → IsFilePath entry path → AreEntryPaths (entries ++ entry ∷ []) (paths ++ path ∷ [])
paths_more entries paths entry path all is = record {
  held = λ p c. elim (Contains-push_cases paths path p c) [
    | inl d ↦ let from = all.held p d in (from.0, Contains-append_left entries (entry ∷ []) from.0 from.1, from.2)
    | inr e ↦ (entry, Contains-push entries entry, subst (IsFilePath entry) e is)
  ];
  all = λ x c. elim (Contains-push_cases entries entry x c) [
    | inl d ↦ let to = all.all x d in (to.0, Contains-append_left paths (path ∷ []) to.0 to.1, to.2)
    | inr e ↦ (path, Contains-push paths path, subst (λ y. IsFilePath y path) e is)
  ];
}

pub no_paths : AreEntryPaths [] []
no_paths = record {
  held = λ p c. absurd (omega (arith, c.1));
  all = λ x c. absurd (omega (arith, c.1));
}

-- the paths of the entries of a folder are those of its files
pub paths_of_folder : (left_out : List (List ℕ)) (nodes : Nodes) (entries : List Entry) (paths order : List Atoms)
    → ListsNodes left_out nodes entries → AreEntryPaths entries paths → IsStrictlySortedBy path_cmp order
    → ((path : Atoms) → Contains order path ↔ Contains paths path) → ArePathsOf left_out nodes order
paths_of_folder left_out nodes entries paths order lists files rising same = record {
  rising = rising;
  no_root = λ path c. (files.held path ((same path).0 c)).2.no_root;
  held = λ path c.
      let from = files.held path ((same path).0 c) in
      let is = lists.held from.0 from.1 in
      let node = file_node is.0 (is.2 ∙ from.2.file) in (
        node.0,
        subst (IsListed left_out nodes (path_text path)) node.1
            (listed_at left_out nodes (string_bytes from.0.place) (path_text path) is.0 (sym from.2.text) is.1),
      );
  all = λ place node h.
      let entry = from_map entry_data entries (place, kind_of node) (lists.all place node h) in
      let to = files.all entry.0 entry.1 in
      (to.0, (same to.0).1 to.1, to.2.text ∙ ap (λ (p : List ℕ × Kind). p.0) entry.2);
}

-- more paths than a bundle has files are a cause
pub many_files : (left_out : List (List ℕ)) (nodes : Nodes) (paths : List Atoms) → ArePathsOf left_out nodes paths
    → MAX_FILES < length paths → HasManyFiles left_out nodes
many_files left_out nodes paths are many = (paths, are.rising, many, are.held)

-- ## Files

-- files whose bytes were read at paths of the folder are held
pub held_files : (left_out : List (List ℕ)) (nodes : Nodes) (paths : List Atoms) (files : List TreeFile)
    → ((path : Atoms) → Contains paths path → IsFileIn left_out nodes path)
    → ((path : Atoms) → Contains (paths_of (files_of files)) path → Contains paths path)
    → AreRead nodes files → AreHeld left_out nodes (files_of files)
held_files left_out nodes paths files held some read path bytes c =
    let file = from_map file_of files (path, bytes) c in
    let there : Contains nodes (path_text file.0.path, File file.0.bytes.items) =
    All-contains (λ (f : TreeFile). Contains nodes (path_text f.path, File f.bytes.items)) files file.0 read file.1 in
    let here : Contains nodes (path_text path, File bytes) =
    subst (λ (f : Atoms × List ℕ). Contains nodes (path_text f.0, File f.1)) file.2 there in
    let mine = held path (some path (to_map (λ (f : Atoms × List ℕ). f.0) (files_of files) (path, bytes) c)) in
    record { there = here; counts = mine.1.counts }

-- ## The length of a bundle

file_longer : (f : Atoms × List ℕ) → length f.1 ≤ length (file_text f)
file_longer f =
    let head = codes "file " ++ decimal (length f.1) ++ codes " " ++ path_text f.0 ++ codes "\n" in
    omega (arith, length-append (head ++ f.1) (codes "\n"), length-append head f.1)

-- a bundle is longer than the bytes of its files
pub bundle_longer : (files : Files) → sum_by (λ (f : Atoms × List ℕ). length f.1) files ≤ length (bundle files)
bundle_longer files =
    let longer : sum_by (λ (f : Atoms × List ℕ). length f.1) files ≤ sum_by (λ (f : Atoms × List ℕ). length (file_text f)) files =
    sum_by-le-sum_by (λ (f : Atoms × List ℕ). length f.1) (λ (f : Atoms × List ℕ). length (file_text f)) files file_longer in
    omega (arith, longer, length-flat_map file_text files, length-append (body_text files) (codes "end\n"))

-- ## Reading one file after another

-- one more file
pub paths_step : (files : List TreeFile) (file : TreeFile) (paths : List Atoms) (i : ℕ) (path : Atoms) → i < length paths
    → paths_of (files_of files) ≡ take i paths → get_or paths i path ≡ path → file.path ≡ path
    → paths_of (files_of (files ++ file ∷ [])) ≡ take (i + 1) paths
paths_step files file paths i path l so_far at e =
    ap paths_of (map_push file_of files file)
    ∙ map_push (λ (f : Atoms × List ℕ). f.0) (files_of files) (file_of file)
    ∙ ap (λ ps. ps ++ file.path ∷ []) so_far
    ∙ ap (λ p. take i paths ++ p ∷ []) (e ∙ sym at)
    ∙ sym (take_more paths i path l)

pub size_step : (files : List TreeFile) (file : TreeFile) (size : ℕ)
    → size ≡ sum_by (λ (f : Atoms × List ℕ). length f.1) (files_of files)
    → size + length file.bytes.items ≡ sum_by (λ (f : Atoms × List ℕ). length f.1) (files_of (files ++ file ∷ []))
size_step files file size e =
    ap (λ n. n + length file.bytes.items) e
    ∙ sym (sum_by_push (λ (f : Atoms × List ℕ). length f.1) (files_of files) (file_of file))
    ∙ ap (sum_by (λ (f : Atoms × List ℕ). length f.1)) (sym (map_push file_of files file))

-- files that were read are as many as their paths, and each is within its limit
pub in_size_read : (files : List TreeFile) (paths : List Atoms) → paths_of (files_of files) ≡ paths → length paths ≤ MAX_FILES
    → All (λ (f : TreeFile). length f.bytes.items ≤ MAX_FILE_BYTES) files → IsInSize (files_of files)
in_size_read files paths e few sizes = record {
  count = omega (arith, length-map (files_of files) (λ (f : Atoms × List ℕ). f.0), ap length e, few);
  sizes = recursion_from_All (λ (f : Atoms × List ℕ). length f.1 ≤ MAX_FILE_BYTES) (files_of files)
      (All-map (λ (f : Atoms × List ℕ). length f.1 ≤ MAX_FILE_BYTES) file_of files sizes);
}

-- one more file that was read
pub read_step : (nodes : Nodes) (files : List TreeFile) (file : TreeFile) (path : Atoms) → AreRead nodes files → file.path ≡ path
    → Contains nodes (path_text path, File file.bytes.items) → AreRead nodes (files ++ file ∷ [])
read_step nodes files file path read e there =
    All-push (λ (f : TreeFile). Contains nodes (path_text f.path, File f.bytes.items)) files file read
    (subst (λ p. Contains nodes (path_text p, File file.bytes.items)) (sym e) there)

sorted_prefix : (xs ys : List Atoms) → IsStrictlySortedBy path_cmp (xs ++ ys) → IsStrictlySortedBy path_cmp xs
unfolding IsStrictlySortedBy
sorted_prefix [] ys h = tt
sorted_prefix (x ∷ xs) ys h = (all_front (λ y. path_cmp x y ≡ Less) xs ys h.0, sorted_prefix xs ys h.1)

taken : (n : ℕ) (paths : List Atoms) (path : Atoms) → Contains (take n paths) path → Contains paths path
taken n paths path c =
    subst (λ ps. Contains ps path) (take-append-drop n paths) (Contains-append_left (take n paths) (drop n paths) path c)

-- files that were read and have more bytes than a bundle are a cause
pub long_text : (left_out : List (List ℕ)) (nodes : Nodes) (paths : List Atoms) (files : List TreeFile) (n : ℕ)
    → ArePathsOf left_out nodes paths → paths_of (files_of files) ≡ take n paths → AreRead nodes files
    → MAX_BUNDLE_BYTES < sum_by (λ (f : Atoms × List ℕ). length f.1) (files_of files) → HasLongText left_out nodes
long_text left_out nodes paths files n are e read long = (
  files_of files,
  subst (IsStrictlySortedBy path_cmp) (sym e)
      (sorted_prefix (take n paths) (drop n paths) (subst (IsStrictlySortedBy path_cmp) (sym (take-append-drop n paths)) are.rising)),
  held_files left_out nodes paths files are.held (λ path c. taken n paths path (subst (λ ps. Contains ps path) e c)) read,
  omega (arith, bundle_longer (files_of files), long),
)

-- ## The text

pub in_size_moved : (files tree : Files) → IsPermutation files tree → IsInSize files → IsInSize tree
in_size_moved files tree moved h = record {
  count = subst (λ n. n ≤ MAX_FILES) (sym (length_permutation files tree moved)) h.count;
  sizes = recursion_from_All (λ (f : Atoms × List ℕ). length f.1 ≤ MAX_FILE_BYTES) tree
      (All-permutation (λ (f : Atoms × List ℕ). length f.1 ≤ MAX_FILE_BYTES) files tree moved
      (All-from_recursion (λ (f : Atoms × List ℕ). length f.1 ≤ MAX_FILE_BYTES) files h.sizes));
}

all_are_paths : (files : List TreeFile) → AllByRecursion IsPath (paths_of (files_of files))
all_are_paths [] = tt
all_are_paths (f ∷ fs) = (f.is_path, all_are_paths fs)

-- files that a folder holds are a tree
pub tree_of_held : (left_out : List (List ℕ)) (nodes : Nodes) (files : List TreeFile) → IsFolder nodes
    → IsStrictlySortedBy path_cmp (paths_of (files_of files))
    → ((path : Atoms) → Contains (paths_of (files_of files)) path → path ≢ [])
    → AreHeld left_out nodes (files_of files) → IsTree (files_of files)
tree_of_held left_out nodes files folder rising no_root held = record {
  paths = all_are_paths files;
  no_root = recursion_from_All (λ p. p ≢ []) (paths_of (files_of files)) (all_by (λ p. p ≢ []) (paths_of (files_of files)) no_root);
  rising = rising;
  unnested = λ dir path d p below.
      let top = from_map (λ (f : Atoms × List ℕ). f.0) (files_of files) dir d in
      let low = from_map (λ (f : Atoms × List ℕ). f.0) (files_of files) path p in
      let text = prefix_from_below path dir (no_root dir d) below in
      let within : IsWithin (path_text low.0.0) (path_text top.0.0) =
      inr (text.0, ap path_text low.2 ∙ text.1 ∙ ap (λ q. path_text q ++ 47 ∷ text.0) (sym top.2)) in
      let one = held low.0.0 low.0.1 low.1 in
      let other = held top.0.0 top.0.1 top.1 in
      let same = (folder (path_text low.0.0) (path_text top.0.0) (File low.0.1) (File top.0.1) one.there other.there within).0 in
      longer_than_itself (path_text path) (path_text dir) text.0 (sym (ap path_text low.2) ∙ same ∙ ap path_text top.2) text.1;
}
  where
    all_by : (P : Atoms → Type 0) (xs : List Atoms) → ((x : Atoms) → Contains xs x → P x) → All P xs
    all_by P xs f = All-weaker (Contains xs) P f xs (All-contains_itself xs)

    longer_than_itself : (text dir rest : List ℕ) → text ≡ dir → text ≡ dir ++ 47 ∷ rest → ⊥
    longer_than_itself text dir rest e f = omega (arith, ap length e, ap length f, length-append dir (47 ∷ rest))

-- ## The whole

-- the files of a folder, in the order of a tree
pub files_of_folder : (left_out : List (List ℕ)) (nodes : Nodes) (paths : List Atoms) (files tree : Files) → IsFolder nodes
    → ArePathsOf left_out nodes paths → paths_of files ≡ paths → AreHeld left_out nodes files → IsPermutation files tree
    → AreFilesOf left_out nodes tree
files_of_folder left_out nodes paths files tree folder are same held moved = record {
  held = λ path bytes c. held path bytes (Contains-permutation tree files (path, bytes) (IsPermutation-sym files tree moved) c);
  all = λ place node h.
      let path = are.all place node h in
      let file = from_map (λ (f : Atoms × List ℕ). f.0) files path.0 (subst (λ ps. Contains ps path.0) (sym same) path.1) in
      let text : path_text file.0.0 ≡ place = ap path_text file.2 ∙ path.2 in
      let one = held file.0.0 file.0.1 file.1 in (
        file.0.0,
        file.0.1,
        text,
        (folder (path_text file.0.0) place (File file.0.1) node one.there h.there (inl text)).1,
        Contains-permutation files tree (file.0.0, file.0.1) moved file.1,
      );
}

-- a fault of the text has its cause in the folder
pub text_cause : (left_out : List (List ℕ)) (nodes : Nodes) (paths : List Atoms) (files : List TreeFile) (fault : PackFault)
    → IsFolder nodes → ArePathsOf left_out nodes paths → paths_of (files_of files) ≡ paths
    → AreHeld left_out nodes (files_of files) → IsTextFault (files_of files) fault → HasCauseIn left_out nodes fault
text_cause left_out nodes paths files (faults.BadName text) folder are same held h = absurd h
text_cause left_out nodes paths files (faults.NoText text) folder are same held h = absurd h
text_cause left_out nodes paths files (faults.LongPath text) folder are same held h = absurd h
text_cause left_out nodes paths files (faults.NoFile path) folder are same held h = absurd h
text_cause left_out nodes paths files (faults.LargeFile path) folder are same held h = absurd h
text_cause left_out nodes paths files faults.ManyFiles folder are same held h = absurd h
text_cause left_out nodes paths files faults.LargeText folder are same held h = (
  h.0,
  h.2.rising,
  (λ path bytes c. held path bytes (Contains-permutation h.0 (files_of files) (path, bytes) (IsPermutation-sym (files_of files) h.0 h.1) c)),
  h.3,
)
text_cause left_out nodes paths files faults.Changed folder are same held h =
    h (files_of files) (IsPermutation-refl (files_of files))
    (tree_of_held left_out nodes files folder
    (subst (IsStrictlySortedBy path_cmp) (sym same) are.rising)
    (λ path c. are.no_root path (subst (λ ps. Contains ps path) same c)) held)
text_cause left_out nodes paths files (faults.Unlisted text) folder are same held h = tt
text_cause left_out nodes paths files (faults.Unread path) folder are same held h = absurd h
text_cause left_out nodes paths files faults.Memory folder are same held h = tt

-- what was read of a folder is held there
read_held : (left_out : List (List ℕ)) (nodes : Nodes) (paths : List Atoms) (files : List TreeFile) → ArePathsOf left_out nodes paths
    → paths_of (files_of files) ≡ paths → AreRead nodes files → AreHeld left_out nodes (files_of files)
read_held left_out nodes paths files are same read =
    held_files left_out nodes paths files are.held (λ path c. subst (λ ps. Contains ps path) same c) read

-- the text of what was read is the text of the folder
pub is_pack : (left_out : List (List ℕ)) (holds : Option Nodes) (paths : List Atoms) (files : List TreeFile) (text : List ℕ)
    → Known holds IsFolder → Known holds (λ nodes. ArePathsOf left_out nodes paths) → paths_of (files_of files) ≡ paths
    → Known holds (λ nodes. AreRead nodes files) → IsTextOf (files_of files) text → IsPack left_out holds text
is_pack left_out holds paths files text folder are same read h = (
  h.0,
  h.2,
  λ nodes e. files_of_folder left_out nodes paths (files_of files) h.0 (folder nodes e) (are nodes e) same
      (read_held left_out nodes paths files (are nodes e) same (read nodes e)) h.1,
)

-- why what was read has no text is why the folder has none
pub has_no_text : (left_out : List (List ℕ)) (holds : Option Nodes) (paths : List Atoms) (files : List TreeFile) (fault : PackFault)
    → Known holds IsFolder → Known holds (λ nodes. ArePathsOf left_out nodes paths) → paths_of (files_of files) ≡ paths
    → Known holds (λ nodes. AreRead nodes files) → IsTextFault (files_of files) fault → Known holds (λ nodes. HasCauseIn left_out nodes fault)
has_no_text left_out holds paths files fault folder are same read h nodes e =
    text_cause left_out nodes paths files fault (folder nodes e) (are nodes e) same
    (read_held left_out nodes paths files (are nodes e) same (read nodes e)) h

-- a file of the folder with too many bytes, by another owner of its path
pub large_file : (left_out : List (List ℕ)) (nodes : Nodes) (path blamed : Atoms) → blamed ≡ path
    → HasLargeFile nodes (path_text path) → IsFileIn left_out nodes path
    → (bytes : List ℕ) × IsListed left_out nodes (path_text blamed) (File bytes) × (MAX_FILE_BYTES < length bytes)
large_file left_out nodes path blamed e large is =
    subst (λ p. (bytes : List ℕ) × IsListed left_out nodes (path_text p) (File bytes) × (MAX_FILE_BYTES < length bytes)) (sym e)
    (large.0, record { there = large.1; counts = is.1.counts }, large.2)
