-- Which paths files have, before and after one of each path is kept.
use Rattle.std.proofs.Common.{◌≡◌, ◌⊎◌, ◌↔◌, Bool, true, false, ◌||◌, ◌&&◌, IsTrue, List, [], ◌∷◌, map, refl, ap, sym, ◌∙◌, subst, inl, inr}
use Rattle.std.specs.Prelude.{Contains, fold}
use Rattle.std.specs.Cmp.{both_ways}
use Rattle.std.specs.List.{list_all}
use Rattle.std.proofs.lemmas.Bool.{cases_Bool, false≢true}
use Rattle.bx_tree.specs.Orders.{equal_paths, same_path_decides}
use Rattle.bx_tree.specs.Paths.{Atoms, path_cmp, same_path}
use Rattle.bx_tree.specs.declared.file_input.FileInput.{FileInput}
use Rattle.dscript_sdk_pips.specs.FileSets.{FileMap, counted, file_for, files_by_path, put_file}
use Rattle.dscript_sdk_pips.specs.Seals.{is_listed, lists_sources}
use Rattle.dscript_sdk_pips.proofs.FilesKept.{keys, keys_put, own_from, own_paths}
use Rattle.bx_tree.specs.FileInputs.{input_path}
use Rattle.bx_tree.specs.Members.{Has}
use Rattle.bx_tree.proofs.Sets.{contains_has, has_contained, has_insert, insert_has}
use Rattle.bx_tree.proofs.Members.{has_map}

-- ## Listed by a test, and among the paths

listed_has : (files : List FileInput) (path : Atoms) → is_listed files path ≡ true → Has (map input_path files) path
listed_has [] path e = absurd (false≢true e)
listed_has (f ∷ fs) path e = elim (cases_Bool (same_path (input_path f) path)) [
  | inl same ↦ inl ((same_path_decides (input_path f) path).0 same)
  | inr other ↦ inr (listed_has fs path (sym (ap (λ b. b || is_listed fs path) other) ∙ e))
]

true_or : (b : Bool) → (b || true) ≡ true
true_or true = refl
true_or false = refl

has_listed : (files : List FileInput) (path : Atoms) → Has (map input_path files) path → is_listed files path ≡ true
has_listed [] path h = absurd h
has_listed (f ∷ fs) path h = elim h [
  | inl e ↦ ap (λ b. b || is_listed fs path) ((same_path_decides (input_path f) path).1 e)
  | inr more ↦ ap (λ b. same_path (input_path f) path || b) (has_listed fs path more) ∙ true_or (same_path (input_path f) path)
]

pub listed_from_answer
    : (files : List FileInput) (path : Atoms) (answer : Bool) → IsTrue answer ↔ Contains (map input_path files) path
    → answer ≡ is_listed files path
listed_from_answer files path answer h =
    both_ways answer (is_listed files path)
    (λ e. has_listed files path (has_contained (map input_path files) path (h.0 e)))
    (λ e. h.1 (contains_has (map input_path files) path (listed_has files path e)))

-- ## The files that count have the paths of all

kept_has : (files : List FileInput) (es : FileMap) (q : Atoms) → Has (keys es) q ⊎ Has (map input_path files) q
    → Has (keys (fold put_file es files)) q
kept_has [] es q h = elim h [ inl old ↦ old | inr never ↦ absurd never ]
kept_has (f ∷ fs) es q h =
    kept_has fs (put_file es f) q
    (elim h [
      | inl old ↦ inl (put (inr old))
      | inr new ↦ elim new [ inl here ↦ inl (put (inl here)) | inr later ↦ inr later ]
    ])
  where
    put : (input_path f ≡ q) ⊎ Has (keys es) q → Has (keys (put_file es f)) q
    put h = subst (λ ks. Has ks q) (sym (keys_put es (input_path f) (counted f (file_for es (input_path f)))))
        (insert_has path_cmp equal_paths (keys es) (input_path f) q h)

has_kept : (files : List FileInput) (es : FileMap) (q : Atoms) → Has (keys (fold put_file es files)) q
    → Has (keys es) q ⊎ Has (map input_path files) q
has_kept [] es q h = inl h
has_kept (f ∷ fs) es q h = elim (has_kept fs (put_file es f) q h) [
  | inl put ↦ elim (taken put) [ inl here ↦ inr (inl here) | inr old ↦ inl old ]
  | inr later ↦ inr (inr later)
]
  where
    taken : Has (keys (put_file es f)) q → (input_path f ≡ q) ⊎ Has (keys es) q
    taken h = has_insert path_cmp (keys es) (input_path f) q
        (subst (λ ks. Has ks q) (keys_put es (input_path f) (counted f (file_for es (input_path f)))) h)

paths_kept : (files : List FileInput) → map input_path (files_by_path files) ≡ keys (fold put_file [] files)
paths_kept files = own_paths (fold put_file [] files) (own_from files [] tt)

pub path_kept : (files : List FileInput) (file : FileInput) → Contains files file
    → Contains (map input_path (files_by_path files)) (input_path file)
path_kept files file h =
    contains_has (map input_path (files_by_path files)) (input_path file)
    (subst (λ ps. Has ps (input_path file)) (sym (paths_kept files))
    (kept_has files [] (input_path file) (inr (has_map input_path files file (has_contained files file h)))))

listed_by_path : (files : List FileInput) (path : Atoms) → is_listed (files_by_path files) path ≡ is_listed files path
listed_by_path files path =
    both_ways (is_listed (files_by_path files) path) (is_listed files path)
    (λ e. has_listed files path (later (has_kept files [] path (subst (λ ps. Has ps path) (paths_kept files)
    (listed_has (files_by_path files) path e)))))
    (λ e. has_listed (files_by_path files) path (subst (λ ps. Has ps path) (sym (paths_kept files))
    (kept_has files [] path (inr (listed_has files path e)))))
  where
    later : Has [] path ⊎ Has (map input_path files) path → Has (map input_path files) path
    later h = elim h [ inl never ↦ absurd never | inr there ↦ there ]

all_listed_by_path : (files : List FileInput) (paths : List Atoms)
    → list_all (is_listed (files_by_path files)) paths ≡ list_all (is_listed files) paths
all_listed_by_path files [] = refl
all_listed_by_path files (p ∷ ps) =
    ap (λ b. b && list_all (is_listed (files_by_path files)) ps) (listed_by_path files p)
    ∙ ap (λ b. is_listed files p && b) (all_listed_by_path files ps)

pub lists_by_path : (sources : List Atoms) (files : List FileInput)
    → lists_sources sources (files_by_path files) ≡ lists_sources sources files
lists_by_path sources files = all_listed_by_path files sources
