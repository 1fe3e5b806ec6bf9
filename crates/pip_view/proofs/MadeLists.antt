-- The files that a pip made, as items of a list that rises by path.
use Rattle.std.proofs.Common.{◌≡◌, Bool, true, false, ◌||◌, cond, List, [], ◌∷◌, filter, refl, ap, subst}
use Rattle.std.specs.List.{cons_option, filter_map, list_any}
use Rattle.std.specs.List.Sorted.{IsStrictlySortedBy}
use Rattle.bx_tree.specs.Below.{is_below, next_atom}
use Rattle.bx_tree.specs.Paths.{Atoms, path_cmp}
use Rattle.bx_tree_paths.specs.Searches.{RiseByText}
use Rattle.bx_tree_paths.proofs.Rising.{rise_by_text}
use Rattle.tool_run_writes.specs.Writes.{has_below, own_names}
use Rattle.pip_model_types.specs.Made.{RisingFiles, made_files}
use Rattle.pip_model_types.specs.declared.made.MadeFile.{MadeFile}
use Rattle.pip_model_types.proofs.FilesAt.{paths-made}
use Rattle.pip_view.specs.Gathered.{below_of}
use Rattle.pip_view.specs.NamesBelow.{names_within}

abbrev pub made_path : MadeFile → Atoms
made_path f = f.path

pub made_rise : (files : List MadeFile) → RisingFiles (made_files files) → RiseByText made_path files
made_rise files rising = rise_by_text made_path files (subst (IsStrictlySortedBy path_cmp) (paths-made files) rising)

pub below_made : (dir : Atoms) (files : List MadeFile) → list_any (λ (f : MadeFile). is_below f.path dir) files ≡ has_below (made_files files) dir
below_made dir [] = refl
below_made dir (f ∷ fs) = ap (λ t. is_below f.path dir || t) (below_made dir fs)

pub within_made : (top dir : Atoms) (files : List MadeFile) → names_within made_path top dir files ≡ own_names (below_of dir (made_files files)) top
within_made top dir [] = refl
within_made top dir (f ∷ fs) = by_test (is_below f.path dir) (within_made top dir fs)
  where
    by_test : (t : Bool) → names_within made_path top dir fs ≡ own_names (below_of dir (made_files fs)) top
        → filter_map (λ (z : MadeFile). next_atom top z.path) (cond t (f ∷ filter (λ (z : MadeFile). is_below z.path dir) fs) (filter (λ (z : MadeFile). is_below z.path dir) fs))
        ≡ own_names (cond t ((f.path, f.blob) ∷ below_of dir (made_files fs)) (below_of dir (made_files fs))) top
    by_test true more = ap (cons_option (next_atom top f.path)) more
    by_test false more = more
