-- The files that pips take, one after the other.
use Rattle.std.proofs.Common.{◌≡◌, ℕ, ◌+◌, ◌<◌, List, [], ◌∷◌, ◌++◌, length, map, take, get_or, refl, ap, sym, ◌∙◌, subst}
use Rattle.std.specs.List.{IsDistinct}
use Rattle.std.specs.List.Sorted.{IsStrictlySortedBy}
use Rattle.std.proofs.lemmas.List.{map-append, take_more}
use Rattle.bx_tree.specs.Paths.{path_cmp, same_path}
use Rattle.bx_tree.specs.Trees.{Files, paths_of}
use Rattle.bx_tree.specs.declared.file_input.FileInput.{FileInput}
use Rattle.pip_model_types.proofs.SameFiles.{distinct_paths}
use Rattle.pip_model_types.specs.Inputs.{RiseByPath}
use Rattle.pip_model_types.specs.Made.{RisingFiles, made_files}
use Rattle.pip_model_types.specs.declared.made.MadeFile.{MadeFile}
use Rattle.pip_view_inputs.specs.Contents.{input_file}
use Rattle.pip_view_inputs.specs.Results.{ByPip}
use Rattle.bx_tree.specs.FileInputs.{input_path}

-- one file more
pub one_more : (tree : Files) (made : ByPip) (files : List FileInput) (n : ℕ) (file : FileInput) (items new : List MadeFile) (f : MadeFile)
    → n < length files → file ≡ get_or files n file → made_files items ≡ map (input_file tree made) (take n files)
    → (f.path, f.blob) ≡ input_file tree made file → new ≡ items ++ f ∷ [] → made_files new ≡ map (input_file tree made) (take (n + 1) files)
one_more tree made files n file items new f l at so_far is e =
    ap made_files e ∙ map-append (λ (g : MadeFile). (g.path, g.blob)) items (f ∷ [])
    ∙ ap (λ fs. fs ++ (f.path, f.blob) ∷ []) so_far
    ∙ ap (λ g. map (input_file tree made) (take n files) ++ g ∷ []) (is ∙ ap (input_file tree made) at)
    ∙ sym (map-append (input_file tree made) (take n files) (get_or files n file ∷ []))
    ∙ ap (map (input_file tree made)) (sym (take_more files n file l))

pub paths_taken : (tree : Files) (made : ByPip) (files : List FileInput) → paths_of (map (input_file tree made) files) ≡ map input_path files
paths_taken tree made [] = refl
paths_taken tree made (f ∷ fs) = ap (λ ps. input_path f ∷ ps) (paths_taken tree made fs)

pub taken_rise : (tree : Files) (made : ByPip) (files : List FileInput) → RiseByPath files → RisingFiles (map (input_file tree made) files)
taken_rise tree made files rising = subst (IsStrictlySortedBy path_cmp) (sym (paths_taken tree made files)) rising

pub taken_distinct : (tree : Files) (made : ByPip) (files : List FileInput) (given : Files) → RiseByPath files → given ≡ map (input_file tree made) files
    → IsDistinct same_path (paths_of given)
taken_distinct tree made files given rising e =
    subst (λ fs. IsDistinct same_path (paths_of fs)) (sym e)
    (distinct_paths (map (input_file tree made) files) (taken_rise tree made files rising))
