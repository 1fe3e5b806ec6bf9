-- What a view answers of the files of a description.
use Rattle.std.proofs.Common.{◌≡◌, ℕ, Bool, ◌||◌, List, ◌∷◌, ◌++◌, filter, map, Option, Some, None, refl, ap, ◌∙◌}
use Rattle.std.specs.Prelude.{is_some}
use Rattle.std.specs.List.{flat_map}
use Rattle.bx_tree.specs.Paths.{Atoms, is_root}
use Rattle.bx_tree.specs.Trees.{Files, file_at}
use Rattle.observed.specs.declared.access.Answer.{Answer}
use Rattle.observed.specs.declared.access.Answer.TheVariants as answers
use Rattle.observed.specs.declared.ask.AskKind.{AskKind}
use Rattle.observed.specs.declared.ask.AskKind.TheVariants as kinds
use Rattle.tool_run_writes.specs.Writes.{has_below}
use Rattle.violations.specs.Producing.{least_unseen}
use Rattle.pip_model_types.specs.declared.pip.Pip.{Pip}
use Rattle.pip_model_types.specs.declared.pip.PipKind.{PipKind}
use Rattle.pip_model_types.specs.declared.pip.ProcessDesc.{ProcessDesc}
use Rattle.tool_run.specs.Description.{file_answer}
use Rattle.pip_view.specs.Agreement.{ViewAgrees}
use Rattle.pip_view_inputs.specs.Contents.{bytes_at, input_file}
use Rattle.pip_view.specs.InputFiles.{by_pip, dir_members, is_listed, is_opaque, process_files, source_members}
use Rattle.pip_view_inputs.specs.Results.{ByPip}
use Rattle.pip_view.specs.Sees.{answer_at, kind_sees, looked, pip_sees}
use Rattle.pip_view.proofs.SourceMembers.{at_both, or_else}

module _ (pips : List Pip) (tree : Files) (made : ByPip) (d : ProcessDesc) (path : Atoms) where
  abbrev own : Files
  own = (d.exe, bytes_at tree d.exe) ∷ map (input_file tree made) d.files

  abbrev listed : Files
  listed = flat_map (dir_members pips tree made) (filter is_listed d.dirs)

  abbrev opaque : Files
  opaque = flat_map (dir_members pips tree made) (by_pip (filter is_opaque d.dirs))

  -- a file of the description comes first among the input files
  first_found : (bytes : List ℕ) → file_at own path ≡ Some bytes → file_at (process_files pips tree made d) path ≡ Some bytes
  first_found bytes e =
      at_both (own ++ listed ++ opaque) (source_members pips tree made d) path
      ∙ ap (λ o. or_else o (file_at (source_members pips tree made d) path))
      (at_both (own ++ listed) opaque path
      ∙ ap (λ o. or_else o (file_at opaque path)) (at_both own listed path ∙ ap (λ o. or_else o (file_at listed path)) e))

  answered : (unseen : Bool) (kind : AskKind) (found : Option (List ℕ)) (answer : Answer) → file_at own path ≡ found → file_answer kind found ≡ Some answer
      → answer_at tree (process_files pips tree made d) unseen kind path ≡ answer
  answered unseen kinds.Read None answer e h = cc
  answered unseen kinds.Probe None answer e h = cc
  answered unseen kinds.List None answer e h = cc
  answered unseen kinds.List (Some bytes) answer e h = cc
  answered unseen (kinds.Match pattern) None answer e h = cc
  answered unseen (kinds.Match pattern) (Some bytes) answer e h = cc
  answered unseen kinds.Read (Some bytes) answer e h =
      let same : answers.Content bytes ≡ answer = cc in
      ap (λ o. looked kinds.Read o (is_some (file_at tree path)) unseen
      (has_below tree path || has_below (process_files pips tree made d) path || is_root path)) (first_found bytes e) ∙ same
  answered unseen kinds.Probe (Some bytes) answer e h =
      let same : answers.File ≡ answer = cc in
      ap (λ o. looked kinds.Probe o (is_some (file_at tree path)) unseen
      (has_below tree path || has_below (process_files pips tree made d) path || is_root path)) (first_found bytes e) ∙ same

pub agrees : ViewAgrees
agrees pips tree made budget i pip d ask answer at is h =
    ap (λ o. pip_sees pips tree made i o ask) at ∙ ap (λ (kind : PipKind). kind_sees pips tree made i kind ask) is
    ∙ answered pips tree made d ask.path (is_some (least_unseen d.dirs i ask.path 0 pips)) ask.kind (file_at (own pips tree made d ask.path) ask.path) answer
    refl h
