-- The weak text of a description.
use Rattle.std.proofs.Common.{◌≡◌, ℕ, List, [], ◌∷◌, ◌++◌, map, Some, refl, sym, ap, subst, ◌∙◌}
use Rattle.std.specs.List.{AllByRecursion, flat_map}
use Rattle.std.specs.List.Sorted.{IsStrictlySortedBy}
use Rattle.std.proofs.lemmas.List.{length-map, map-id}
use Rattle.sha2.specs.Sha256.{sha256}
use Rattle.bx_tree.specs.Paths.{Atoms, IsPath, path_cmp}
use Rattle.bx_tree.specs.Trees.{Files, paths_of}
use Rattle.bx_tree.specs.declared.file_input.FileInput.{FileInput}
use Rattle.bx_tree.specs.declared.file_input.FileInput.TheVariants.{Source}
use Rattle.pip_model_types.specs.Args.{IsSortedByName}
use Rattle.pip_model_types.specs.Dirs.{RiseByForm}
use Rattle.pip_model_types.specs.Made.{RisingFiles, made_files}
use Rattle.pip_model_types.specs.Orders.{dir_cmp_total}
use Rattle.pip_model_types.specs.Outputs.{outdir_cmp}
use Rattle.pip_model_types.specs.declared.args.EnvPair.{EnvPair}
use Rattle.pip_model_types.specs.declared.desc.Desc.{Desc}
use Rattle.pip_model_types.specs.declared.dir_inputs.DirInput.{DirInput}
use Rattle.pip_model_types.specs.declared.made.MadeFile.{MadeFile}
use Rattle.pip_model_types.specs.declared.outputs.OutDir.{OutDir}
use Rattle.prints.specs.declared.weak_lines.DirLine.{DirLine}
use Rattle.prints.specs.declared.weak_lines.FileLine.{FileLine}
use Rattle.prints.specs.declared.weak_parts.WeakParts.{WeakParts}
use Rattle.prints.specs.Processes.{AreListsWeak, IsCountable, IsDirLine, IsFileLine, IsHeadWeak, IsOutDir, IsVariable, numbered_from, weak_parts, without_pips}
use Rattle.prints.specs.ReadWeak.{read_weak_text}
use Rattle.prints.specs.Weak.{arg_line, dir_line, env_line, file_lines, in_line, indir_line, line_of_file, lists_text, out_line, outdir_line, weak_text}
use Rattle.prints.proofs.WeakTexts.{dir_paths, lines_of_numbered, numbered_again, numbered_rise, rising_itself, weak_again}
use Rattle.bx_tree.specs.FileInputs.{input_path}

-- ## Declared files

file_lines_of : (ms : List MadeFile) → file_lines (map input_path (map Source (paths_of (made_files ms)))) (map (λ (f : Atoms × List ℕ). sha256 f.1) (made_files ms)) ≡ map line_of_file ms
file_lines_of [] = refl
file_lines_of (m ∷ ms) = ap (λ t. line_of_file m ∷ t) (file_lines_of ms)

source_inputs : (ps : List Atoms) → map input_path (map Source ps) ≡ ps
source_inputs [] = refl
source_inputs (p ∷ ps) = ap (λ t. p ∷ t) (source_inputs ps)

sources_same : (ps : List Atoms) → map (λ f. Source (input_path f)) (map Source ps) ≡ map Source ps
sources_same [] = refl
sources_same (p ∷ ps) = ap (λ t. Source p ∷ t) (sources_same ps)

module _ (d : Desc) (ms : List MadeFile) (are : made_files ms ≡ d.files) where
  lines_are : file_lines (map input_path (map Source (paths_of d.files))) (map (λ (f : Atoms × List ℕ). sha256 f.1) d.files) ≡ map line_of_file ms
  lines_are =
      ap (λ (fs : Files). file_lines (map input_path (map Source (paths_of fs))) (map (λ (f : Atoms × List ℕ). sha256 f.1) fs)) (sym are) ∙ file_lines_of ms

  -- the text of the lists, as it is written
  pub lists_written : (as' : List (List ℕ)) (vs : List EnvPair) (ds : List DirInput) (os : List Atoms) (ods : List OutDir)
      → as' ≡ d.process.args → vs ≡ d.process.env → ds ≡ d.process.dirs → os ≡ d.process.outs → ods ≡ d.process.outdirs
      → flat_map arg_line (map (λ t. t) as') ++ (flat_map env_line (map (λ v. v) vs) ++ (flat_map in_line (map line_of_file ms) ++ (flat_map indir_line (map dir_line ds)
      ++ (flat_map out_line (map (λ p. p) os) ++ flat_map outdir_line (map (λ o. o) ods)))))
      ≡ lists_text (weak_parts d)
  lists_written as' vs ds os ods a v e o p =
      ap (λ xs. with_all xs (map (λ v. v) vs) (map line_of_file ms) (map dir_line ds) (map (λ p. p) os) (map (λ o. o) ods)) (map-id as' ∙ a)
      ∙ ap (λ xs. with_all d.process.args xs (map line_of_file ms) (map dir_line ds) (map (λ p. p) os) (map (λ o. o) ods)) (map-id vs ∙ v)
      ∙ ap (λ xs. with_all d.process.args d.process.env xs (map dir_line ds) (map (λ p. p) os) (map (λ o. o) ods)) (sym lines_are)
      ∙ ap (λ xs. with_all d.process.args d.process.env files xs (map (λ p. p) os) (map (λ o. o) ods)) (ap (map dir_line) e ∙ sym (lines_of_numbered 0 d.process.dirs))
      ∙ ap (λ xs. with_all d.process.args d.process.env files dirs xs (map (λ o. o) ods)) (map-id os ∙ o)
      ∙ ap (λ xs. with_all d.process.args d.process.env files dirs d.process.outs xs) (map-id ods ∙ p)
    where
      files : List FileLine
      files = file_lines (map input_path (map Source (paths_of d.files))) (map (λ (f : Atoms × List ℕ). sha256 f.1) d.files)

      dirs : List DirLine
      dirs = map dir_line (numbered_from 0 d.process.dirs)

      with_all : List (List ℕ) → List EnvPair → List FileLine → List DirLine → List Atoms → List OutDir → List ℕ
      with_all as' vs fs ds os ods =
          flat_map arg_line as' ++ (flat_map env_line vs ++ (flat_map in_line fs ++ (flat_map indir_line ds ++ (flat_map out_line os ++ flat_map outdir_line ods))))

  -- the lists are those of a weak text
  pub lists_weak : AllByRecursion IsCountable (map (λ t. t) d.process.args) → AllByRecursion IsVariable (map (λ v. v) d.process.env) → IsSortedByName d.process.env
      → AllByRecursion IsFileLine (map line_of_file ms) → RisingFiles d.files → AllByRecursion IsDirLine (map dir_line d.process.dirs) → RiseByForm d.process.dirs
      → AllByRecursion IsPath (map (λ p. p) d.process.outs) → IsStrictlySortedBy path_cmp d.process.outs
      → AllByRecursion IsOutDir (map (λ o. o) d.process.outdirs) → IsStrictlySortedBy outdir_cmp d.process.outdirs → AreListsWeak (weak_parts d)
  lists_weak args env env_order files files_order dirs dirs_order outs outs_order outdirs outdirs_order = record {
    args = subst (AllByRecursion IsCountable) (map-id d.process.args) args;
    env = subst (AllByRecursion IsVariable) (map-id d.process.env) env;
    env_order = env_order;
    files = subst (AllByRecursion IsFileLine) (sym lines_are) files;
    files_order = subst (IsStrictlySortedBy path_cmp) (sym (source_inputs (paths_of d.files))) files_order;
    one_each = length-map (paths_of d.files) Source ∙ length-map d.files (λ f. f.0) ∙ sym (length-map d.files (λ (f : Atoms × List ℕ). sha256 f.1));
    dirs = dir_paths (numbered_from 0 d.process.dirs) (subst (AllByRecursion IsDirLine) (sym (lines_of_numbered 0 d.process.dirs)) dirs);
    dirs_order = rising_itself dir_cmp_total (numbered_from 0 d.process.dirs) (numbered_rise 0 d.process.dirs dirs_order);
    outs = subst (AllByRecursion IsPath) (map-id d.process.outs) outs;
    outs_order = outs_order;
    outdirs = subst (AllByRecursion IsOutDir) (map-id d.process.outdirs) outdirs;
    outdirs_order = outdirs_order;
  }

-- ## Read back

-- what a weak text says of a description names no pips
no_pips : (d : Desc) → without_pips (weak_parts d) ≡ weak_parts d
no_pips d =
    ap (λ fs. with_lists fs (numbered_from 0 (numbered_from 0 d.process.dirs))) (sources_same (paths_of d.files))
    ∙ ap (with_lists (map Source (paths_of d.files))) (numbered_again 0 d.process.dirs)
  where
    with_lists : List FileInput → List DirInput → WeakParts
    with_lists files dirs = record {
      process = record {
        exe = d.process.exe;
        args = d.process.args;
        env = d.process.env;
        dir = d.process.dir;
        files = files;
        dirs = dirs;
        outs = d.process.outs;
        outdirs = d.process.outdirs;
        console = d.process.console;
      };
      budget = d.budget;
      exe = sha256 d.exe;
      files = map (λ (f : Atoms × List ℕ). sha256 f.1) d.files;
    }

pub desc_again : (text : List ℕ) (d : Desc) → text ≡ weak_text (weak_parts d) → IsHeadWeak (weak_parts d) → AreListsWeak (weak_parts d)
    → read_weak_text text ≡ Some (weak_parts d)
desc_again text d is head lists =
    ap read_weak_text is ∙ weak_again (weak_parts d) (record { head = head; lists = lists }) ∙ ap Some (no_pips d)
