-- The lines of the lists of a process.
use Rattle.std.proofs.Common.{◌≡◌, ℕ, true, List, ◌++◌, map, ap, subst, sym, ◌∙◌}
use Rattle.std.specs.List.{AllByRecursion, flat_map}
use Rattle.std.specs.List.Sorted.{IsStrictlySortedBy}
use Rattle.std.specs.Cmp.Lexicographic.{slice_cmp}
use Rattle.std.specs.Ordering.{is_lt, nat_cmp}
use Rattle.std.proofs.lemmas.List.{map-id}
use Rattle.bx_tree.specs.Orders.{path_cmp_total}
use Rattle.bx_tree.specs.Paths.{Atoms, IsPath, path_cmp}
use Rattle.bx_tree.specs.declared.file_input.FileInput.{FileInput}
use Rattle.pip_model_types.specs.Args.{IsSortedByName}
use Rattle.pip_model_types.specs.Inputs.{RiseByPath}
use Rattle.pip_model_types.specs.Orders.{outdir_cmp_total}
use Rattle.pip_model_types.specs.Outputs.{outdir_cmp}
use Rattle.pip_model_types.specs.declared.args.EnvPair.{EnvPair}
use Rattle.pip_model_types.specs.declared.dir_inputs.DirInput.{DirInput}
use Rattle.pip_model_types.specs.declared.outputs.OutDir.{OutDir}
use Rattle.pip_model_types.specs.declared.pip.ProcessDesc.{ProcessDesc}
use Rattle.prints.specs.Lines.{rises}
use Rattle.prints.specs.Processes.{IsCountable, IsOutDir, IsVariable}
use Rattle.prints.specs.ReadWeak.{not_after, outdir_before, path_before}
use Rattle.prints.specs.Weak.{arg_line, env_line, out_line, outdir_line}
use Rattle.prints.proofs.Joining.{joined_six, joined_two}
use Rattle.prints.proofs.Rising.{sorted_by_rising, sorted_rising}
use Rattle.graph_texts.specs.Inputs.{IsInput, IsRef}
use Rattle.graph_texts.specs.Pips.{dir_ref, process_row}
use Rattle.graph_texts.specs.Rows.{AreLists, done_line, in_line, indir_line, lists_text}
use Rattle.graph_texts.specs.declared.rows.DirRef.{DirRef}
use Rattle.graph_texts.proofs.InputsInOrder.{inputs_fit, inputs_rise}

-- ## Orders

variables_rise : (vs : List EnvPair) → IsSortedByName vs → rises not_after vs ≡ true
variables_rise vs h = sorted_by_rising (λ (a b : EnvPair). is_lt (slice_cmp nat_cmp a.name b.name)) vs h

paths_rise : (ps : List Atoms) → IsStrictlySortedBy path_cmp ps → rises path_before ps ≡ true
paths_rise ps h = sorted_rising path_cmp_total (λ p. p) ps (subst (IsStrictlySortedBy path_cmp) (sym (map-id ps)) h)

outdirs_rise : (ds : List OutDir) → IsStrictlySortedBy outdir_cmp ds → rises outdir_before ds ≡ true
outdirs_rise ds h = sorted_rising outdir_cmp_total (λ d. d) ds (subst (IsStrictlySortedBy outdir_cmp) (sym (map-id ds)) h)

-- ## Texts

-- seven texts that are added one after another
pub joined_seven : (t0 t1 t2 t3 t4 t5 t6 t7 a b c d e f g : List ℕ) → t1 ≡ t0 ++ a → t2 ≡ t1 ++ b → t3 ≡ t2 ++ c → t4 ≡ t3 ++ d
    → t5 ≡ t4 ++ e → t6 ≡ t5 ++ f → t7 ≡ t6 ++ g → t7 ≡ t0 ++ (a ++ (b ++ (c ++ (d ++ (e ++ (f ++ g))))))
joined_seven t0 t1 t2 t3 t4 t5 t6 t7 a b c d e f g h1 h2 h3 h4 h5 h6 h7 =
    joined_two t0 t1 t7 a (b ++ (c ++ (d ++ (e ++ (f ++ g))))) h1
    (joined_six t1 t2 t3 t4 t5 t6 t7 b c d e f g h2 h3 h4 h5 h6 h7)

abbrev all_lines : List (List ℕ) → List EnvPair → List FileInput → List DirRef → List Atoms → List OutDir → List ℕ
all_lines texts vs fs ds os ods =
    flat_map arg_line texts ++ (flat_map env_line vs ++ (flat_map in_line fs
    ++ (flat_map indir_line ds ++ (flat_map out_line os ++ (flat_map outdir_line ods ++ done_line)))))

module _ (d : ProcessDesc) (texts : List (List ℕ)) (vs : List EnvPair) (fs : List FileInput) (ds : List DirInput) (os : List Atoms)
    (ods : List OutDir) (args_are : texts ≡ d.args) (env_is : vs ≡ d.env) (files_are : fs ≡ d.files) (dirs_are : ds ≡ d.dirs)
    (outs_are : os ≡ d.outs) (outdirs_are : ods ≡ d.outdirs) where
  -- the lines, as they are written
  pub lists_written
      : all_lines (map (λ t. t) texts) (map (λ v. v) vs) (map (λ f. f) fs) (map dir_ref ds) (map (λ p. p) os) (map (λ o. o) ods)
      ≡ lists_text (process_row d)
  lists_written =
      ap (λ xs. all_lines xs (map (λ v. v) vs) (map (λ f. f) fs) (map dir_ref ds) (map (λ p. p) os) (map (λ o. o) ods)) (map-id texts ∙ args_are)
      ∙ ap (λ xs. all_lines d.args xs (map (λ f. f) fs) (map dir_ref ds) (map (λ p. p) os) (map (λ o. o) ods)) (map-id vs ∙ env_is)
      ∙ ap (λ xs. all_lines d.args d.env xs (map dir_ref ds) (map (λ p. p) os) (map (λ o. o) ods)) (map-id fs ∙ files_are)
      ∙ ap (λ xs. all_lines d.args d.env d.files (map dir_ref xs) (map (λ p. p) os) (map (λ o. o) ods)) dirs_are
      ∙ ap (λ xs. all_lines d.args d.env d.files (map dir_ref d.dirs) xs (map (λ o. o) ods)) (map-id os ∙ outs_are)
      ∙ ap (λ xs. all_lines d.args d.env d.files (map dir_ref d.dirs) d.outs xs) (map-id ods ∙ outdirs_are)

  -- the lists are those of lines
  pub lists_fit : AllByRecursion IsCountable (map (λ t. t) texts) → AllByRecursion IsVariable (map (λ v. v) vs) → IsSortedByName d.env
      → AllByRecursion IsInput (map (λ f. f) fs) → RiseByPath d.files → AllByRecursion IsRef (map dir_ref ds)
      → AllByRecursion IsPath (map (λ p. p) os) → IsStrictlySortedBy path_cmp d.outs → AllByRecursion IsOutDir (map (λ o. o) ods)
      → IsStrictlySortedBy outdir_cmp d.outdirs → AreLists (process_row d)
  lists_fit args env env_order files files_order dirs outs outs_order outdirs outdirs_order = record {
    args = subst (AllByRecursion IsCountable) (map-id texts ∙ args_are) args;
    env = subst (AllByRecursion IsVariable) (map-id vs ∙ env_is) env;
    env_order = variables_rise d.env env_order;
    files = inputs_fit d.files fs files_are files;
    files_order = inputs_rise d.files files_order;
    dirs = subst (λ (xs : List DirInput). AllByRecursion IsRef (map dir_ref xs)) dirs_are dirs;
    outs = subst (AllByRecursion IsPath) (map-id os ∙ outs_are) outs;
    outs_order = paths_rise d.outs outs_order;
    outdirs = subst (AllByRecursion IsOutDir) (map-id ods ∙ outdirs_are) outdirs;
    outdirs_order = outdirs_rise d.outdirs outdirs_order;
  }
